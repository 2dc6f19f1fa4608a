pub mod Reading
pub mod Text
pub mod Telling
