pub mod Heights
pub mod Widths
