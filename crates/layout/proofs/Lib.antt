pub mod Few
pub mod Joined
pub mod Lying
