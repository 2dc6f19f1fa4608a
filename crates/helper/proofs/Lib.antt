pub mod Keeping
pub mod Lent
pub mod Looking
