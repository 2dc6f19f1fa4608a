pub mod Moved
pub mod Fronts
