pub mod Fips180
pub mod State
pub mod View
pub mod Feeding
pub mod Whole
pub mod Laws
