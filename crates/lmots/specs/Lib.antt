pub mod LmOts
pub mod Lanes
pub mod Laws
pub mod Refusals
