pub mod Refusals
pub mod Lines
pub mod Tapes
pub mod Laws
