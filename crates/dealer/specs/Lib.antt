pub mod Refusals
pub mod Sheet
pub mod Dealt
pub mod Tabled
pub mod Laws
