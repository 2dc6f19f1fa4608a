pub mod Refusals
pub mod Holding
pub mod Pairs
pub mod Entries
pub mod Caches
pub mod Tables
pub mod Laws
