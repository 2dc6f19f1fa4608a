pub mod Entries
pub mod Refusals
pub mod Checks
pub mod Written
pub mod Law
pub mod GroupLines
pub mod Order
pub mod Prints
