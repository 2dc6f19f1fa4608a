pub mod Asking
pub mod Cutting
pub mod Decoding
pub mod Listing
pub mod Naming
pub mod Taking
pub mod Written
