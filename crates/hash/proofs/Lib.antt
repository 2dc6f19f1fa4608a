pub mod Buffers
pub mod Chaining
pub mod Masks
