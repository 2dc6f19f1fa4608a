pub mod Buffered
pub mod Buffers
pub mod Bytes
pub mod Chaining
pub mod Rfc2104
