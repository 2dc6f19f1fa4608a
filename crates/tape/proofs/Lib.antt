pub mod Cutting
pub mod Writing
pub mod Taping
pub mod Reopened
pub mod Overwriting
