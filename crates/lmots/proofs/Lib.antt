pub mod Chains
pub mod Widths
pub mod Eight
pub mod Feeding
pub mod Cells
pub mod Guards
pub mod Figures
