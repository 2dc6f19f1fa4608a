pub mod Blocks
pub mod Listed
pub mod Fitting
pub mod Undone
pub mod Granted
pub mod PadsHide
