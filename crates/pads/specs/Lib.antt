pub mod Row
pub mod Labels
pub mod Labelled
pub mod Source
pub mod Books
pub mod Laws
