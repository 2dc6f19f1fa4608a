pub mod Shape
pub mod Members
pub mod Keys
pub mod Groups
pub mod View
pub mod Laws
