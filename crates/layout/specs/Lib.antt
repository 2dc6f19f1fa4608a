pub mod Part
pub mod Table
pub mod Laws
