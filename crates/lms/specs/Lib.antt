pub mod Lms
pub mod Accepted
pub mod Laws
pub mod Nodes
pub mod Refusals
pub mod Grown
pub mod Scheme
