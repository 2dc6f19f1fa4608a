pub mod KeyParts
pub mod Sources
pub mod Refusals
pub mod Split
pub mod Laws
pub mod Hiding
