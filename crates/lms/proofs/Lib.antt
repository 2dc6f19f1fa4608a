pub mod Coding
pub mod Joints
pub mod Trees
pub mod Checks
pub mod Sound
pub mod Exact
pub mod Holding
