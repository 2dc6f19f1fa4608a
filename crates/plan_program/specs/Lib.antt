pub mod Requests
pub mod Outcomes
pub mod Parts
pub mod Program
