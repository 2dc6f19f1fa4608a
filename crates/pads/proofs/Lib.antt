pub mod Placed
pub mod Rising
pub mod Named
pub mod BookRows
pub mod Booked
