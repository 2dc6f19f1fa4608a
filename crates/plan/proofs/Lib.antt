pub mod Tested
pub mod Seats
pub mod Shares
pub mod Owners
pub mod Found
pub mod Membership
