pub mod Kept
pub mod Jobs
pub mod Seats
pub mod Pools
pub mod Executed
