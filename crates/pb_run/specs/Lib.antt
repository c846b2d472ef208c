pub mod Openings
pub mod Recorded
pub mod Faults
pub mod Calls
pub mod Starts
pub mod Turned
pub mod Follows
pub mod Words
