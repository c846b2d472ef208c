pub mod Accepted
pub mod Planned
