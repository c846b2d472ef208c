pub mod Names
pub mod Planned
pub mod Admits
pub mod Runs
