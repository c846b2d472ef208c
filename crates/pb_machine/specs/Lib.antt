pub mod Steps
pub mod Hosts
pub mod Ways
pub mod Run
pub mod Laws
pub mod Simulation
pub mod Joins
pub mod Rows
