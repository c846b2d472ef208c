mod Passes
pub mod Worlds
mod Nodes
mod HostTasks
pub mod Endings
mod Outcomes
mod Seen
mod Begins
mod Turns
mod Openings
mod Gives
mod Finishes
mod Faults
