pub mod Calls
pub mod Active
pub mod Scenes
pub mod HostTasks
pub mod Tasks
pub mod Machines
pub mod Faults
