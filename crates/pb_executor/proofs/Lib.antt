pub mod Waiting
pub mod Runs
pub mod Driven
pub mod Insides
pub mod Replays
pub mod Turns
pub mod Slotted
