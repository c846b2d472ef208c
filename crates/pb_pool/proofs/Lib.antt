pub mod Keeps
pub mod Works
pub mod Executions
