pub mod Outputs
pub mod Limits
