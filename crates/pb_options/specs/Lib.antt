pub mod Options
pub mod Inputs
