pub mod Made
pub mod Runs
pub mod Plans
pub mod Known
