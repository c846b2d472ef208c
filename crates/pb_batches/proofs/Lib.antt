pub mod Batches
pub mod Patterns
