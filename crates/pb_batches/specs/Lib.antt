pub mod Batches
pub mod Words
