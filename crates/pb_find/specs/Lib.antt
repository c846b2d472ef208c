pub mod Ways
pub mod Finds
pub mod Written
pub mod Words
