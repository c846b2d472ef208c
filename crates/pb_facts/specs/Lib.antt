pub mod Facts
pub mod Rows
pub mod Variables
pub mod Words
