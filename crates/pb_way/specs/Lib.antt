pub mod Tabled
pub mod Walks
pub mod Words
