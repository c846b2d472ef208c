pub mod Ordered
pub mod Books
pub mod Reading
pub mod Faults
pub mod Words
