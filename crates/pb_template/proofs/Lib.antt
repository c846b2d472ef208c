pub mod Ordered
pub mod Built
pub mod Plain
pub mod Levels
pub mod Braces
