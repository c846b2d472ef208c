pub mod Flow
pub mod Nodes
pub mod Exits
pub mod Places
pub mod Build
pub mod Ahead
pub mod Solved
pub mod Words
