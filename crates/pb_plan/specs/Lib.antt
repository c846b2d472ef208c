pub mod Plays
pub mod Nodes
pub mod Words
