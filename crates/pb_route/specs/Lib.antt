pub mod Station
pub mod Gathered
pub mod Visited
pub mod Routes
pub mod Places
pub mod Words
