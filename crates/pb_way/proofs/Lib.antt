pub mod Alongs
pub mod Tables
pub mod Walking
pub mod Solved
