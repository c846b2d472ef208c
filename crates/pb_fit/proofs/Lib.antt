pub mod InTurn
pub mod Calls
pub mod SetNames
