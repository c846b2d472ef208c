pub mod Standings
pub mod Tasks
pub mod Doings
pub mod Clauses
pub mod Limits
pub mod Offences
pub mod Faults
pub mod Words
