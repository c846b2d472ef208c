pub mod Roots
pub mod RootsView
pub mod Round
pub mod Reads
pub mod Reached
pub mod Needed
pub mod Uses
pub mod Done
