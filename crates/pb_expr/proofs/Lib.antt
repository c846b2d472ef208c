pub mod Untold
pub mod Ways
pub mod FoundParts
pub mod AskedTrees
