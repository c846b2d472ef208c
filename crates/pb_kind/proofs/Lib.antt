pub mod Views
pub mod KeptLists
pub mod Copies
pub mod Projections
pub mod KindLemmas
pub mod JoinLemmas
pub mod GrowLemmas
pub mod Adding
mod Merging
mod Few
