pub mod Outlines
pub mod Leads
pub mod Nodes
pub mod Numbers
pub mod Uses
pub mod Tasks
pub mod Words
