pub mod Starts
pub mod Turns
pub mod Histories
pub mod Numbers
pub mod Actives
