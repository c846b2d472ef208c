pub mod Answered
pub mod Scripted
pub mod Scripts
