pub mod RunTexts
mod Verdicts
pub mod Runs
pub mod Filed
