pub mod Lasts
pub mod Losses
pub mod Words
