pub mod Schedules
pub mod Words
