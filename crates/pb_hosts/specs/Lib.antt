pub mod Equal
pub mod Tables
pub mod Shown
pub mod Casts
pub mod Constants
pub mod Sights
pub mod Words
pub mod Given
