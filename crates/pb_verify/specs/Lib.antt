pub mod Codes
pub mod Meaning
pub mod Judges
pub mod Known
pub mod Scenes
pub mod Words
