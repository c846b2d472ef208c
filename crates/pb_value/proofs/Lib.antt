pub mod Views
pub mod Fields
pub mod Reading
pub mod Copies
pub mod Appended
mod Texts
