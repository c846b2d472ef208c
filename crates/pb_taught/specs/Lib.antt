pub mod Before
pub mod OwnScope
pub mod TaughtView
pub mod Joined
pub mod Words
