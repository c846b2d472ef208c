pub mod OwnWorld
pub mod Worth
pub mod Words
