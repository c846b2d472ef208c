pub mod Passed
pub mod Messages
pub mod Items
pub mod Worth
