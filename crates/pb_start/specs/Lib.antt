pub mod Items
pub mod Locals
pub mod Conditions
pub mod Actions
pub mod Prepared
pub mod Passes
pub mod Blocks
pub mod Words
