pub mod Stacks
pub mod Marks
pub mod Made
pub mod Along
pub mod Ends
