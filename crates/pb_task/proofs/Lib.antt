pub mod Works
pub mod Values
pub mod Glue
