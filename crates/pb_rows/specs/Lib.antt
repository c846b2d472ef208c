pub mod Recaps
pub mod Small
