pub mod Alike
pub mod Laws
pub mod Named
pub mod Words
