pub mod Laws
pub mod Others
pub mod Rooted
pub mod Words
