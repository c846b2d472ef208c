pub mod Standing
pub mod Words
