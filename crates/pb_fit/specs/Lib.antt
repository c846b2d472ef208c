pub mod Asked
pub mod SetsView
pub mod Words
