pub mod View
pub mod FromJson
pub mod Append
pub mod Words
pub mod Weights
pub mod ValueWeight
