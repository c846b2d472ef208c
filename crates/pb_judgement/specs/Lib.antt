pub mod Ends
pub mod Surrounded
pub mod Results
pub mod Words
