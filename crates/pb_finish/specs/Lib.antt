pub mod Answers
pub mod Breaches
pub mod Results
pub mod Facts
pub mod Endings
pub mod Words
