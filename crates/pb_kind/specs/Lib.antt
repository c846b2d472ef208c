pub mod KindView
pub mod Growing
pub mod Found
pub mod Added
pub mod Joins
pub mod Words
pub mod KindWeight
