pub mod Visits
pub mod Footing
pub mod Made
pub mod Words
