pub mod ChangeView
pub mod Found
pub mod FaultFound
pub mod Words
