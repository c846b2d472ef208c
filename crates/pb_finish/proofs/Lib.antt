pub mod SameFields
pub mod Admissions
pub mod FactChanges
pub mod Statused
pub mod Written
pub mod Comes
