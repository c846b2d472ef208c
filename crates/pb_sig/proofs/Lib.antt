pub mod Found
pub mod Copies
pub mod Ended
pub mod ResultKinds
pub mod Forms
pub mod Fieldwise
pub mod Plain
pub mod Laws
pub mod Refused
mod ReadsBack
