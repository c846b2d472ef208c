pub mod Turns
pub mod Jobs
pub mod Happens
pub mod Numbers
pub mod Laws
