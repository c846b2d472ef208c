pub mod Offences
pub mod Writes
mod Grows
mod Either
mod Finding
pub mod Entering
mod Counting
