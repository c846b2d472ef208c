pub mod Commands
mod Refusals
