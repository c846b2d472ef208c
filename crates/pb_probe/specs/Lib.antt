pub mod OneHost
pub mod Registered
pub mod Said
pub mod Told
