pub mod BothTaught
pub mod Seen
pub mod NamedRoots
