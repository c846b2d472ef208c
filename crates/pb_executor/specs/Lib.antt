pub mod States
pub mod Inside
pub mod Sound
pub mod Drives
pub mod Refusals
pub mod Words
pub mod Replays
