mod Led
pub mod Same
