pub mod Texts
pub mod FileVerdicts
pub mod Outcomes
