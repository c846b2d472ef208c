pub mod Findings
pub mod AnsweredCases
pub mod NewCases
pub mod Records
