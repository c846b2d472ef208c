pub mod CaseSteps
pub mod Judged
pub mod LawfulShapes
pub mod TasksRead
pub mod Sharing
