pub mod Answers
pub mod Judging
pub mod Outcomes
pub mod SourceRests
pub mod Statuses
