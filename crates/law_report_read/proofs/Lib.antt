pub mod Parts
pub mod Lines
pub mod Reports
pub mod Newlines
pub mod Texts
