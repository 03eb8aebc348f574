pub mod Index
pub mod Passed
