pub mod Splits
pub mod Numbers
pub mod Parts
pub mod Operations
pub mod Queries
pub mod Steps
pub mod Digits
pub mod Within
