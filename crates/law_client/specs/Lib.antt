pub mod Inputs
pub mod Standing
pub mod Promises
pub mod Example
