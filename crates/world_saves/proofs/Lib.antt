pub mod ChainCases
pub mod Remains
