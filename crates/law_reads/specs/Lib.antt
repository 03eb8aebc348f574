pub mod Service
pub mod Reads
