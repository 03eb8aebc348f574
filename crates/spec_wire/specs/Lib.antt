pub mod NumberBytes
pub mod OperationBytes
pub mod Spelling
pub mod Ranges
