pub mod Open
pub mod Groups
