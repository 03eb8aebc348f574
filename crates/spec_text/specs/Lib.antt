pub mod Words
pub mod OperationWords
