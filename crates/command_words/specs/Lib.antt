pub mod Meaning
pub mod Given
