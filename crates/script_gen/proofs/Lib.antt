pub mod Deeds
pub mod Digits
pub mod Lines
