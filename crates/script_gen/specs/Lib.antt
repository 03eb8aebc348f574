pub mod Deeds
pub mod GeneratedLines
