pub mod Askable
pub mod Reached
pub mod Between
pub mod Paired
pub mod Taking
pub mod Gained
