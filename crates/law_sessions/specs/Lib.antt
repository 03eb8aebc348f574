pub mod Acts
pub mod Folds
pub mod Keeping
