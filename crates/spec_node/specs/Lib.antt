pub mod Node
pub mod NodeStep
pub mod Saving
