pub mod Members
pub mod Tasks
pub mod Packets
pub mod Matched
pub mod Folds
pub mod Growth
pub mod Applied
