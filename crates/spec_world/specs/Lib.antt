pub mod Worlds
pub mod Plans
pub mod Moves
