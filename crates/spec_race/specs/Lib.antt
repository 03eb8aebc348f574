pub mod Rounds
pub mod Race
