pub mod Positions
pub mod Majority
pub mod Log
pub mod Ballot
pub mod Progress
