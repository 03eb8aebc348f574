pub mod Matching
pub mod Polls
pub mod Past
pub mod PastMoves
pub mod Later
