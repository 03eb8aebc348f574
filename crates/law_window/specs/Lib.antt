pub mod WindowKnown
pub mod WindowLives
pub mod WindowRule
pub mod WindowPlays
pub mod WindowSeats
