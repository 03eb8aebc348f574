pub mod Unwatched
pub mod Effects
pub mod Seats
pub mod Runs
