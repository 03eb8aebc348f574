pub mod Indexes
pub mod Kept
pub mod Seen
pub mod OneOfEach
pub mod State
pub mod BookSteps
pub mod Walk
