pub mod Sending
pub mod Serving
pub mod Saying
pub mod Moving
pub mod Runs
pub mod Derived
