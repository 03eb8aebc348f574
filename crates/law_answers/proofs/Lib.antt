pub mod Passing
pub mod Entries
pub mod Lasting
pub mod Terms
pub mod Steps
