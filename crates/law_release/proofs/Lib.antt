pub mod Tests
pub mod Releases
