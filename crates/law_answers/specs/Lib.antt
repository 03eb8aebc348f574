pub mod TrueServers
pub mod TrueSteps
pub mod Passing
