pub mod Gates
pub mod Servers
pub mod ServerStep
