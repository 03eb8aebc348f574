pub mod Found
pub mod Effects
pub mod Queues
