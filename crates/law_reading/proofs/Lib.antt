pub mod Readers
pub mod Fields
pub mod Operations
pub mod Queries
pub mod Answers
pub mod Entries
pub mod Packets
pub mod Laws
