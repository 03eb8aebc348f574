pub mod BoxOrder
pub mod Batching
pub mod SessionParts
pub mod ServerSessions
