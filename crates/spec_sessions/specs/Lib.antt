pub mod Tables
pub mod Outboxes
pub mod Sessions
