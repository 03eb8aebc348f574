pub mod Clients
pub mod Receipts
