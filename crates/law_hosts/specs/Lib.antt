pub mod Ledger
pub mod Hosts
pub mod Committed
