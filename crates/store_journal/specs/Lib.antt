pub mod StoreTold
pub mod KeeperTold
pub mod MemStores
pub mod LeftBy
pub mod Journaled
