pub mod LeftStores
