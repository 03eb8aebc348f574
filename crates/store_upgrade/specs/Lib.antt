pub mod UpgradedStores
