pub mod UpgradePromise
