pub mod InstanceStores
