pub mod Bag
pub mod Cluster
