pub mod Run
pub mod KeptStores
