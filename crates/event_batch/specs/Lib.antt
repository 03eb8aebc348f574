pub mod BatchOrder
