pub mod Floors
pub mod Order
pub mod Ends
pub mod Changes
