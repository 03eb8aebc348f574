pub mod Takens
pub mod Goods
pub mod Serving
pub mod Reading
pub mod Transitions
