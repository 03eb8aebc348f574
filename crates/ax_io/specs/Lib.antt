pub mod Count
pub mod Content
pub mod Memory
pub mod ReadError
pub mod Adapted
