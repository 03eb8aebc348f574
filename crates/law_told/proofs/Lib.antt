pub mod Lists
pub mod Growth
pub mod Chain
pub mod Apart
pub mod Telling
pub mod Named
pub mod Staying
