pub mod Letters
pub mod Places
pub mod Ends
pub mod Loads
pub mod ItemTests
