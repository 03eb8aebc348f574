pub mod Senders
pub mod Between
pub mod Pairing
pub mod Taking
pub mod Making
pub mod Agreeing
pub mod Saved
pub mod Gaining
