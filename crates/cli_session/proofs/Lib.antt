pub mod Numbers
pub mod Refused
pub mod Release
pub mod Sent
pub mod Sound
