pub mod Commands
pub mod Closes
pub mod Requests
