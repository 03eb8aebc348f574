pub mod Following
pub mod Each
pub mod Rules
pub mod Steps
