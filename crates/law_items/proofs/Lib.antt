pub mod Rules
pub mod Tasks
pub mod Quiet
pub mod Below
pub mod Leads
pub mod Order
