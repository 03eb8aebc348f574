pub mod Systems
pub mod Transitions
