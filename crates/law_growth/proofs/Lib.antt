pub mod NodesStay
pub mod ClientsStay
pub mod Cases
pub mod Numbers
pub mod Sent
