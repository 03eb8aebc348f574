pub mod Pasts
pub mod Agreement
