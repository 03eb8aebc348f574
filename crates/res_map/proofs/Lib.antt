pub mod Keys
pub mod Written
pub mod Index
pub mod Ended
pub mod First
pub mod Gone
pub mod Idle
