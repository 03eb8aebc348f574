pub mod Loops
pub mod Short
pub mod Cuts
pub mod Bytes
pub mod Dots
