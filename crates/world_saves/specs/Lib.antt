pub mod SaveChain
pub mod Replacing
