pub mod Settled
pub mod Contents
pub mod Newest
pub mod Held
