pub mod Lifting
mod Sitting
mod Opening
mod Showing
