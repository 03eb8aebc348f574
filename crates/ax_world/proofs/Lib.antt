pub mod Placed
pub mod Doing
pub mod Lifted
pub mod Delivered
pub mod Stepped
pub mod StandsStep
