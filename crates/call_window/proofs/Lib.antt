pub mod Required
pub mod Agreeing
pub mod Opening
pub mod Drawing
pub mod Pumping
pub mod Closing
