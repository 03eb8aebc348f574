pub mod EndNumbers
pub mod Links
pub mod Ways
pub mod KeptPackets
pub mod Reasons
pub mod Fronts
