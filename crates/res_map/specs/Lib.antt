pub mod Lives
pub mod Put
pub mod Told
