pub mod Conditions
pub mod Others
pub mod StepOutcomes
pub mod Roles
