pub mod StepLines
pub mod Scripts
