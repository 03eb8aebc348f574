pub mod ConnectionOrder
pub mod ServerStates
pub mod StepAsks
pub mod StepStages
