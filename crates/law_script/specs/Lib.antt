pub mod StepForms
pub mod StepsReadBack
pub mod ScriptsWithin
