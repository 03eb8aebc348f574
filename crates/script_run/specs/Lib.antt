pub mod Carrying
pub mod RunsInCode
pub mod ScriptRuns
