pub mod OpenWorlds
pub mod Scenes
pub mod StandingRuns
