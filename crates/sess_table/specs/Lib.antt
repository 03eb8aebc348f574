pub mod Signs
pub mod Live
pub mod Endings
pub mod TableParts
