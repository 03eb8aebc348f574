pub mod ReadScripts
pub mod Drafts
