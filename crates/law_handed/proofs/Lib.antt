mod Acts
mod Ranks
pub mod Replies
