pub mod Reading
pub mod ReadOperations
pub mod ReadQueries
pub mod ReadReplies
pub mod Packets
