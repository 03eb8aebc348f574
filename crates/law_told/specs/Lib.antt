pub mod ToldEvents
pub mod Truth
