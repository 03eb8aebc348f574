pub mod CallLines
pub mod Replies
pub mod Items
pub mod Report
pub mod Json
pub mod ReportValues
