pub mod FaithfulReports
pub mod BrokenReports
