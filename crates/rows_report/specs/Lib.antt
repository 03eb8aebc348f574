pub mod ReportRows
pub mod Spellings
