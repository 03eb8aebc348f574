pub mod ReplyWords
pub mod ItemWords
pub mod ReportForm
