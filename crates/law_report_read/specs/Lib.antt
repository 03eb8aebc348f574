pub mod ReportReadBack
