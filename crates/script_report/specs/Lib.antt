pub mod ReportForms
