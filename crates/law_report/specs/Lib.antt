pub mod ReportsDiffer
