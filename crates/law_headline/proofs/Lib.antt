pub mod HeadlineRuns
