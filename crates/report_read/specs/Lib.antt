pub mod ReadAnswers
