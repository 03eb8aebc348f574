pub mod WindowWords
pub mod Views
pub mod WindowCalls
pub mod WindowAgreement
