pub mod SameValues
pub mod HistoryCondition
pub mod ItemConditions
pub mod SessionConditions
pub mod Audit
