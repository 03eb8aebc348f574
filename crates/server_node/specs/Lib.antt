pub mod ServerConditions
