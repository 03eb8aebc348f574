pub mod PlanCases
pub mod Staying
