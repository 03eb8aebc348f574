pub mod HostPlans
pub mod HostSteps
pub mod HostViews
pub mod InConflict
pub mod StoresMatch
