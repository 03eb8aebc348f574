pub mod ConnectionAt
pub mod ReadsGiven
pub mod BatchesSent
pub mod HeldAfter
pub mod PlacesApplied
pub mod Staged
