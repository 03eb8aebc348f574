pub mod GivingOut
pub mod Numbered
pub mod Refusals
pub mod CountedClients
