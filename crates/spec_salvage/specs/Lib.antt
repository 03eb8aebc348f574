pub mod Salvage
