pub mod Voters
