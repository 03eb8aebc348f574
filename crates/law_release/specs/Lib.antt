pub mod Releases
