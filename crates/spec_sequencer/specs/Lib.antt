pub mod Sequencers
