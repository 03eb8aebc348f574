pub mod ClapLemmas
