pub mod NineJournals
