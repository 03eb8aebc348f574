pub mod RaceRows
