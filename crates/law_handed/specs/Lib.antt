pub mod HandedOnce
