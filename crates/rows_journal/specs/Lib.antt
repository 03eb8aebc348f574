pub mod JournalRows
