pub mod BoxAt
pub mod InTurn
pub mod SortedTold
pub mod BelowNext
pub mod QuietCommands
pub mod BesideBook
