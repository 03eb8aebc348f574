-- What records leave, and whether one of the number of entries is among them.
use Rattle.std.specs.Prelude.{Bool, ◌||◌, List}
use Rattle.ax_types.specs.declared.entries.Loaded.{Loaded}
use Rattle.spec_journal.specs.Records as journal_records
use Rattle.spec_journal.specs.Journal as journals

pub record Left : Type 0 where
  pub content : Loaded
  pub counted : Bool

abbrev pub left_of : List journal_records.Record → Left
left_of records = record { content = journals.content records; counted = journals.has_count records }

abbrev pub left_then : Left → journal_records.Record → Left
left_then left r = record { content = journals.after_record left.content r; counted = left.counted || journals.is_count r }
