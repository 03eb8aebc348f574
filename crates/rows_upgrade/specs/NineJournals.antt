-- The journals of nine nodes, of which all but the first are empty.
use Rattle.std.specs.Prelude.{ℕ, Some, List, [], ◌∷◌, codes, replicate}
use Rattle.spec_reading.specs.Reading as reading
use Rattle.spec_journal.specs.Records as journal_records
use Rattle.spec_journal.specs.Journal as journals
use Rattle.spec_upgrade.specs.Upgrade as upgrades
use Rattle.rows_journal.specs.JournalRows as journal_rows

abbrev pub old : journals.Journal
old = journals.whole_journal (journal_records.Vote 1 (Some 1) ∷ journal_records.Plain journal_rows.blank_entry ∷ [])

abbrev pub new : journals.Journal
new = journals.whole_journal (upgrades.upgraded_records old.records)

-- a whole record of no entries, and then bytes that begin no record
abbrev pub bad : journals.Journal
bad = record { records = journal_records.Count 0 ∷ []; rest = 255 ∷ []; why = reading.Wrong }

abbrev pub first_is : journals.Journal → List journals.Journal
first_is j = j ∷ replicate 8 (journals.whole_journal [])

abbrev pub old_line : List ℕ
old_line = codes "store 1 version 1 entries 1"

abbrev pub new_line : List ℕ
new_line = codes "store 1 version 2 entries 1"

abbrev pub first_line_is : List ℕ → List (List ℕ)
first_line_is line =
    line ∷ codes "store 2 version 0 entries 0" ∷ codes "store 3 version 0 entries 0" ∷ codes "store 4 version 0 entries 0"
    ∷ codes "store 5 version 0 entries 0" ∷ codes "store 6 version 0 entries 0" ∷ codes "store 7 version 0 entries 0"
    ∷ codes "store 8 version 0 entries 0" ∷ codes "store 9 version 0 entries 0" ∷ []
