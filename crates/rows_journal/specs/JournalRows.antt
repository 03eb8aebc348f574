-- Worked journals and their bytes.
use Rattle.std.specs.Prelude.{ℕ, List, [], ◌∷◌, ◌++◌, Some}
use Rattle.ax_types.specs.declared.entries.Body.TheVariants as body
use Rattle.ax_types.specs.declared.entries.Entry.{Entry}
use Rattle.ax_types.specs.declared.entries.Loaded.{Loaded}

-- term 1 with a vote for node 1
abbrev pub vote_record : List ℕ
vote_record = 0x11 ∷ 0 ∷ 0 ∷ 0 ∷ 0 ∷ 0 ∷ 0 ∷ 0 ∷ 1 ∷ 1 ∷ []

-- a blank entry of term 1 and time 0
abbrev pub blank_entry : Entry
blank_entry = record { term = 1; time = 0; body = body.Blank }

abbrev pub blank_entry_spelled : List ℕ
blank_entry_spelled = 0 ∷ 0 ∷ 0 ∷ 0 ∷ 0 ∷ 0 ∷ 0 ∷ 1 ∷ 0 ∷ 0 ∷ 0 ∷ 0 ∷ 0 ∷ 0 ∷ 0 ∷ 0 ∷ 0 ∷ []

-- 28 bytes of version 1
abbrev pub old_journal : List ℕ
old_journal = vote_record ++ 0x13 ∷ blank_entry_spelled

-- no entries
abbrev pub count_record : List ℕ
count_record = 0x14 ∷ 0 ∷ 0 ∷ 0 ∷ 0 ∷ 0 ∷ 0 ∷ 0 ∷ 0 ∷ []

-- the blank entry at this place below 256
abbrev pub placed_record : ℕ → List ℕ
placed_record place = 0x15 ∷ 0 ∷ 0 ∷ 0 ∷ 0 ∷ 0 ∷ 0 ∷ 0 ∷ place ∷ blank_entry_spelled

-- 45 bytes of version 2
abbrev pub new_journal : List ℕ
new_journal = count_record ++ vote_record ++ placed_record 1

-- what both keep
abbrev pub kept_content : Loaded
kept_content = record { term = 1; vote = Some 1; log = blank_entry ∷ [] }
