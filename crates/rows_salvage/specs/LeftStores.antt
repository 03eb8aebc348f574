-- Stores that are left of clusters of three, and what a salvage writes of them.
use Rattle.std.specs.Prelude.{ℕ, pos, Some, None, List, [], ◌∷◌, ◌++◌, codes}
use Rattle.ax_types.specs.declared.ops.LongOp.TheVariants as long_op
use Rattle.ax_types.specs.declared.ops.Op.TheVariants as op
use Rattle.ax_types.specs.declared.entries.Body.TheVariants as body
use Rattle.ax_types.specs.declared.entries.Entry.{Entry}
use Rattle.ax_types.specs.declared.entries.Loaded.{Loaded}
use Rattle.ax_types.specs.declared.findings.Found.{Found}
use Rattle.ax_types.specs.declared.findings.Found.TheVariants as found

abbrev pub at_term : ℕ → body.the_data → Entry
at_term term b = record { term = term; time = 0; body = b }

-- client 1 opened session 2, and its call is at place 3
abbrev pub first_entries : List Entry
first_entries =
    at_term 1 body.Blank ∷ at_term 1 (body.Register 1 1)
    ∷ at_term 1 (body.Command 1 2 1 (codes "c") (op.Long (long_op.Add (pos 5)))) ∷ []

-- node 2 led term 2, and the call came again
abbrev pub later_entries : List Entry
later_entries = at_term 2 body.Blank ∷ at_term 2 (body.Command 1 2 1 (codes "c") (op.Long (long_op.Add (pos 5)))) ∷ []

abbrev pub old_leader : Loaded
old_leader = record { term = 1; vote = Some 1; log = first_entries }

abbrev pub new_leader : Loaded
new_leader = record { term = 2; vote = Some 2; log = first_entries ++ later_entries }

-- node 1 went on alone in term 1
abbrev pub lonely_leader : Loaded
lonely_leader = record old_leader { log = first_entries ++ at_term 1 (body.Expire 2) ∷ at_term 1 (body.Expire 2) ∷ at_term 1 (body.Expire 2) ∷ [] }

abbrev pub history_lines : List (List ℕ)
history_lines =
    codes "newest 2" ∷ codes "history 5" ∷ codes "1 0 nothing" ∷ codes "2 0 open 1 1" ∷ codes "3 0 do 2 long c add 5"
    ∷ codes "4 0 nothing" ∷ codes "5 0 nothing" ∷ codes "end done" ∷ []

abbrev pub third_lost : List Found
third_lost = found.Good 1 old_leader ∷ found.Good 2 new_leader ∷ found.Empty 3 ∷ []

abbrev pub third_lost_lines : List (List ℕ)
third_lost_lines = codes "salvage 1" ∷ codes "store 1 1 3" ∷ codes "store 2 2 5" ∷ codes "store 3 empty" ∷ history_lines

abbrev pub longer_older : List Found
longer_older = found.Good 1 lonely_leader ∷ found.Good 2 new_leader ∷ found.Bad 3 17 ∷ []

abbrev pub longer_older_lines : List (List ℕ)
longer_older_lines = codes "salvage 1" ∷ codes "store 1 1 6" ∷ codes "store 2 2 5" ∷ codes "store 3 bad 17" ∷ history_lines

abbrev pub one_of_three : List Found
one_of_three = found.Good 1 old_leader ∷ found.Empty 2 ∷ found.Bad 3 0 ∷ []
