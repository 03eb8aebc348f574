-- What a node's store keeps: the store calls of a step, and what they leave where one of them fails.
use Rattle.std.specs.Prelude.{ℕ, Bool, ◌&&◌, nat_le, Option, Some, None, List, [], ◌∷◌, ◌++◌, length, take, slice_get}
use Rattle.ax_types.specs.declared.entries.Entry.{Entry}
use Rattle.ax_types.specs.declared.entries.Loaded.{Loaded}
use Rattle.ax_types.specs.declared.raft.Saves.{Saves}

-- one store call
pub data Save : Type 0 where
  Vote : ℕ → Option ℕ → Save
  Cut : ℕ → Save
  Add : List Entry → Save

abbrev pub vote_call : Option (ℕ × Option ℕ) → List Save
vote_call None = []
vote_call (Some v) = Vote v.0 v.1 ∷ []

abbrev pub cut_call : Option ℕ → List Save
cut_call None = []
cut_call (Some last) = Cut last ∷ []

abbrev pub add_call : List Entry → List Save
add_call [] = []
add_call (e ∷ es) = Add (e ∷ es) ∷ []

-- the store calls of a step, in their order
abbrev pub calls_of : Saves → List Save
calls_of s = vote_call s.vote ++ (cut_call s.cut ++ add_call s.add)

-- what is kept after a store call that succeeded
abbrev pub saved : Loaded → Save → Loaded
saved kept (Vote term vote) = record kept { term = term; vote = vote }
saved kept (Cut last) = record kept { log = take last kept.log }
saved kept (Add es) = record kept { log = kept.log ++ es }

abbrev pub all_saved : Loaded → List Save → Loaded
all_saved kept [] = kept
all_saved kept (c ∷ calls) = all_saved (saved kept c) calls

-- the entries of an `add` that failed: a beginning of them may be kept
abbrev pub at_stake : Option Save → List Entry
at_stake None = []
at_stake (Some (Vote term vote)) = []
at_stake (Some (Cut last)) = []
at_stake (Some (Add es)) = es

-- what is kept where the call after the first n failed, and n more entries of it stayed
abbrev pub kept_at_failure : Loaded → List Save → ℕ → Loaded
kept_at_failure kept calls n = all_saved kept (take n calls)

abbrev pub with_rest : Loaded → List Entry → ℕ → Loaded
with_rest kept es added = record kept { log = kept.log ++ take added es }

-- whether the call after the first n may fail and leave so many entries; with n calls, all were made
abbrev pub may_fail : List Save → ℕ → ℕ → Bool
may_fail calls n added = nat_le n (length calls) && nat_le added (length (at_stake (slice_get calls n)))

-- what is kept where the call after the first n failed and left so many entries
abbrev pub kept_after : Loaded → List Save → ℕ → ℕ → Loaded
kept_after kept calls n added = with_rest (kept_at_failure kept calls n) (at_stake (slice_get calls n)) added
