-- A session's commands take effect once, in the order in which they were called.
use Rattle.std.specs.Prelude.{ℕ, ◌≡◌, ◌≤◌, nat_le, List, [], ◌∷◌, ◌++◌, map, flat_map, count_by}
use Rattle.ax_types.specs.declared.ops.Op.{Op}
use Rattle.ax_types.specs.declared.ops.WindowCall.{WindowCall}
use Rattle.ax_types.specs.declared.ops.WindowCall.TheVariants as call
use Rattle.ax_types.specs.declared.items.Item.{Item}
use Rattle.ax_types.specs.declared.items.Item.TheVariants as item
use Rattle.spec_book.specs.History as histories
use Rattle.spec_claims.specs.Transcript as transcripts

-- the first list begins the second
abbrev pub Begins : {T : Type 0} → List T → List T → Type 0
Begins {T} xs ys = (rest : List T) × (ys ≡ xs ++ rest)

-- the name and the operation of a command
abbrev pub command_of : ℕ × WindowCall → List (List ℕ × Op)
command_of (n, call.Command name op) = (name, op) ∷ []
command_of (n, call.Query level name query) = []

-- the commands of a session, in order
abbrev pub commands : ℕ → List Item → List (List ℕ × Op)
commands s items = flat_map command_of (transcripts.calls s items)

-- how many acts of a session at resources stand in the history up to a place
abbrev pub dos_upto : histories.History → ℕ → ℕ → ℕ
dos_upto h s p = count_by (λ d. nat_le d.0 p) (histories.dos h s)

-- at a commit, as many commands of the session were called above as took effect up to its place
abbrev pub IsCalledBefore : histories.History → ℕ → List Item → Item → Type 0
IsCalledBefore h s above (item.Commit p) = dos_upto h s p ≤ count_by (λ c. transcripts.is_command c.1) (transcripts.calls s above)
IsCalledBefore h s above x = Unit {0}

-- the acts of the session are a beginning of its commands, and each was called above the first commit that covers it
pub record IsOnce (items : List Item) (h : histories.History) (s : ℕ) : Type 0 where
  pub in_order : Begins (map (λ d. d.1) (histories.dos h s)) (commands s items)
  pub called_before : transcripts.EachItem (IsCalledBefore h s) items
