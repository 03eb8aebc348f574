-- Whether the acts of a session are its commands, each called above the first commit that covers it, by one walk.
use Rattle.std.specs.Prelude.{ℕ, max, nat_lt, nat_eq, Bool, true, false, ◌&&◌, if◌then◌else◌, List, [], ◌∷◌}
use Rattle.ax_types.specs.declared.ops.Op.{Op}
use Rattle.ax_types.specs.declared.ops.WindowCall.{WindowCall}
use Rattle.ax_types.specs.declared.ops.WindowCall.TheVariants as call
use Rattle.ax_types.specs.declared.items.Item.{Item}
use Rattle.ax_types.specs.declared.items.Item.TheVariants as item
use Rattle.spec_audit.specs.SameValues as same_values

-- acts at resources by place, each a name and an operation
abbrev pub Dos : Type 0
Dos = List (ℕ × (List ℕ × Op))

-- what is committed does not reach the first of the acts that are left
abbrev pub is_before : ℕ → Dos → Bool
is_before commit [] = true
is_before commit (d ∷ rest) = nat_lt commit d.0

-- whether the next command may be called: it is the first of the acts that are left, if any is
abbrev pub may_call : ℕ → Dos → List ℕ → Op → Bool
may_call commit [] name op = true
may_call commit (d ∷ rest) name op = same_values.is_same_command d.1 (name, op) && nat_lt commit d.0

abbrev pub behind_first : Dos → Dos
behind_first [] = []
behind_first (d ∷ rest) = rest

abbrev pub are_no_dos : Dos → Bool
are_no_dos [] = true
are_no_dos (d ∷ rest) = false

-- the items below, where this is the greatest commit above and these are the acts that are left
abbrev pub take_effect : ℕ → ℕ → Dos → List Item → Bool
take_effect s commit rest [] = are_no_dos rest
take_effect s commit rest (item.Commit p ∷ items) = take_effect s (max commit p) rest items
take_effect s commit rest (item.Called t n (call.Command name op) ∷ items) =
    if nat_eq s t then may_call commit rest name op && take_effect s commit (behind_first rest) items else take_effect s commit rest items
take_effect s commit rest (x ∷ items) = take_effect s commit rest items
