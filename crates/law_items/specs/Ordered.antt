-- The items of nodes, in their order.
use Rattle.std.specs.Prelude.{ℕ, ◌≡◌, ◌<◌, ◌≤◌, ◌+◌, Bool, true, false, List, ◌∷◌, ◌++◌, length, count_by}
use Rattle.ax_types.specs.declared.items.Item.{Item}
use Rattle.ax_types.specs.declared.items.Item.TheVariants as item
use Rattle.ax_types.specs.declared.steps.KeptStep.{KeptStep}
use Rattle.spec_claims.specs.Transcript as transcripts
use Rattle.spec_claims.specs.Right as claims_right
use Rattle.spec_run.specs.Run as runs

-- what the claim of order asks of the items of nodes, but that a query that is reached was called
abbrev pub IsInOrder : List Item → Item → Type 0
IsInOrder above (item.Commit p) = transcripts.greatest_commit above < p
IsInOrder above (item.Leader k t) = count_by (claims_right.is_leader_in t) above ≡ 0
IsInOrder above (item.Reach k t a s n) = transcripts.StandsIn (item.Leader k t) above × (a ≡ count_by (claims_right.is_reach_in t) above + 1)
IsInOrder above x = Unit {0}

-- whether an item is one of nodes
abbrev pub is_of_nodes : Item → Bool
is_of_nodes (item.Leader k t) = true
is_of_nodes (item.Commit p) = true
is_of_nodes (item.Reach k t a s n) = true
is_of_nodes x = false

-- whether an item is neither one of nodes nor one that a watch shows
abbrev pub is_plain : Item → Bool
is_plain (item.Leader k t) = false
is_plain (item.Commit p) = false
is_plain (item.Reach k t a s n) = false
is_plain (item.Watched c kind s p e) = false
is_plain x = true

abbrev pub NodeItemsAreOrdered : Type 0
NodeItemsAreOrdered = (nodes clients timeout : ℕ) (steps : List KeptStep) → transcripts.EachItem IsInOrder (transcripts.transcript (runs.run nodes clients timeout steps).shown)

-- the place of a read that is ready is at least each commit above its arrival at this node in this term
abbrev pub IsCovered : List Item → ℕ → ℕ → ℕ × ℕ → Type 0
IsCovered items node term r = (s n : ℕ) (later earlier : List Item) → items ≡ later ++ item.Reach node term r.0 s n ∷ earlier → transcripts.greatest_commit earlier ≤ r.1

abbrev pub HistoryIsCounted : Type 0
HistoryIsCounted = (nodes clients timeout : ℕ) (steps : List KeptStep)
    → length (runs.run nodes clients timeout steps).world.history ≡ transcripts.greatest_commit (transcripts.transcript (runs.run nodes clients timeout steps).shown)
