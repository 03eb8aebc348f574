-- Reads: a session never sees time go back, and a linearizable read misses no commit before it reached the leader.
use Rattle.std.specs.Prelude.{ℕ, ◌≡◌, ◌≤◌, List, ◌∷◌, ◌++◌, Option, Some, None}
use Rattle.std.specs.List.{AllByRecursion}
use Rattle.ax_types.specs.declared.ops.Level.{Level}
use Rattle.ax_types.specs.declared.ops.Level.TheVariants as level
use Rattle.ax_types.specs.declared.ops.WindowCall.{WindowCall}
use Rattle.ax_types.specs.declared.items.Item.{Item}
use Rattle.ax_types.specs.declared.items.Item.TheVariants as item
use Rattle.spec_book.specs.History as histories
use Rattle.spec_claims.specs.Transcript as transcripts
use Rattle.spec_claims.specs.Once as once

-- a read of the session at a place is not below the place
abbrev pub IsUpto : ℕ → ℕ → Item → Type 0
IsUpto s p (item.Read t n l q reach r) = s ≡ t → q ≤ p
IsUpto s p x = Unit {0}

-- a read's place is at least that of each read of its session above, and each command called before it took effect up to it
abbrev pub IsGrowing : histories.History → ℕ → List Item → Item → Type 0
IsGrowing h s above (item.Read t n l p reach r) =
    s ≡ t → AllByRecursion (IsUpto s p) above × (transcripts.commands_below s n above ≤ once.dos_upto h s p)
IsGrowing h s above x = Unit {0}

-- the read's request reached a leader below its call, and the read's place is at least each commit above that
pub record IsFreshRead (s n p t a : ℕ) (above : List Item) : Type 0 where
  pub node : ℕ
  pub called : WindowCall
  pub later : List Item
  pub earlier : List Item
  pub reached : above ≡ later ++ item.Reach node t a s n ∷ earlier
  pub asked : transcripts.StandsIn (item.Called s n called) earlier
  pub covers : transcripts.greatest_commit earlier ≤ p

abbrev pub IsFreshAt : ℕ → ℕ → ℕ → List Item → Level → Option (ℕ × ℕ) → Type 0
IsFreshAt s n p above level.Lin (Some (t, a)) = IsFreshRead s n p t a above
IsFreshAt s n p above level.Lin None = ⊥
IsFreshAt s n p above level.Seq (Some ta) = ⊥
IsFreshAt s n p above level.Seq None = Unit {0}

abbrev pub IsFresh : List Item → Item → Type 0
IsFresh above (item.Read s n l p reach r) = IsFreshAt s n p above l reach
IsFresh above x = Unit {0}
