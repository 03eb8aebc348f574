-- Whether the reads of a session grow, by one walk with the numbers of its commands and the greatest place that it read.
use Rattle.std.specs.Prelude.{ℕ, max, nat_le, nat_lt, nat_eq, Bool, true, false, ◌&&◌, if◌then◌else◌, List, [], ◌∷◌, ◌++◌, count_by}
use Rattle.ax_types.specs.declared.ops.WindowCall.{WindowCall}
use Rattle.ax_types.specs.declared.ops.WindowCall.TheVariants as call
use Rattle.ax_types.specs.declared.items.Item.{Item}
use Rattle.ax_types.specs.declared.items.Item.TheVariants as item

-- how many of the places are at most this one
abbrev pub count_upto : ℕ → List ℕ → ℕ
count_upto p places = count_by (λ q. nat_le q p) places

-- how many of the numbers are below this one
abbrev pub count_below : ℕ → List ℕ → ℕ
count_below n numbers = count_by (λ m. nat_lt m n) numbers

-- the items below, by the places of the session's acts
abbrev pub grow : ℕ → List ℕ → List ℕ → ℕ → List Item → Bool
grow s places numbers greatest [] = true
grow s places numbers greatest (item.Called t n (call.Command name op) ∷ items) =
    if nat_eq s t then grow s places (n ∷ numbers) greatest items else grow s places numbers greatest items
grow s places numbers greatest (item.Read t n l p reach r ∷ items) =
    if nat_eq s t then nat_le greatest p && nat_le (count_below n numbers) (count_upto p places) && grow s places numbers (max greatest p) items
    else grow s places numbers greatest items
grow s places numbers greatest (x ∷ items) = grow s places numbers greatest items
