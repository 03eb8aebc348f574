-- Whether the reads of one session are fresh, by one walk with the numbers of its calls, its requests that reached a leader
-- and the greatest commit.
use Rattle.std.specs.Prelude.{ℕ, max, nat_eq, nat_le, Bool, true, false, ◌&&◌, ◌||◌, if◌then◌else◌, List, [], ◌∷◌, Option, Some, None}
use Rattle.std.specs.List.{list_any}
use Rattle.ax_types.specs.declared.ops.Level.{Level}
use Rattle.ax_types.specs.declared.ops.Level.TheVariants as level
use Rattle.ax_types.specs.declared.items.Item.{Item}
use Rattle.ax_types.specs.declared.items.Item.TheVariants as item

-- a request of a call above reached a leader: its call, the term, its arrival, and the greatest commit above
pub record Reached : Type 0 where
  pub number : ℕ
  pub term : ℕ
  pub arrival : ℕ
  pub commit : ℕ

abbrev pub is_reached : List Reached → ℕ → ℕ → ℕ → ℕ → Bool
is_reached [] n p t a = false
is_reached (q ∷ reached) n p t a =
    (nat_eq t q.term && nat_eq a q.arrival && nat_eq n q.number && nat_le q.commit p) || is_reached reached n p t a

abbrev pub may_read : List Reached → ℕ → ℕ → Level → Option (ℕ × ℕ) → Bool
may_read reached n p level.Lin (Some r) = is_reached reached n p r.0 r.1
may_read reached n p level.Lin None = false
may_read reached n p level.Seq (Some r) = false
may_read reached n p level.Seq None = true

abbrev pub with_reach : List ℕ → List Reached → Reached → List Reached
with_reach numbers reached q = if list_any (nat_eq q.number) numbers then q ∷ reached else reached

abbrev pub reads_fresh : ℕ → ℕ → List ℕ → List Reached → List Item → Bool
reads_fresh s commit numbers reached [] = true
reads_fresh s commit numbers reached (item.Commit p ∷ items) = reads_fresh s (max commit p) numbers reached items
reads_fresh s commit numbers reached (item.Called t n c ∷ items) =
    if nat_eq s t then reads_fresh s commit (n ∷ numbers) reached items else reads_fresh s commit numbers reached items
reads_fresh s commit numbers reached (item.Reach k u b t n ∷ items) =
    if nat_eq s t then reads_fresh s commit numbers (with_reach numbers reached (record { number = n; term = u; arrival = b; commit = commit })) items
    else reads_fresh s commit numbers reached items
reads_fresh s commit numbers reached (item.Read t n l p reach r ∷ items) =
    if nat_eq s t then may_read reached n p l reach && reads_fresh s commit numbers reached items else reads_fresh s commit numbers reached items
reads_fresh s commit numbers reached (x ∷ items) = reads_fresh s commit numbers reached items
