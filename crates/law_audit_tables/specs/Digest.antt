-- What of a report concerns one session: its own items, and in place of each stretch of others the greatest commit so far.
use Rattle.std.specs.Prelude.{ℕ, max, nat_eq, Bool, true, false, if◌then◌else◌, List, [], ◌∷◌, ◌++◌, Option, Some, None}
use Rattle.std.specs.List.{list_any, list_all}
use Rattle.ax_types.specs.declared.items.Item.{Item}
use Rattle.ax_types.specs.declared.items.Item.TheVariants as item

-- the session that an item is of, if it is of one
abbrev pub session_of : Item → Option ℕ
session_of (item.Reach k t a s n) = Some s
session_of (item.Opened s c) = Some s
session_of (item.Called s n c) = Some s
session_of (item.Event s p prev es) = Some s
session_of (item.Watched c kind s p e) = Some s
session_of (item.Reply s n p r) = Some s
session_of (item.Read s n l p reach r) = Some s
session_of (item.Ended s p way) = Some s
session_of (item.Doubt s n) = Some s
session_of (item.Lost s n) = Some s
session_of (item.Unsent s n) = Some s
session_of (item.Unanswered s n) = Some s
session_of x = None

abbrev pub is_some_session : ℕ → Option ℕ → Bool
is_some_session s None = false
is_some_session s (Some t) = nat_eq s t

abbrev pub is_of : ℕ → Item → Bool
is_of s x = is_some_session s (session_of x)

-- whether the session of each item is one of these
abbrev pub is_named : List ℕ → Option ℕ → Bool
is_named ss None = true
is_named ss (Some t) = list_any (nat_eq t) ss

abbrev pub are_named : List ℕ → List Item → Bool
are_named ss items = list_all (λ x. is_named ss (session_of x)) items

-- the greatest commit with one item more
abbrev pub committed : ℕ → Item → ℕ
committed c (item.Commit p) = max c p
committed c x = c

-- what stands for the items of others between two of the session's: the greatest commit, where there are any
abbrev pub gap_of : Bool → ℕ → Option ℕ
gap_of true c = None
gap_of false c = Some c

abbrev pub gap_items : Option ℕ → List Item
gap_items None = []
gap_items (Some c) = item.Commit c ∷ []

-- of the items below, where this is the greatest commit, and whether the item above is the session's
abbrev pub digest : ℕ → ℕ → Bool → List Item → List Item
digest s c is_next [] = []
digest s c is_next (x ∷ items) =
    if is_of s x then gap_items (gap_of is_next c) ++ x ∷ digest s c true items else digest s (committed c x) false items

-- an item of a session and what stands for the items of others directly above it
pub record Seen : Type 0 where
  pub gap : Option ℕ
  pub item : Item

-- the items that are of sessions, each with its session, where this is the greatest commit and the session of the item above
abbrev pub seen_of : ℕ → Option ℕ → Item → Option ℕ → List (ℕ × Seen)
seen_of c last x None = []
seen_of c last x (Some s) = (s, record { gap = gap_of (is_some_session s last) c; item = x }) ∷ []

abbrev pub commit_past : ℕ → Item → Option ℕ → ℕ
commit_past c x None = committed c x
commit_past c x (Some s) = c

abbrev pub seen_from : ℕ → Option ℕ → List Item → List (ℕ × Seen)
seen_from c last [] = []
seen_from c last (x ∷ items) = seen_of c last x (session_of x) ++ seen_from (commit_past c x (session_of x)) (session_of x) items

abbrev pub shown : List (ℕ × Seen) → List Item
shown [] = []
shown (e ∷ es) = gap_items e.1.gap ++ e.1.item ∷ shown es
