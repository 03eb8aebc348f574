-- Whether the outcomes of a session are in order, by one walk with what is known of the session's calls.
use Rattle.std.specs.Prelude.{ℕ, ◌+◌, nat_lt, nat_eq, Bool, true, false, not, ◌&&◌, if◌then◌else◌, List, [], ◌∷◌, ◌++◌, length, Option, Some, None}
use Rattle.ax_types.specs.Places as lists
use Rattle.ax_types.specs.declared.ops.WindowCall.{WindowCall}
use Rattle.ax_types.specs.declared.items.Item.{Item}
use Rattle.ax_types.specs.declared.items.Item.TheVariants as item
use Rattle.spec_claims.specs.Transcript as transcripts

-- of the calls, by number, whether each is a command; how many were not sent; the greatest number of an outcome; and
-- whether a call was left unanswered
pub record Known : Type 0 where
  pub commands : List Bool
  pub unsent : ℕ
  pub highest : Option ℕ
  pub left_open : Bool

abbrev pub nothing_known : Known
nothing_known = record { commands = []; unsent = 0; highest = None; left_open = false }

abbrev pub exceeds : Option ℕ → ℕ → Bool
exceeds None n = true
exceeds (Some m) n = nat_lt m n

abbrev pub is_some_command : Option Bool → Bool
is_some_command None = false
is_some_command (Some b) = b

abbrev pub is_some_query : Option Bool → Bool
is_some_query None = false
is_some_query (Some b) = not b

-- whether an item of the session may come next
abbrev pub may_follow : Known → Item → Bool
may_follow k (item.Called s n c) = nat_eq n (length k.commands + 1) && nat_eq k.unsent 0
may_follow k (item.Unsent s n) = nat_eq n (length k.commands + k.unsent + 1) && exceeds k.highest n && not k.left_open
may_follow k (item.Reply s n p r) = exceeds k.highest n && (is_some_command (lists.at_place k.commands n) && not k.left_open)
may_follow k (item.Read s n l p reach r) = exceeds k.highest n && (is_some_query (lists.at_place k.commands n) && not k.left_open)
may_follow k (item.Doubt s n) = exceeds k.highest n && not k.left_open
may_follow k (item.Lost s n) = exceeds k.highest n && not k.left_open
may_follow k (item.Unanswered s n) = exceeds k.highest n
may_follow k x = true

-- what is known with one item more, where it may follow
abbrev pub known_with_outcome : Known → ℕ → Known
known_with_outcome k n = record { commands = k.commands; unsent = k.unsent; highest = Some n; left_open = k.left_open }

abbrev pub known_with : Known → Item → Known
known_with k (item.Called s n c) =
    record { commands = k.commands ++ transcripts.is_command c ∷ []; unsent = k.unsent; highest = k.highest; left_open = k.left_open }
known_with k (item.Unsent s n) = record { commands = k.commands; unsent = k.unsent + 1; highest = Some n; left_open = k.left_open }
known_with k (item.Unanswered s n) = record { commands = k.commands; unsent = k.unsent; highest = Some n; left_open = true }
known_with k (item.Reply s n p r) = known_with_outcome k n
known_with k (item.Read s n l p reach r) = known_with_outcome k n
known_with k (item.Doubt s n) = known_with_outcome k n
known_with k (item.Lost s n) = known_with_outcome k n
known_with k x = k

-- a session's own items
abbrev pub is_of_calls : ℕ → Item → Bool
is_of_calls s (item.Called t n c) = nat_eq s t
is_of_calls s (item.Unsent t n) = nat_eq s t
is_of_calls s (item.Unanswered t n) = nat_eq s t
is_of_calls s (item.Reply t n p r) = nat_eq s t
is_of_calls s (item.Read t n l p reach r) = nat_eq s t
is_of_calls s (item.Doubt t n) = nat_eq s t
is_of_calls s (item.Lost t n) = nat_eq s t
is_of_calls s x = false

abbrev pub are_in_order : ℕ → Known → List Item → Bool
are_in_order s k [] = true
are_in_order s k (x ∷ items) =
    if is_of_calls s x then may_follow k x && are_in_order s (known_with k x) items else are_in_order s k items
