-- A transcript: the items of a run, step by step. Claims about it speak of one item and of the items above it.
use Rattle.std.specs.Prelude.{ℕ, max, ◌≡◌, ◌⊎◌, Bool, true, false, not, ◌&&◌, nat_eq, nat_le, nat_lt, if◌then◌else◌, List, [], ◌∷◌, Option, Some, None, filter, flat_map, count_by, is_some}
use Rattle.std.specs.List.{list_any}
use Rattle.ax_types.specs.declared.ops.WindowCall.{WindowCall}
use Rattle.ax_types.specs.declared.ops.WindowCall.TheVariants as call
use Rattle.ax_types.specs.declared.items.Item.{Item}
use Rattle.ax_types.specs.declared.items.Item.TheVariants as item
use Rattle.ax_types.specs.declared.steps.KeptStep.{KeptStep}

-- a step that was made, and its items
pub record Shown : Type 0 where
  pub step : KeptStep
  pub items : List Item

-- the items of a run, the first at the top
abbrev pub transcript : List Shown → List Item
transcript shown = flat_map (λ m. m.items) shown

-- what holds of each item and the items above it, the nearest first
abbrev pub EachBelow : (List Item → Item → Type 0) → List Item → List Item → Type 0
EachBelow P above [] = Unit {0}
EachBelow P above (x ∷ xs) = P above x × EachBelow P (x ∷ above) xs

abbrev pub EachItem : (List Item → Item → Type 0) → List Item → Type 0
EachItem P items = EachBelow P [] items

-- the item is one of these
abbrev pub StandsIn : Item → List Item → Type 0
StandsIn x [] = ⊥
StandsIn x (y ∷ ys) = (y ≡ x) ⊎ StandsIn x ys

-- whether a call is a command
abbrev pub is_command : WindowCall → Bool
is_command (call.Command name op) = true
is_command (call.Query level name query) = false

-- the call that an item says a session made, with its number
abbrev pub called_by : ℕ → Item → List (ℕ × WindowCall)
called_by s (item.Called t n c) = if nat_eq s t then (n, c) ∷ [] else []
called_by s x = []

-- the calls of a session, in order
abbrev pub calls : ℕ → List Item → List (ℕ × WindowCall)
calls s items = flat_map (called_by s) items

-- how many commands a session called with a number up to n, and with one below n
abbrev pub commands_upto : ℕ → ℕ → List Item → ℕ
commands_upto s n items = count_by (λ c. is_command c.1 && nat_le c.0 n) (calls s items)

abbrev pub commands_below : ℕ → ℕ → List Item → ℕ
commands_below s n items = count_by (λ c. is_command c.1 && nat_lt c.0 n) (calls s items)

-- the number of the call of a session whose outcome an item is
abbrev pub outcome_of : ℕ → Item → Option ℕ
outcome_of s (item.Reply t n place reply) = if nat_eq s t then Some n else None
outcome_of s (item.Read t n level place reach reply) = if nat_eq s t then Some n else None
outcome_of s (item.Doubt t n) = if nat_eq s t then Some n else None
outcome_of s (item.Lost t n) = if nat_eq s t then Some n else None
outcome_of s (item.Unsent t n) = if nat_eq s t then Some n else None
outcome_of s (item.Unanswered t n) = if nat_eq s t then Some n else None
outcome_of s x = None

-- whether an item is the outcome of call n of a session
abbrev pub is_outcome : ℕ → ℕ → Item → Bool
is_outcome s n x = is_number (outcome_of s x)
  where
    is_number : Option ℕ → Bool
    is_number None = false
    is_number (Some m) = nat_eq n m

-- how many outcomes of a session's calls there are
abbrev pub outcome_count : ℕ → List Item → ℕ
outcome_count s items = count_by (λ x. is_some (outcome_of s x)) items

-- the calls of a session without an outcome among the items, in order
abbrev pub unanswered : ℕ → List Item → List (ℕ × WindowCall)
unanswered s items = filter (λ c. not (list_any (is_outcome s c.0) items)) (calls s items)

-- the greatest committed place that the items tell, or 0
abbrev pub greatest_commit : List Item → ℕ
greatest_commit [] = 0
greatest_commit (item.Commit p ∷ xs) = max p (greatest_commit xs)
greatest_commit (x ∷ xs) = greatest_commit xs
