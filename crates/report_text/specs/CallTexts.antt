-- A set of calls, each a session and a number.
use Rattle.std.specs.Prelude.{◌≡◌, ℕ, List}
use Rattle.std.specs.declared.cmp.Ordering.{Ordering}
use Rattle.std.specs.Ordering.{nat_cmp, ordering_then}
use Rattle.std.specs.List.{list_any}
use Rattle.std.specs.BTreeSet.{BTreeSet, contains}
use Rattle.spec_report.specs.Items as items

-- calls by session, and then by number
abbrev pub call_cmp : ℕ × ℕ → ℕ × ℕ → Ordering
call_cmp a b = ordering_then (nat_cmp a.0 b.0) (nat_cmp a.1 b.1)

-- the set has exactly these calls
abbrev pub HasCalls : BTreeSet (ℕ × ℕ) → List (ℕ × ℕ) → Type 0
HasCalls set calls = (a : ℕ × ℕ) → contains call_cmp set a ≡ list_any (items.is_call a) calls
