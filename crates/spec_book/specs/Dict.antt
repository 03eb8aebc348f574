-- Finite maps and sets as lists in ascending order, without a key twice. Names, keys and texts are ordered by their bytes.
use Rattle.std.specs.Prelude.{ℕ, Bool, List, Option}
use Rattle.std.specs.declared.cmp.Ordering.{Ordering}
use Rattle.std.specs.Ordering.{nat_cmp}
use Rattle.std.specs.Cmp.Lexicographic.{slice_cmp}
use Rattle.std.specs.List.{list_any}
use Rattle.std.specs.BTreeMap.{insert_entry, is_at}
use Rattle.std.specs.BTreeSet.{insert_key}
use Rattle.std.specs.Map.{lookup, remove_entry}
use Rattle.std.specs.Set.{remove_key}

-- the order of names, keys and texts
abbrev pub bytes_cmp : List ℕ → List ℕ → Ordering
bytes_cmp = slice_cmp nat_cmp

-- what stands at a name or key
abbrev pub found : {X : Type 0} → List (List ℕ × X) → List ℕ → Option X
found entries key = lookup (is_at (bytes_cmp key)) entries

-- with the value at a name or key
abbrev pub with_entry : {X : Type 0} → List (List ℕ × X) → List ℕ → X → List (List ℕ × X)
with_entry = insert_entry bytes_cmp

-- without the name or key
abbrev pub without_entry : {X : Type 0} → List (List ℕ × X) → List ℕ → List (List ℕ × X)
without_entry entries key = remove_entry (is_at (bytes_cmp key)) entries

-- whether a session is among the sessions
abbrev pub has_session : List ℕ → ℕ → Bool
has_session sessions s = list_any (is_at (nat_cmp s)) sessions

-- the sessions with one more, in ascending order
abbrev pub with_session : List ℕ → ℕ → List ℕ
with_session = insert_key nat_cmp

-- the sessions without one
abbrev pub without_session : List ℕ → ℕ → List ℕ
without_session sessions s = remove_key (is_at (nat_cmp s)) sessions

-- whether a text is among the texts
abbrev pub has_text : List (List ℕ) → List ℕ → Bool
has_text texts v = list_any (is_at (bytes_cmp v)) texts

-- the texts with one more, in ascending order
abbrev pub with_text : List (List ℕ) → List ℕ → List (List ℕ)
with_text = insert_key bytes_cmp

-- the texts without one
abbrev pub without_text : List (List ℕ) → List ℕ → List (List ℕ)
without_text texts v = remove_key (is_at (bytes_cmp v)) texts
