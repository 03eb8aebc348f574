-- When the lives of a map's entries end, and what the index of these times has of them.
use Rattle.std.specs.Prelude.{◌≡◌, ℕ, ◌+◌, min, List, [], ◌∷◌, Option, Some, None, fold, filter}
use Rattle.std.specs.Map.{keys_of}
use Rattle.spec_book.specs.Dict as dicts
use Rattle.spec_book.specs.Resources as resources
use Rattle.spec_book.specs.MapTurn as map_turns
use Rattle.res_deadlines.specs.Deadlines as deadlines_deadlines

-- the log time at which a life ends, where there is one
abbrev pub life_end : Option resources.Span → Option ℕ
life_end None = None
life_end (Some life) = Some (life.set_at + life.length)

-- the log time at which the life of an item ends, where there is an item and it has a life
abbrev pub item_end : Option resources.MapItem → Option ℕ
item_end None = None
item_end (Some item) = life_end item.life

-- the index has a time with a key exactly where the entry of that key has a life that ends at that time
abbrev pub IsDeadlineIndex : List (List ℕ × resources.MapItem) → List (ℕ × List ℕ) → Type 0
IsDeadlineIndex entries deadlines =
    (time : ℕ) (key : List ℕ) → deadlines_deadlines.has_deadline dicts.bytes_cmp deadlines time key ≡ deadlines_deadlines.is_end (item_end (dicts.found entries key)) time

-- the keys of the entries whose life ends at or before a time
abbrev pub ended_keys : ℕ → List (List ℕ × resources.MapItem) → List (List ℕ)
ended_keys time entries = keys_of (filter (λ e. map_turns.life_ended time e.1.life) entries)

-- the entries without the keys
abbrev pub without_keys : List (List ℕ × resources.MapItem) → List (List ℕ) → List (List ℕ × resources.MapItem)
without_keys entries keys = fold dicts.without_entry entries keys

-- the earlier of two times, where there are two
abbrev pub earlier : Option ℕ → Option ℕ → Option ℕ
earlier None b = b
earlier (Some a) None = Some a
earlier (Some a) (Some b) = Some (min a b)

-- the first log time at which the life of an entry ends, where an entry has one
abbrev pub first_end : List (List ℕ × resources.MapItem) → Option ℕ
first_end [] = None
first_end (e ∷ entries) = earlier (life_end e.1.life) (first_end entries)
