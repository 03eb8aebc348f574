-- The store and the keeper that live in memory, and which of their calls fail.
use Rattle.std.specs.Prelude.{ℕ, Bool, ◌==◌, if◌then◌else◌, List, Option, find, is_some}
use Rattle.std.specs.Option.{option_map}
use Rattle.ax_types.specs.declared.entries.Loaded.{Loaded}
use Rattle.ax_io.specs.Count as counts
use Rattle.spec_journal.specs.Journal as journals

-- for each call that fails its number, counted from 1, and how much is kept of it; the calls made so far, and how many of them failed
pub record Calls : Type 0 where
  pub failing : List (ℕ × ℕ)
  pub made : ℕ
  pub faults : ℕ

-- how much is kept of the next call, where it is one that fails
abbrev pub kept_of_call : Calls → Option ℕ
kept_of_call c = option_map (λ pair. pair.1) (find (λ pair. pair.0 == counts.one_more c.made) c.failing)

abbrev pub call_fails : Calls → Bool
call_fails c = is_some (kept_of_call c)

abbrev pub after_call : Calls → Calls
after_call c = record { failing = c.failing; made = counts.one_more c.made; faults = if call_fails c then counts.one_more c.faults else c.faults }

-- a store in memory
pub record MemKept : Type 0 where
  pub content : Loaded
  pub calls : Calls
  pub needs_load : Bool

-- a store that keeps nothing has no version
abbrev pub version_of_kept : Loaded → ℕ
version_of_kept content = if journals.is_nothing content then 0 else 2

-- a keeper in memory
pub record MemBytes : Type 0 where
  pub content : List ℕ
  pub calls : Calls
