-- What a table keeps true of its parts.
use Rattle.std.specs.Prelude.{◌≡◌, ℕ, ◌≤◌, ◌<◌, nat_eq, is_some, List, Option, Some, length, slice_get}
use Rattle.std.specs.List.{AllByRecursion, IsDistinct}
use Rattle.std.specs.Map.{keys_of, lookup}
use Rattle.spec_sessions.specs.Tables as tables
use Rattle.sess_table.specs.declared.live.Origin.{Origin}
use Rattle.sess_table.specs.declared.table.Past.{Past as Ending}
use Rattle.sess_table.specs.Live as lives

-- each session has a sign or none, and those without one are the ones that ended
pub record AreTable (timeout : ℕ) (sessions : List (ℕ × Origin)) (signs : List (Option ℕ)) (past : List (ℕ × Ending)) : Type 0 where
  pub timed : 1 ≤ timeout
  pub unique : IsDistinct nat_eq (keys_of sessions)
  pub long : length signs ≡ length sessions
  pub ended : (i s : ℕ) → slice_get (keys_of sessions) i ≡ Some s → is_some (lookup (nat_eq s) past) ≡ lives.is_gone (slice_get signs i)

-- the place is above that of every session
abbrev pub IsNew : tables.Table → ℕ → Type 0
IsNew t place = AllByRecursion (λ l. l.session < place) t.live × AllByRecursion (λ p. p.session < place) t.past
