-- The conditions of one session, found in the session's digest of a report.
use Rattle.std.specs.Prelude.{ℕ, ◌≡◌, Bool, false, List, [], map}
use Rattle.ax_types.specs.declared.items.Item.{Item}
use Rattle.spec_book.specs.History as histories
use Rattle.spec_audit.specs.ItemConditions as item_conditions
use Rattle.spec_audit.specs.SessionConditions as session_conditions
use Rattle.law_audit_tables.specs.Digest as digests
use Rattle.law_audit_tables.specs.OutcomeWalk as outcome_walk
use Rattle.law_audit_tables.specs.OnceWalk as once_walk
use Rattle.law_audit_tables.specs.HeardWalk as heard_walk
use Rattle.law_audit_tables.specs.ReadWalk as read_walk
use Rattle.law_audit_tables.specs.EndWalk as end_walk

abbrev pub digest_of : ℕ → List Item → List Item
digest_of s items = digests.digest s 0 false items

pub record Suffices (h : histories.History) (s : ℕ) (items : List Item) : Type 0 where
  pub once : once_walk.take_effect s 0 (histories.dos h s) (digest_of s items) ≡ session_conditions.takes_effect_once items h s
  pub growing : read_walk.grow s (map (λ d. d.0) (histories.dos h s)) [] 0 (digest_of s items) ≡ item_conditions.each_shown (session_conditions.is_growing h s) items
  pub heard : heard_walk.hears s (histories.events h s) (digest_of s items) ≡ session_conditions.hears_in_order items h s
  pub outcomes : outcome_walk.are_in_order s outcome_walk.nothing_known (digest_of s items) ≡ item_conditions.each_shown (session_conditions.is_in_order s) items
  pub ends : end_walk.run_course h s end_walk.nothing_yet (digest_of s items) ≡ session_conditions.ends_rightly items h s

abbrev pub DigestsSuffice : Type 0
DigestsSuffice = (h : histories.History) (s : ℕ) (items : List Item) → Suffices h s items
