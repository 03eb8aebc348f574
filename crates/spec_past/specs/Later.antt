-- What was once so stays so: votes, candidacies, leaders and their logs, what was told and acknowledged.
use Rattle.std.specs.Prelude.{◌≡◌, ◌≢◌, ℕ, ◌≤◌, true, List, length}
use Rattle.ax_types.specs.declared.entries.Entry.{Entry}
use Rattle.spec_past.specs.Matching as matchings
use Rattle.spec_past.specs.Past as pasts

-- the old logs are the beginnings of the new ones
abbrev pub Grows : (ℕ → List Entry) → (ℕ → List Entry) → Type 0
Grows L M = (s : ℕ) → matchings.Agree (L s) (M s) (length (L s))

pub record Later (w v : pasts.Past) : Type 0 where
  pub terms : (k : ℕ) → pasts.term w k ≤ pasts.term v k
  pub cast : (t k : ℕ) → w.poll.cast t k ≢ 0 → v.poll.cast t k ≡ w.poll.cast t k
  pub candidate : (t c : ℕ) → c ≢ 0 → w.poll.cast t c ≡ c → v.candidate_log t c ≡ w.candidate_log t c
  pub led : (t : ℕ) → w.poll.led t ≡ true → (v.poll.led t ≡ true) × (v.poll.leader t ≡ w.poll.leader t)
  pub grows : Grows w.leader_log v.leader_log
  pub told : (t : ℕ) → w.told t ≤ v.told t
  pub acked : (t k : ℕ) → w.acked t k ≤ v.acked t k
