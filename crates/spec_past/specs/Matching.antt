-- Logs that match, the logs of leaders, and what a majority of acknowledgements is worth (Ongaro 2014, 3.5 and 3.6).
use Rattle.std.specs.Prelude.{◌≡◌, ◌≢◌, ◌⊎◌, ℕ, ◌+◌, ◌≤◌, ◌<◌, Bool, List, length, take, true, nat_le}
use Rattle.ax_types.specs.Places as lists
use Rattle.ax_types.specs.declared.entries.Entry.{Entry}
use Rattle.spec_raft.specs.Majority as majorities
use Rattle.spec_raft.specs.Log as raft_logs

-- the time at a place, 0 at place 0 and beyond the end
abbrev pub time_at : List Entry → ℕ → ℕ
time_at g p = raft_logs.entry_time (lists.at_place g p)

-- both logs have p entries, and the same ones
pub record Agree (g h : List Entry) (p : ℕ) : Type 0 where
  pub left : p ≤ length g
  pub right : p ≤ length h
  pub same : take p g ≡ take p h

-- a log is the beginning of the history log of its last term
abbrev pub IsPart : (ℕ → List Entry) → List Entry → Type 0
IsPart L g = Agree g (L (raft_logs.last_term g)) (length g)

-- h is at least as up to date as g
abbrev pub IsUpToDate : List Entry → List Entry → Type 0
IsUpToDate h g = (raft_logs.last_term g < raft_logs.last_term h) ⊎ ((raft_logs.last_term g ≡ raft_logs.last_term h) × (length g ≤ length h))

-- two history logs differ in a term at or below m
pub record Clash (L : ℕ → List Entry) (s w m : ℕ) : Type 0 where
  pub place : ℕ
  pub within : place ≤ m
  pub left : place ≤ length (L s)
  pub right : place ≤ length (L w)
  pub differ : raft_logs.term_at (L s) place ≢ raft_logs.term_at (L w) place

-- kept, or a later history log up to term x clashes
abbrev pub IsHeld : (ℕ → List Entry) → List Entry → ℕ → ℕ → ℕ → Type 0
IsHeld L g s m x = Agree g (L s) m ⊎ ((w : ℕ) × (s < w) × (w ≤ x) × Clash L s w m)

-- more than half of the nodes have the property
abbrev pub IsMost : (ℕ → Bool) → List ℕ → Type 0
IsMost p nodes = length nodes < majorities.count p nodes + majorities.count p nodes

-- in each history log terms never fall
abbrev pub TermsRise : (ℕ → List Entry) → Type 0
TermsRise L = (t p q : ℕ) → p ≤ q → q ≤ length (L t) → raft_logs.term_at (L t) p ≤ raft_logs.term_at (L t) q

-- what is known of the election of u about the first p entries of t: its candidate, and a common voter
pub record Chosen (L : ℕ → List Entry) (u t p : ℕ) : Type 0 where
  pub candidate_log : List Entry
  pub ballot : List Entry
  pub cand_part : IsPart L candidate_log
  pub ballot_part : IsPart L ballot
  pub newer : IsUpToDate candidate_log ballot
  pub below : raft_logs.last_term candidate_log < u
  pub begins : Agree candidate_log (L u) (length candidate_log)
  pub held : Agree ballot (L t) p ⊎ ((w : ℕ) × (t < w) × (w < u) × Clash L t w p)

-- the history of elections and acknowledgements, as far as completeness needs it
pub record Laws (nodes : List ℕ) (L : ℕ → List Entry) (acked : ℕ → ℕ → ℕ) (voters : ℕ → ℕ → Bool) (candidate_log : ℕ → List Entry) (ballot : ℕ → ℕ → List Entry) : Type 0 where
  pub rises : TermsRise L
  pub most : (t : ℕ) → 1 ≤ length (L t) → IsMost (voters t) nodes
  pub cand_part : (t : ℕ) → 1 ≤ length (L t) → IsPart L (candidate_log t)
  pub ballot_part : (t v : ℕ) → 1 ≤ length (L t) → voters t v ≡ true → IsPart L (ballot t v)
  pub newer : (t v : ℕ) → 1 ≤ length (L t) → voters t v ≡ true → IsUpToDate (candidate_log t) (ballot t v)
  pub below : (t : ℕ) → 1 ≤ length (L t) → raft_logs.last_term (candidate_log t) < t
  pub begins : (t : ℕ) → 1 ≤ length (L t) → Agree (candidate_log t) (L t) (length (candidate_log t))
  pub held : (t v s m : ℕ) → 1 ≤ length (L t) → voters t v ≡ true → s < t → 1 ≤ m → m ≤ acked s v → Agree (ballot t v) (L s) m ⊎ ((w : ℕ) × (s < w) × (w < t) × Clash L s w m)

-- the entry at p is of t, and more than half have acknowledged p places of t
pub record Quorum (nodes : List ℕ) (L : ℕ → List Entry) (acked : ℕ → ℕ → ℕ) (t p : ℕ) : Type 0 where
  pub place : 1 ≤ p
  pub within : p ≤ length (L t)
  pub own : raft_logs.term_at (L t) p ≡ t
  pub most : IsMost (λ j. nat_le p (acked t j)) nodes
