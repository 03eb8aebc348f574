-- The whole machine without packets.
use Rattle.std.specs.Prelude.{◌≡◌, ◌≢◌, ◌⊎◌, ℕ, ◌≤◌, ◌<◌, true, List, length}
use Rattle.ax_types.specs.declared.entries.Entry.{Entry}
use Rattle.spec_raft.specs.Log as logs
use Rattle.spec_past.specs.Matching as matchings
use Rattle.spec_past.specs.Polls as polls

pub record Past : Type 0 where
  pub poll : polls.Poll
  pub log : ℕ → List Entry
  pub leader_log : ℕ → List Entry
  pub candidate_log : ℕ → ℕ → List Entry
  pub voter_log : ℕ → ℕ → List Entry
  pub acked : ℕ → ℕ → ℕ
  pub commit : ℕ → ℕ
  pub told : ℕ → ℕ
  pub committed : List Entry

abbrev pub term : Past → ℕ → ℕ
term w j = (w.poll.member j).term

abbrev pub role : Past → ℕ → ℕ
role w j = (w.poll.member j).role

-- the first c entries of g are committed, by a leader of a term up to x
pub record Reason (nodes : List ℕ) (leader_log : ℕ → List Entry) (acked : ℕ → ℕ → ℕ) (g : List Entry) (c x : ℕ) : Type 0 where
  pub term : ℕ
  pub place : ℕ
  pub upto : term ≤ x
  pub within : c ≤ place
  pub quorum : matchings.Quorum nodes leader_log acked term place
  pub agrees : matchings.Agree g (leader_log term) c

abbrev pub IsCommittedIn : List ℕ → (ℕ → List Entry) → (ℕ → ℕ → ℕ) → List Entry → ℕ → ℕ → Type 0
IsCommittedIn nodes leader_log acked g c x = (c ≡ 0) ⊎ Reason nodes leader_log acked g c x

pub record Sound (nodes : List ℕ) (w : Past) : Type 0 where
  pub fair : polls.Fair nodes w.poll
  pub filled : (t : ℕ) → w.poll.led t ≡ true → 1 ≤ length (w.leader_log t)
  pub only : (t : ℕ) → 1 ≤ length (w.leader_log t) → w.poll.led t ≡ true
  pub joins : (t p : ℕ) → p ≤ length (w.leader_log t) → matchings.Agree (w.leader_log t) (w.leader_log (logs.term_at (w.leader_log t) p)) p
  pub rises : matchings.TermsRise w.leader_log
  pub low : (t p : ℕ) → p ≤ length (w.leader_log t) → logs.term_at (w.leader_log t) p ≤ t
  pub ages : (t p q : ℕ) → p ≤ q → q ≤ length (w.leader_log t) → matchings.time_at (w.leader_log t) p ≤ matchings.time_at (w.leader_log t) q
  pub part : (j : ℕ) → matchings.IsPart w.leader_log (w.log j)
  pub past : (j : ℕ) → logs.last_term (w.log j) ≤ term w j
  pub holds : (j : ℕ) → role w j ≡ 2 → w.leader_log (term w j) ≡ w.log j
  pub waits : (j : ℕ) → role w j ≡ 1 → w.candidate_log (term w j) j ≡ w.log j
  pub runs : (t v : ℕ) → w.poll.cast t v ≢ 0 → w.poll.cast t (w.poll.cast t v) ≡ w.poll.cast t v
  pub early : (t v : ℕ) → w.poll.cast t v ≢ 0 → logs.last_term (w.candidate_log t (w.poll.cast t v)) < t
  pub cand_part : (t v : ℕ) → w.poll.cast t v ≢ 0 → matchings.IsPart w.leader_log (w.candidate_log t (w.poll.cast t v))
  pub seen_part : (t v : ℕ) → w.poll.cast t v ≢ 0 → matchings.IsPart w.leader_log (w.voter_log t v)
  pub newer : (t v : ℕ) → w.poll.cast t v ≢ 0 → matchings.IsUpToDate (w.candidate_log t (w.poll.cast t v)) (w.voter_log t v)
  pub after : (t v s m : ℕ) → w.poll.cast t v ≢ 0 → s < t → 1 ≤ m → m ≤ w.acked s v → matchings.IsHeld w.leader_log (w.voter_log t v) s m t
  pub before : (t v s m : ℕ) → w.poll.led t ≡ true → w.poll.voters t v ≡ true → s < t → 1 ≤ m → m ≤ w.acked s v → matchings.Agree (w.voter_log t v) (w.leader_log s) m ⊎ ((x : ℕ) × (s < x) × (x < t) × matchings.Clash w.leader_log s x m)
  pub begins : (t : ℕ) → w.poll.led t ≡ true → matchings.Agree (w.candidate_log t (w.poll.leader t)) (w.leader_log t) (length (w.candidate_log t (w.poll.leader t)))
  pub bound : (t j : ℕ) → w.acked t j ≤ length (w.leader_log t)
  pub reached : (t j : ℕ) → 1 ≤ w.acked t j → t ≤ term w j
  pub now : (j t m : ℕ) → 1 ≤ m → m ≤ w.acked t j → matchings.IsHeld w.leader_log (w.log j) t m (term w j)
  pub known : (j : ℕ) → IsCommittedIn nodes w.leader_log w.acked (w.log j) (w.commit j) (term w j)
  pub spread : (t : ℕ) → IsCommittedIn nodes w.leader_log w.acked (w.leader_log t) (w.told t) t
  pub ahead : (j : ℕ) → w.commit j ≤ length w.committed
  pub behind : (t : ℕ) → w.told t ≤ length w.committed
  pub last : (length w.committed ≡ 0) ⊎ ((x : ℕ) × Reason nodes w.leader_log w.acked w.committed (length w.committed) x)
