-- The moves of the past: what each transition of a cluster leaves in it, and when it fits.
use Rattle.std.specs.Prelude.{◌≡◌, ◌≢◌, ℕ, suc, ◌≤◌, ◌<◌, List, [], ◌∷◌, ◌++◌, length, take}
use Rattle.ax_types.specs.declared.entries.Entry.{Entry}
use Rattle.spec_raft.specs.Log as logs
use Rattle.spec_past.specs.Matching as matchings
use Rattle.spec_past.specs.Polls as polls
use Rattle.spec_past.specs.Past as pasts

pub data PastMove : Type 0 where
  Raise : (j t : ℕ) → PastMove
  Fall : (j : ℕ) → PastMove
  Forget : (j : ℕ) → PastMove
  Campaign : (j : ℕ) → PastMove
  Grant : (j c : ℕ) → PastMove
  Count : (j v : ℕ) → PastMove
  Lead : (j : ℕ) (e : Entry) → PastMove
  Take : (j : ℕ) (e : Entry) → PastMove
  Cut : (j k : ℕ) → PastMove
  Extend : (j : ℕ) (es : List Entry) → PastMove
  Learn : (j m c : ℕ) → PastMove
  Ack : (j m : ℕ) → PastMove
  Tell : (j : ℕ) → PastMove
  Advance : (j n : ℕ) → PastMove
  Commit : (j n : ℕ) → PastMove

abbrev pub adds : pasts.Past → polls.Poll → ℕ → Entry → pasts.Past
adds w p j e = record w { poll = p; log = polls.put w.log j (w.log j ++ e ∷ []); leader_log = polls.put w.leader_log (pasts.term w j) (w.log j ++ e ∷ []); acked = polls.put2 w.acked (pasts.term w j) j (length (w.log j ++ e ∷ [])) }

abbrev pub moves : pasts.Past → PastMove → pasts.Past
moves w (Raise j t) = record w { poll = polls.raises w.poll j t }
moves w (Fall j) = record w { poll = polls.falls w.poll j }
moves w (Forget j) = record w { commit = polls.put w.commit j 0 }
moves w (Campaign j) = record w { poll = polls.campaigns w.poll j; candidate_log = polls.put2 w.candidate_log (suc (pasts.term w j)) j (w.log j); voter_log = polls.put2 w.voter_log (suc (pasts.term w j)) j (w.log j) }
moves w (Grant j c) = record w { poll = polls.grants w.poll j c; voter_log = polls.put2 w.voter_log (pasts.term w j) j (w.log j) }
moves w (Count j v) = record w { poll = polls.counts w.poll j v }
moves w (Lead j e) = adds w (polls.wins w.poll j) j e
moves w (Take j e) = adds w w.poll j e
moves w (Cut j k) = record w { log = polls.put w.log j (take k (w.log j)) }
moves w (Extend j es) = record w { log = polls.put w.log j (w.log j ++ es) }
moves w (Learn j m c) = record w { commit = polls.put w.commit j c }
moves w (Ack j m) = record w { acked = polls.put2 w.acked (pasts.term w j) j m }
moves w (Tell j) = record w { told = polls.put w.told (pasts.term w j) (w.commit j) }
moves w (Advance j n) = record w { commit = polls.put w.commit j n }
moves w (Commit j n) = record w { commit = polls.put w.commit j n; committed = take n (w.log j) }

-- when a move may be made
abbrev pub Fits : List ℕ → pasts.Past → PastMove → Type 0
Fits nodes w (Raise j t) = pasts.term w j < t
Fits nodes w (Fall j) = Unit {0}
Fits nodes w (Forget j) = Unit {0}
Fits nodes w (Campaign j) = j ≢ 0
Fits nodes w (Grant j c) = (c ≢ 0) × (c ≢ j) × ((w.poll.member j).vote ≡ 0) × (w.poll.cast (pasts.term w j) c ≡ c) × matchings.IsUpToDate (w.candidate_log (pasts.term w j) c) (w.log j)
Fits nodes w (Count j v) = w.poll.cast (pasts.term w j) v ≡ j
Fits nodes w (Lead j e) = (pasts.role w j ≡ 1) × (e.term ≡ pasts.term w j) × matchings.IsMost (w.poll.member j).votes nodes × (logs.last_time (w.log j) ≤ e.time)
Fits nodes w (Take j e) = (pasts.role w j ≡ 2) × (e.term ≡ pasts.term w j) × (logs.last_time (w.log j) ≤ e.time)
Fits nodes w (Cut j k) = (pasts.role w j ≡ 0) × (w.commit j ≤ k) × (suc k ≤ length (w.log j)) × (suc k ≤ length (w.leader_log (pasts.term w j))) × (logs.term_at (w.log j) (suc k) ≢ logs.term_at (w.leader_log (pasts.term w j)) (suc k))
Fits nodes w (Extend j es) = (pasts.role w j ≡ 0) × matchings.Agree (w.log j ++ es) (w.leader_log (pasts.term w j)) (length (w.log j ++ es))
Fits nodes w (Learn j m c) = matchings.Agree (w.log j) (w.leader_log (pasts.term w j)) m × (c ≤ m) × (c ≤ w.told (pasts.term w j))
Fits nodes w (Ack j m) = (w.acked (pasts.term w j) j ≤ m) × matchings.Agree (w.log j) (w.leader_log (pasts.term w j)) m
Fits nodes w (Tell j) = (pasts.role w j ≡ 2) × (w.told (pasts.term w j) ≤ w.commit j)
Fits nodes w (Advance j n) = (pasts.role w j ≡ 2) × (n ≤ length w.committed) × matchings.Quorum nodes w.leader_log w.acked (pasts.term w j) n
Fits nodes w (Commit j n) = (pasts.role w j ≡ 2) × (length w.committed < n) × matchings.Quorum nodes w.leader_log w.acked (pasts.term w j) n

abbrev pub after_moves : pasts.Past → List PastMove → pasts.Past
after_moves w [] = w
after_moves w (m ∷ ms) = after_moves (moves w m) ms

abbrev pub AllFit : List ℕ → pasts.Past → List PastMove → Type 0
AllFit nodes w [] = Unit {0}
AllFit nodes w (m ∷ ms) = Fits nodes w m × AllFit nodes (moves w m) ms

abbrev pub beginning : pasts.Past
beginning = record {
  poll = record { member = λ j. record { term = 0; vote = 0; role = 0; votes = polls.nobody }; led = polls.nobody; leader = λ t. 0; voters = λ t. polls.nobody; cast = λ t v. 0 };
  log = λ j. [];
  leader_log = λ t. [];
  candidate_log = λ t c. [];
  voter_log = λ t v. [];
  acked = λ t j. 0;
  commit = λ j. 0;
  told = λ t. 0;
  committed = [];
}
