-- What a leader knows of the other nodes, and the reads that wait for a round (Ongaro 2014, 3.5 and 6.4).
use Rattle.std.specs.Prelude.{ℕ, zero, suc, ◌+◌, ◌-◌, ◌^◌, max, Bool, false, ◌&&◌, not, nat_eq, nat_lt, nat_le, Option, Some, None, List, [], ◌∷◌, ◌++◌, length, map, filter, find, if◌then◌else◌}
use Rattle.ax_types.specs.declared.limits.TheConstants.{MAX_READS}
use Rattle.ax_types.specs.declared.entries.Entry.{Entry}
use Rattle.spec_raft.specs.Majority as majorities
use Rattle.spec_raft.specs.Log as logs

-- another node: the next place to send, the last place known to match, and the greatest round that it acked
pub record Peer : Type 0 where
  pub node : ℕ
  pub next : ℕ
  pub matched : ℕ
  pub acked : ℕ

-- what a new leader knows, where its first entry stands at this place
abbrev pub progress_of : ℕ → ℕ → ℕ → List Peer
progress_of me nodes first = map (λ k. record { node = k; next = first; matched = 0; acked = 0 }) (majorities.others nodes me)

abbrev pub next_in : Option Peer → ℕ
next_in None = 0
next_in (Some p) = p.next

abbrev pub peer : List Peer → ℕ → Option Peer
peer peers k = find (λ p. nat_eq p.node k) peers

-- the next place to send to a node
abbrev pub next_place_of : List Peer → ℕ → ℕ
next_place_of peers k = next_in (peer peers k)

-- what is known of one node is changed
abbrev pub change_peer : (Peer → Peer) → ℕ → List Peer → List Peer
change_peer f k [] = []
change_peer f k (p ∷ peers) = if nat_eq p.node k then f p ∷ peers else p ∷ change_peer f k peers

-- the acked round is the greater of the one known and the one handed back
abbrev pub acking : ℕ → Peer → Peer
acking round p = record p { acked = max p.acked round }

abbrev pub test_peer : (Peer → Bool) → Option Peer → Bool
test_peer f None = false
test_peer f (Some p) = f p

-- a node holds the log up to a place: whether that is new, and what is known then (accepted)
abbrev pub rises_at : ℕ → ℕ → Peer → Bool
rises_at place last p = nat_lt p.matched place && nat_le place last

abbrev pub accepting : ℕ → ℕ → ℕ → Peer → Peer
accepting place round last p = if rises_at place last p then record (acking round p) { matched = place; next = place + 1 } else acking round p

abbrev pub is_accepted : List Peer → ℕ → ℕ → ℕ → Bool
is_accepted peers k place last = test_peer (rises_at place last) (peer peers k)

abbrev pub accepted : List Peer → ℕ → ℕ → ℕ → ℕ → List Peer
accepted peers k place round last = change_peer (accepting place round last) k peers

-- a node lacks the entry before those sent: whether the next place falls, and what is known then (refused)
abbrev pub falls_at : ℕ → Peer → Bool
falls_at place p = nat_lt place (p.next - 1) && nat_le p.matched place

abbrev pub refusing : ℕ → ℕ → Peer → Peer
refusing place round p = if falls_at place p then record (acking round p) { next = place + 1 } else acking round p

abbrev pub is_refused : List Peer → ℕ → ℕ → Bool
is_refused peers k place = test_peer (falls_at place) (peer peers k)

abbrev pub refused : List Peer → ℕ → ℕ → ℕ → List Peer
refused peers k place round = change_peer (refusing place round) k peers

-- whether the leader and the others that pass the test are a majority
abbrev pub is_held : (Peer → Bool) → List Peer → Bool
is_held f peers = majorities.is_most (suc (majorities.count f peers)) (suc (length peers))

-- the greatest of the numbers low + 1 to low + n that passes, else low
abbrev pub greatest : (ℕ → Bool) → ℕ → ℕ → ℕ
greatest f low zero = low
greatest f low (suc n) = if f (low + suc n) then low + suc n else greatest f low n

-- whether a leader of this term may commit a place: its entry is of this term and a majority holds it (Ongaro 2014, 3.6.2)
abbrev pub may_commit : List Peer → List Entry → ℕ → ℕ → Bool
may_commit peers log term place = nat_eq (logs.term_at log place) term && is_held (λ p. nat_le place p.matched) peers

-- the greatest place above the commit that may be committed, else the commit
abbrev pub commit_place : List Peer → List Entry → ℕ → ℕ → ℕ
commit_place peers log term commit = greatest (may_commit peers log term) commit (length log - commit)

-- the greatest of these acked rounds that a majority of all has acked
abbrev pub round_among : List Peer → List Peer → ℕ
round_among peers [] = 0
round_among peers (p ∷ ps) = if is_held (λ q. nat_le p.acked q.acked) peers then max p.acked (round_among peers ps) else round_among peers ps

-- the greatest round that a majority has acked; with one node, the greatest number of 64 bits
abbrev pub confirmed_round : List Peer → ℕ
confirmed_round [] = 2 ^ 64 - 1
confirmed_round (p ∷ ps) = round_among (p ∷ ps) (p ∷ ps)

-- the most reads that wait for a round
abbrev pub most_reads : ℕ
most_reads = MAX_READS

-- a read that waits: the number of its arrival, the place that it must see, and the round that a majority must ack
pub record Waiting : Type 0 where
  pub number : ℕ
  pub place : ℕ
  pub round : ℕ

-- whether a read is taken, and the reads then (add)
abbrev pub has_read_room : List Waiting → Bool
has_read_room reads = nat_lt (length reads) most_reads

abbrev pub with_read : List Waiting → ℕ → ℕ → ℕ → List Waiting
with_read reads number place round = if has_read_room reads then reads ++ record { number = number; place = place; round = round } ∷ [] else reads

-- whether a read is ready where this round is confirmed and this place is committed (Ongaro 2014, 6.4)
abbrev pub is_read_ready : ℕ → ℕ → Waiting → Bool
is_read_ready round commit w = nat_le w.round round && nat_le w.place commit

-- the reads that are ready, as numbers with their places in order of arrival, and those that go on waiting (take_ready)
abbrev pub ready_reads : List Waiting → ℕ → ℕ → List (ℕ × ℕ)
ready_reads reads round commit = map (λ w. (w.number, w.place)) (filter (is_read_ready round commit) reads)

abbrev pub waiting_reads : List Waiting → ℕ → ℕ → List Waiting
waiting_reads reads round commit = filter (λ w. not (is_read_ready round commit w)) reads
