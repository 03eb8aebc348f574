-- The transitions of a cluster (Ongaro 2014, 3.4 to 3.8 and 6.4): each names the node as it stood before.
-- A step of the cluster is a list of them; a step in which a store fails is a shorter one that ends with a crash.
use Rattle.std.specs.Prelude.{◌≡◌, ◌≢◌, ℕ, suc, ◌+◌, ◌≤◌, ◌<◌, max, min, Bool, true, false, List, [], ◌∷◌, ◌++◌, length, take, None, Some, if◌then◌else◌}
use Rattle.ax_types.specs.Places as lists
use Rattle.ax_types.specs.declared.entries.Body.{Body}
use Rattle.ax_types.specs.declared.entries.Body.TheVariants as body
use Rattle.ax_types.specs.declared.entries.Entry.{Entry}
use Rattle.ax_types.specs.declared.packets.Packet.{Packet}
use Rattle.ax_types.specs.declared.packets.Payload.TheVariants as payload
use Rattle.spec_raft.specs.Log as logs
use Rattle.spec_raft.specs.Ballot as votes
use Rattle.spec_raft.specs.Progress as acks
use Rattle.spec_node.specs.Node as nodes
use Rattle.spec_node.specs.NodeStep as steps
use Rattle.spec_cluster.specs.Bag as bags
use Rattle.spec_cluster.specs.Cluster as clusters
use Rattle.spec_transitions.specs.Systems as systems

-- each with the number of its node, and the node before it
pub data Transition : Type 0 where
  -- a higher term is seen
  Raise : (j : ℕ) (n : nodes.Node) (term : ℕ) → Transition
  -- a candidacy begins in the next term
  Campaign : (j : ℕ) (n : nodes.Node) → Transition
  -- a vote is given to a candidate, on its request
  Grant : (j : ℕ) (n : nodes.Node) (candidate last last_term : ℕ) → Transition
  -- a candidate counts a vote
  Count : (j : ℕ) (n : nodes.Node) (voter : ℕ) → Transition
  -- a candidate with a majority leads, with a first entry; in a step that halts nobody is told
  Lead : (j : ℕ) (n : nodes.Node) (e : Entry) (is_made : Bool) → Transition
  -- a leader adds entries of its term
  Take : (j : ℕ) (n : nodes.Node) (time : ℕ) (bodies : List Body) → Transition
  -- a leader's commit rises
  Advance : (j : ℕ) (n : nodes.Node) → Transition
  -- a leader begins a round
  Tick : (j : ℕ) (n : nodes.Node) → Transition
  -- a read arrives at a leader
  Arrive : (j : ℕ) (n : nodes.Node) → Transition
  -- a node follows the leader of its term
  Follow : (j : ℕ) (n : nodes.Node) (leader : ℕ) → Transition
  -- a follower cuts its log before the first place in conflict with an append packet
  Cut : (j : ℕ) (n : nodes.Node) (place : ℕ) → Transition
  -- a follower adds entries of an append packet
  Extend : (j : ℕ) (n : nodes.Node) (es : List Entry) → Transition
  -- a follower learns a commit from an append packet
  Learn : (j : ℕ) (n : nodes.Node) (commit : ℕ) → Transition
  -- a leader learns from the answer to an append packet
  Heed : (j : ℕ) (n : nodes.Node) (peers : List acks.Peer) → Transition
  -- the reads that are ready are given
  Answer : (j : ℕ) (n : nodes.Node) → Transition
  -- what a node knows to be committed is committed
  Tally : (j : ℕ) (n : nodes.Node) → Transition
  -- a packet is sent
  Send : (p : Packet) → Transition
  -- a packet is marked
  Mark : (number : ℕ) → Transition
  -- a node goes down, and comes up again
  Crash : (j : ℕ) (n : nodes.Node) → Transition
  Start : (j : ℕ) (n : nodes.Node) → Transition

-- the node after it
abbrev pub with_vote : nodes.Node → ℕ → nodes.Node
with_vote n candidate = record n { ballot = record n.ballot { vote = Some candidate } }

abbrev pub with_log : nodes.Node → List Entry → nodes.Node
with_log n log = record n { log = log }

abbrev pub with_commit : nodes.Node → ℕ → nodes.Node
with_commit n commit = record n { commit = commit }

abbrev pub leading : nodes.Node → Entry → nodes.Node
leading n e = record (nodes.leading_from n) { log = n.log ++ e ∷ [] }

-- the system after it
abbrev pub with_led : List clusters.Led → ℕ → Entry → Bool → List clusters.Led
with_led leds j e is_made = if is_made then leds ++ record { term = e.term; node = j } ∷ [] else leds

abbrev pub with_taken : systems.System → ℕ → nodes.Node → systems.System
with_taken s j n = record s { cluster = record s.cluster { takens = s.cluster.takens ++ clusters.taken_by j n (length s.cluster.committed) (Some (suc n.leading.arrivals)) } }

abbrev pub with_given : systems.System → ℕ → nodes.Node → systems.System
with_given s j n = record s { cluster = record s.cluster { givens = s.cluster.givens ++ clusters.given_by j n (steps.given n) } }

abbrev pub after_transition : systems.System → Transition → systems.System
after_transition s (Raise j n term) = systems.with_node s j (nodes.seen n term)
after_transition s (Campaign j n) = systems.with_node s j (nodes.candidate n)
after_transition s (Grant j n candidate last last_term) = systems.with_node s j (with_vote n candidate)
after_transition s (Count j n voter) = systems.with_node s j (record n { ballot = votes.counted n.ballot voter })
after_transition s (Lead j n e is_made) = systems.with_node (record s { cluster = record s.cluster { leds = with_led s.cluster.leds j e is_made } }) j (leading n e)
after_transition s (Take j n time bodies) = systems.with_node s j (with_log n (n.log ++ nodes.entries_of n.ballot.term time bodies))
after_transition s (Advance j n) = systems.tallied (systems.with_node s j (nodes.advanced n)) (nodes.advanced n)
after_transition s (Tick j n) = systems.with_node s j (nodes.ticked n)
after_transition s (Arrive j n) = systems.with_node (with_taken s j n) j (nodes.read_taken n)
after_transition s (Follow j n leader) = systems.with_node s j (nodes.followed n leader)
after_transition s (Cut j n place) = systems.with_node s j (with_log n (logs.cut_before n.log (Some place)))
after_transition s (Extend j n es) = systems.with_node s j (with_log n (n.log ++ es))
after_transition s (Learn j n commit) = systems.tallied (systems.with_node s j (with_commit n commit)) (with_commit n commit)
after_transition s (Heed j n peers) = systems.with_node s j (nodes.with_peers n peers)
after_transition s (Answer j n) = systems.with_node (with_given s j n) j (steps.without_given n)
after_transition s (Tally j n) = systems.tallied s n
after_transition s (Send p) = systems.with_sent s p
after_transition s (Mark number) = record s { cluster = record s.cluster { bag = bags.with_mark s.cluster.bag number } }
after_transition s (Crash j n) = systems.member_changed s j (clusters.fallen_member n (nodes.kept_of n))
after_transition s (Start j n) = systems.with_node s j (nodes.restarted n.ballot.me n.ballot.nodes (nodes.kept_of n))

-- an append packet of its own term was sent to node j, and its log holds the entry before those sent
pub record Matching (s : systems.System) (j : ℕ) (n : nodes.Node) : Type 0 where
  pub leader : ℕ
  pub prev : ℕ
  pub prev_term : ℕ
  pub commit : ℕ
  pub round : ℕ
  pub entries : List Entry
  pub was_sent : systems.WasSent s leader j (payload.Append n.ballot.term prev prev_term commit round entries)
  pub matches : logs.match_at n.log prev prev_term ≡ true

-- besides, its log holds them all
pub record Holding (s : systems.System) (j : ℕ) (n : nodes.Node) (m : Matching s j n) : Type 0 where
  pub free : logs.first_conflict n.log m.prev m.entries ≡ None
  pub long : m.prev + length m.entries ≤ length n.log

-- what a leader makes of the answer of a node
pub data Heeds (s : systems.System) (j : ℕ) (n : nodes.Node) (peers : List acks.Peer) : Type 0 where
  Accepts : (k place round : ℕ) → systems.WasSent s k j (payload.AppendReply n.ballot.term true place round) → peers ≡ acks.accepted n.leading.peers k place round (length n.log) → Heeds s j n peers
  Refuses : (k place round : ℕ) → systems.WasSent s k j (payload.AppendReply n.ballot.term false place round) → peers ≡ acks.refused n.leading.peers k place round → Heeds s j n peers

-- which packets a node may send
pub data Sends (s : systems.System) (p : Packet) : Type 0 where
  -- a candidate asks for a vote
  Asks : (j k : ℕ) (n : nodes.Node) → systems.IsUp s j n → nodes.is_candidate n ≡ true → k ≢ n.ballot.me
      → p ≡ nodes.to_node n k (payload.Vote n.ballot.term (length n.log) (logs.last_term n.log)) → Sends s p
  -- a node tells whether it votes for another, which asked in the node's term
  Votes : (j k last last_term : ℕ) (n : nodes.Node) (is_given : Bool) → systems.IsUp s j n → (is_given ≡ true → (n.ballot.vote ≡ Some k) × systems.WasSent s k j (payload.Vote n.ballot.term last last_term))
      → p ≡ nodes.to_node n k (payload.VoteReply n.ballot.term is_given) → Sends s p
  -- a leader sends entries
  Appends : (j k : ℕ) (n : nodes.Node) → systems.IsUp s j n → nodes.is_leader n ≡ true → k ≢ n.ballot.me → p ≡ nodes.sent_to n k → Sends s p
  -- a node answers an append packet of an earlier term
  Outdates : (j k term prev prev_term commit round : ℕ) (es : List Entry) (n : nodes.Node) → systems.IsUp s j n → systems.WasSent s k j (payload.Append term prev prev_term commit round es) → term < n.ballot.term
      → p ≡ nodes.reply_to n k false 0 0 → Sends s p
  -- a node lacks the entry before those sent
  Lacks : (j k prev prev_term commit round place : ℕ) (es : List Entry) (n : nodes.Node) → systems.IsUp s j n → nodes.is_leader n ≡ false
      → systems.WasSent s k j (payload.Append n.ballot.term prev prev_term commit round es) → p ≡ nodes.reply_to n k false place round → Sends s p
  -- a follower holds what was sent
  Acks : (j : ℕ) (n : nodes.Node) → systems.IsUp s j n → nodes.is_leader n ≡ false → (m : Matching s j n) → Holding s j n m
      → p ≡ nodes.reply_to n m.leader true (m.prev + length m.entries) m.round → Sends s p

-- when a transition may happen
abbrev pub May : systems.System → Transition → Type 0
May s (Raise j n term) = systems.IsUp s j n × (n.ballot.term < term)
May s (Campaign j n) = systems.IsUp s j n
May s (Grant j n candidate last last_term) = systems.IsUp s j n × systems.WasSent s candidate j (payload.Vote n.ballot.term last last_term) × (votes.is_granted n.ballot n.log n.ballot.term candidate last last_term ≡ true)
May s (Count j n voter) = systems.IsUp s j n × (nodes.is_candidate n ≡ true) × systems.WasSent s voter j (payload.VoteReply n.ballot.term true)
May s (Lead j n e is_made) = systems.IsUp s j n × (nodes.is_candidate n ≡ true) × (votes.is_elected n.ballot ≡ true) × (e.term ≡ n.ballot.term) × (logs.last_time n.log ≤ e.time) × (e.body ≡ body.Blank)
May s (Take j n time bodies) = systems.IsUp s j n × (nodes.is_leader n ≡ true) × (logs.last_time n.log ≤ time)
May s (Advance j n) = systems.IsUp s j n × (nodes.is_leader n ≡ true)
May s (Tick j n) = systems.IsUp s j n × (nodes.is_leader n ≡ true)
May s (Arrive j n) = systems.IsUp s j n × (nodes.is_leader n ≡ true) × (acks.has_read_room n.leading.reads ≡ true)
May s (Follow j n leader) = systems.IsUp s j n × (nodes.is_leader n ≡ false)
    × ((prev prev_term commit round : ℕ) × (es : List Entry) × systems.WasSent s leader j (payload.Append n.ballot.term prev prev_term commit round es))
May s (Cut j n place) = systems.IsUp s j n × (nodes.is_leader n ≡ false) × (nodes.is_candidate n ≡ false) × (n.commit < place) × ((m : Matching s j n) × (logs.first_conflict n.log m.prev m.entries ≡ Some place))
May s (Extend j n es) = systems.IsUp s j n × (nodes.is_leader n ≡ false) × (nodes.is_candidate n ≡ false)
    × ((m : Matching s j n) × (k : ℕ) × (logs.first_conflict n.log m.prev m.entries ≡ None) × (es ≡ take k (logs.lacking n.log m.prev m.entries)))
May s (Learn j n commit) = systems.IsUp s j n × (nodes.is_leader n ≡ false) × (nodes.is_candidate n ≡ false)
    × ((m : Matching s j n) × Holding s j n m × (commit ≡ max n.commit (min m.commit (m.prev + length m.entries))))
May s (Heed j n peers) = systems.IsUp s j n × (nodes.is_leader n ≡ true) × Heeds s j n peers
May s (Answer j n) = systems.IsUp s j n
May s (Tally j n) = systems.IsUp s j n
May s (Send p) = Sends s p
May s (Mark number) = Unit {0}
May s (Crash j n) = systems.IsUp s j n
May s (Start j n) = lists.at_place s.cluster.members j ≡ Some (record { is_up = false; node = n })

-- after a list of them, and that each of the list may happen
abbrev pub after_transitions : systems.System → List Transition → systems.System
after_transitions s [] = s
after_transitions s (t ∷ ts) = after_transitions (after_transition s t) ts

abbrev pub AllMay : systems.System → List Transition → Type 0
AllMay s [] = Unit {0}
AllMay s (t ∷ ts) = May s t × AllMay (after_transition s t) ts
