-- The past of a system: what it remembers of the nodes as they are, and of each packet the fact that it carries for ever.
use Rattle.std.specs.Prelude.{◌≡◌, ◌≢◌, ℕ, suc, ◌-◌, ◌≤◌, true, nat_le, nat_lt, Option, Some, None, List, [], ◌∷◌, ◌++◌, length, map, if◌then◌else◌, drop}
use Rattle.ax_types.specs.Places as lists
use Rattle.ax_types.specs.declared.entries.Entry.{Entry}
use Rattle.ax_types.specs.declared.ids.End.{End}
use Rattle.ax_types.specs.declared.ids.End.TheVariants as end
use Rattle.ax_types.specs.declared.packets.Packet.{Packet}
use Rattle.ax_types.specs.declared.packets.Payload.{Payload}
use Rattle.ax_types.specs.declared.packets.Payload.TheVariants as payload
use Rattle.spec_raft.specs.Majority as majorities
use Rattle.spec_raft.specs.Log as logs
use Rattle.spec_node.specs.Node as nodes
use Rattle.spec_cluster.specs.Cluster as clusters
use Rattle.spec_transitions.specs.Systems as systems
use Rattle.spec_transitions.specs.Transitions as transitions
use Rattle.spec_past.specs.Matching as matchings
use Rattle.spec_past.specs.Polls as polls
use Rattle.spec_past.specs.Past as pasts
use Rattle.spec_past.specs.PastMoves as moves

abbrev pub vote_number : Option ℕ → ℕ
vote_number None = 0
vote_number (Some k) = k

abbrev pub role_number : nodes.Role → ℕ
role_number nodes.Follower = 0
role_number nodes.Candidate = 1
role_number nodes.Leader = 2

-- member k of n as it is, and as the past has it
pub record IsLike (n k : ℕ) (v : polls.Voter) (g : List Entry) (c : ℕ) (m : clusters.Member) : Type 0 where
  pub me : m.node.ballot.me ≡ k
  pub size : m.node.ballot.nodes ≡ n
  pub term : v.term ≡ m.node.ballot.term
  pub vote : v.vote ≡ vote_number m.node.ballot.vote
  pub role : v.role ≡ role_number m.node.role
  pub votes : role_number m.node.role ≡ 1 → (u : ℕ) → v.votes u ≡ Rattle.spec_raft.specs.Majority.is_in m.node.ballot.votes u
  pub log : g ≡ m.node.log
  pub commit : c ≡ m.node.commit

abbrev pub Each : {X : Type 0} → (X → Type 0) → List X → Type 0
Each P [] = Unit {0}
Each P (x ∷ xs) = P x × Each P xs

-- what node k, a leader, knows of the others
pub record IsLeading (n k : ℕ) (w : pasts.Past) (x : nodes.Node) : Type 0 where
  pub peers : map (λ p. p.node) x.leading.peers ≡ majorities.others n k
  pub matched : Each (λ p. p.matched ≤ w.acked x.ballot.term p.node) x.leading.peers
  pub next : Each (λ p. p.next ≤ suc (length x.log)) x.leading.peers
  pub self : length x.log ≤ w.acked x.ballot.term k

-- the entries after prev are these, and then others
pub record Slice (g : List Entry) (prev : ℕ) (es : List Entry) : Type 0 where
  pub within : prev ≤ length g
  pub rest : List Entry
  pub same : drop prev g ≡ es ++ rest

-- what a request for a vote says
pub record IsAsked (w : pasts.Past) (j k t l lt : ℕ) : Type 0 where
  pub apart : k ≢ j
  pub some : j ≢ 0
  pub runs : w.poll.cast t j ≡ j
  pub last : l ≡ length (w.candidate_log t j)
  pub last_term : lt ≡ logs.last_term (w.candidate_log t j)

-- what an append packet says
pub record IsAppended (w : pasts.Past) (j t prev prev_term commit : ℕ) (es : List Entry) : Type 0 where
  pub led : w.poll.led t ≡ true
  pub leader : w.poll.leader t ≡ j
  pub slice : Slice (w.leader_log t) prev es
  pub before : prev_term ≡ logs.term_at (w.leader_log t) prev
  pub told : commit ≤ w.told t

-- what a packet from j to k says
abbrev pub Says : pasts.Past → ℕ → ℕ → Payload → Type 0
Says w j k (payload.Vote t last last_term) = IsAsked w j k t last last_term
Says w j k (payload.VoteReply t true) = (k ≢ 0) × (w.poll.cast t j ≡ k)
Says w j k (payload.Append t prev prev_term commit round es) = IsAppended w j t prev prev_term commit es
Says w j k (payload.AppendReply t true place round) = place ≤ w.acked t j
Says w j k p = Unit {0}

abbrev pub Holds : pasts.Past → End → End → Payload → Type 0
Holds w (end.Node j) (end.Node k) p = Says w j k p
Holds w a b p = Unit {0}

-- a place was committed by a leader of a term
pub record IsCommittedBy (n : ℕ) (w : pasts.Past) (t p : ℕ) : Type 0 where
  pub place : ℕ
  pub within : p ≤ place
  pub quorum : matchings.Quorum (majorities.cluster_of n) w.leader_log w.acked t place
  pub agrees : matchings.Agree w.committed (w.leader_log t) p

pub record IsPastOf (n : ℕ) (s : systems.System) (w : pasts.Past) : Type 0 where
  pub long : length s.cluster.members ≡ n
  pub members : (k : ℕ) (m : clusters.Member) → lists.at_place s.cluster.members k ≡ Some m → IsLike n k (w.poll.member k) (w.log k) (w.commit k) m
  pub bare : (k : ℕ) → lists.at_place s.cluster.members k ≡ None → w.log k ≡ []
  pub leaders : (k : ℕ) (m : clusters.Member) → lists.at_place s.cluster.members k ≡ Some m → role_number m.node.role ≡ 2 → IsLeading n k w m.node
  pub packets : (p : Packet) → systems.Among p s.sent → Holds w p.«from» p.to p.payload
  pub committed : w.committed ≡ s.cluster.committed
  pub counted : length s.cluster.terms ≡ length s.cluster.committed
  pub terms : (p t : ℕ) → lists.at_place s.cluster.terms p ≡ Some t → IsCommittedBy n w t p
  pub leds : (i : ℕ) (x : clusters.Led) → lists.at_place s.cluster.leds i ≡ Some x → (w.poll.led x.term ≡ true) × (w.poll.leader x.term ≡ x.node)
  pub once : (i j : ℕ) (x y : clusters.Led) → lists.at_place s.cluster.leds i ≡ Some x → lists.at_place s.cluster.leds j ≡ Some y → x.term ≡ y.term → i ≡ j

-- the moves of the past that a transition is
abbrev pub take_moves : ℕ → List Entry → List moves.PastMove
take_moves j [] = []
take_moves j (e ∷ es) = moves.Take j e ∷ take_moves j es

abbrev pub grant_moves : ℕ → ℕ → Option ℕ → List moves.PastMove
grant_moves j c None = moves.Grant j c ∷ []
grant_moves j c (Some k) = []

abbrev pub extend_moves : ℕ → List Entry → List moves.PastMove
extend_moves j [] = []
extend_moves j (e ∷ es) = moves.Extend j (e ∷ es) ∷ []

abbrev pub learn_moves : ℕ → ℕ → ℕ → List moves.PastMove
learn_moves j old new = if nat_lt old new then moves.Learn j new new ∷ [] else []

abbrev pub commit_moves : pasts.Past → ℕ → ℕ → ℕ → List moves.PastMove
commit_moves w j old new =
    if nat_lt old new then (if nat_lt (length w.committed) new then moves.Commit j new ∷ [] else moves.Advance j new ∷ []) else []

abbrev pub send_moves : pasts.Past → End → Payload → List moves.PastMove
send_moves w (end.Node j) (payload.Append t prev prev_term commit round es) = if nat_le (w.told (pasts.term w j)) (w.commit j) then moves.Tell j ∷ [] else []
send_moves w (end.Node j) (payload.AppendReply t true place round) = if nat_le (w.acked (pasts.term w j) j) place then moves.Ack j place ∷ [] else []
send_moves w a p = []

abbrev pub moves_of : pasts.Past → transitions.Transition → List moves.PastMove
moves_of w (transitions.Raise j n t) = moves.Raise j t ∷ []
moves_of w (transitions.Campaign j n) = moves.Campaign j ∷ []
moves_of w (transitions.Grant j n c last last_term) = grant_moves j c n.ballot.vote
moves_of w (transitions.Count j n v) = moves.Count j v ∷ []
moves_of w (transitions.Lead j n e is_made) = moves.Lead j e ∷ []
moves_of w (transitions.Take j n time bodies) = take_moves j (nodes.entries_of n.ballot.term time bodies)
moves_of w (transitions.Advance j n) = commit_moves w j n.commit (nodes.advanced n).commit
moves_of w (transitions.Follow j n l) = moves.Fall j ∷ []
moves_of w (transitions.Cut j n place) = moves.Cut j (place - 1) ∷ []
moves_of w (transitions.Extend j n es) = extend_moves j es
moves_of w (transitions.Learn j n commit) = learn_moves j n.commit commit
moves_of w (transitions.Send p) = send_moves w p.«from» p.payload
moves_of w (transitions.Crash j n) = moves.Fall j ∷ moves.Forget j ∷ []
moves_of w (transitions.Start j n) = moves.Fall j ∷ moves.Forget j ∷ []
moves_of w t = []
