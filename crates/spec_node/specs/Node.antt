-- The state of a Raft node, and the rules that change it (Ongaro 2014, chapter 3 and 6.4).
use Rattle.std.specs.Prelude.{ℕ, suc, ◌+◌, ◌-◌, max, min, Bool, true, false, ◌&&◌, not, nat_eq, nat_lt, nat_le, Option, Some, None, List, [], ◌∷◌, ◌++◌, length, map, if◌then◌else◌}
use Rattle.ax_types.specs.Loads as loads
use Rattle.ax_types.specs.declared.entries.Body.{Body}
use Rattle.ax_types.specs.declared.entries.Body.TheVariants as body
use Rattle.ax_types.specs.declared.entries.Entry.{Entry}
use Rattle.ax_types.specs.declared.entries.Loaded.{Loaded}
use Rattle.ax_types.specs.declared.packets.Packet.{Packet}
use Rattle.ax_types.specs.declared.packets.Payload.{Payload}
use Rattle.ax_types.specs.declared.packets.Payload.TheVariants as payload
use Rattle.ax_types.specs.declared.ids.End.TheVariants as end
use Rattle.spec_raft.specs.Majority as majorities
use Rattle.spec_raft.specs.Log as logs
use Rattle.spec_raft.specs.Ballot as ballots
use Rattle.spec_raft.specs.Progress as progress

pub data Role : Type 0 where
  Follower : Role
  Candidate : Role
  Leader : Role

-- what only a leader has: its first place, its round, how many reads arrived, those that wait, and the other nodes
pub record Leading : Type 0 where
  pub first : ℕ
  pub round : ℕ
  pub arrivals : ℕ
  pub reads : List progress.Waiting
  pub peers : List progress.Peer

-- a node: term and vote, in the ballot, and the log are kept over a crash, the rest is not (Ongaro 2014, figure 3.1)
pub record Node : Type 0 where
  pub ballot : ballots.Ballot
  pub log : List Entry
  pub role : Role
  pub leader : Option ℕ
  pub commit : ℕ
  pub leading : Leading

abbrev pub not_leading : Leading
not_leading = record { first = 0; round = 0; arrivals = 0; reads = []; peers = [] }

-- a node after its store was loaded: all but what was kept is as at the beginning (restart)
abbrev pub restarted : ℕ → ℕ → Loaded → Node
restarted me nodes kept = record { ballot = ballots.ballot_of me nodes kept.term kept.vote; log = kept.log; role = Follower; leader = None; commit = 0; leading = not_leading }

-- what a node keeps over a crash
abbrev pub kept_of : Node → Loaded
kept_of n = record { term = n.ballot.term; vote = n.ballot.vote; log = n.log }

abbrev pub new_node : ℕ → ℕ → Node
new_node me nodes = restarted me nodes loads.nothing_loaded

abbrev pub is_leading : Role → Bool
is_leading Leader = true
is_leading _ = false

abbrev pub is_leader : Node → Bool
is_leader n = is_leading n.role

abbrev pub is_running : Role → Bool
is_running Candidate = true
is_running _ = false

abbrev pub is_candidate : Node → Bool
is_candidate n = is_running n.role

-- the greater of a clock and the time of the last entry: the time of a new entry (Ongaro 2014, 6.3)
abbrev pub time_for : Node → ℕ → ℕ
time_for n clock = max clock (logs.last_time n.log)

-- what a rule gives: the node after it, the place of the first entry that it cut, the entries that it added, its packets,
-- the number of the read that it took, and whether the node became leader
pub record Did : Type 0 where
  pub node : Node
  pub cut : Option ℕ
  pub add : List Entry
  pub packets : List Packet
  pub reached : Option ℕ
  pub led : Bool

abbrev pub nothing_done : Node → Did
nothing_done n = record { node = n; cut = None; add = []; packets = []; reached = None; led = false }

abbrev pub sending : Node → List Packet → Did
sending n packets = record (nothing_done n) { packets = packets }

abbrev pub to_node : Node → ℕ → Payload → Packet
to_node n k p = record { «from» = end.Node n.ballot.me; to = end.Node k; payload = p }

-- a term is seen: a higher one makes a follower of this node (see; Ongaro 2014, 3.3)
abbrev pub seen : Node → ℕ → Node
seen n term = if ballots.is_above n.ballot term
    then record n { ballot = ballots.seen_ballot n.ballot term; role = Follower; leader = None; leading = not_leading }
    else n

-- the commit rises as far as a majority holds entries of this term (advance; Ongaro 2014, 3.6.2)
abbrev pub advanced : Node → Node
advanced n = record n { commit = progress.commit_place n.leading.peers n.log n.ballot.term n.commit }

-- entries are added to a leader's log (append)
abbrev pub extended : Node → List Entry → Node
extended n es = advanced (record n { log = n.log ++ es })

abbrev pub entries_of : ℕ → ℕ → List Body → List Entry
entries_of term time bodies = map (λ b. record { term = term; time = time; body = b }) bodies

-- this node leads, as its log stands, from the next place on
abbrev pub leading_from : Node → Node
leading_from n = record n {
  role = Leader;
  leader = Some n.ballot.me;
  leading = record { first = suc (length n.log); round = 0; arrivals = 0; reads = []; peers = progress.progress_of n.ballot.me n.ballot.nodes (suc (length n.log)) };
}

-- a candidate with a majority leads, and appends a blank entry of its term (lead; Ongaro 2014, 3.4 and 6.4)
abbrev pub led : Node → ℕ → Did
led n clock = let es = entries_of n.ballot.term (time_for n clock) (body.Blank ∷ []) in
    record (nothing_done (extended (leading_from n) es)) { add = es; led = true }

-- the entries that a node gets next from a leader, with the one before them (send; Ongaro 2014, 3.5)
abbrev pub sent_after : Node → ℕ → ℕ → Packet
sent_after n k prev = to_node n k (payload.Append n.ballot.term prev (logs.term_at n.log prev) n.commit n.leading.round (logs.run_from n.log (suc prev)))

abbrev pub sent_to : Node → ℕ → Packet
sent_to n k = sent_after n k (progress.next_place_of n.leading.peers k - 1)

abbrev pub each_other : Node → List ℕ
each_other n = majorities.others n.ballot.nodes n.ballot.me

-- a candidacy in the next term (elect; Ongaro 2014, 3.4)
abbrev pub candidate : Node → Node
candidate n = record n { ballot = ballots.begun n.ballot; role = Candidate; leader = None; leading = not_leading }

abbrev pub vote_requests : Node → List Packet
vote_requests c = map (λ k. to_node c k (payload.Vote c.ballot.term (length c.log) (logs.last_term c.log))) (each_other c)

abbrev pub candidacy : Node → ℕ → Did
candidacy n clock = let c = candidate n in if ballots.is_elected c.ballot then led c clock else sending c (vote_requests c)

-- a new round, sent to each other node (beat; Ongaro 2014, 3.5 and 6.4)
abbrev pub ticked : Node → Node
ticked n = record n { leading = record n.leading { round = suc n.leading.round } }

abbrev pub beaten : Node → Did
beaten n = let t = ticked n in sending t (map (sent_to t) (each_other t))

-- bodies are appended as entries of this term (append)
abbrev pub appended : Node → ℕ → List Body → Did
appended n clock bodies = let es = entries_of n.ballot.term (time_for n clock) bodies in record (nothing_done (extended n es)) { add = es }

-- a read arrives at a leader; beyond the most that wait it is not taken (read; Ongaro 2014, 6.4)
abbrev pub read_taken : Node → Node
read_taken n = record n { leading = record n.leading { arrivals = suc n.leading.arrivals; reads = progress.with_read n.leading.reads (suc n.leading.arrivals) (max n.commit n.leading.first) (suc n.leading.round) } }

abbrev pub read_arrived : Node → Did
read_arrived n = if progress.has_read_room n.leading.reads then record (nothing_done (read_taken n)) { reached = Some (suc n.leading.arrivals) } else nothing_done n

-- a candidate asks for the vote (Ongaro 2014, 3.4 and 3.6.1)
abbrev pub vote_asked : Node → ℕ → ℕ → ℕ → ℕ → Did
vote_asked n from term last last_term =
    sending (record n { ballot = ballots.granted n.ballot n.log term from last last_term })
    (to_node n from (payload.VoteReply n.ballot.term (ballots.is_granted n.ballot n.log term from last last_term)) ∷ [])

-- a vote is counted, and the first majority makes a leader
abbrev pub vote_counted : Node → ℕ → ℕ → Did
vote_counted n from clock = let m = record n { ballot = ballots.counted n.ballot from } in if ballots.is_winning n.ballot from then led m clock else nothing_done m

abbrev pub vote_heeded : Node → ℕ → ℕ → ℕ → Bool → Did
vote_heeded n from clock term is_given = if nat_eq term n.ballot.term && is_candidate n && is_given then vote_counted n from clock else nothing_done n

-- the answer to an append packet
abbrev pub reply_to : Node → ℕ → Bool → ℕ → ℕ → Packet
reply_to n from ok place round = to_node n from (payload.AppendReply n.ballot.term ok place round)

abbrev pub followed : Node → ℕ → Node
followed n from = record n { role = Follower; leader = Some from }

-- the log is made to hold the entries sent, and what of it is committed is learnt (Ongaro 2014, 3.5)
abbrev pub held_sent : Node → ℕ → ℕ → List Entry → Node
held_sent n prev commit es = record n { log = logs.cut_and_added n.log prev es; commit = max n.commit (min commit (prev + length es)) }

abbrev pub sent_taken : Node → ℕ → ℕ → ℕ → ℕ → List Entry → Did
sent_taken n from prev commit round es = record (sending (held_sent n prev commit es) (reply_to n from true (prev + length es) round ∷ [])) { cut = logs.first_conflict n.log prev es; add = logs.added n.log prev es }

-- no entry at or below the commit is ever cut: such a packet is not answered
abbrev pub is_committed : Node → Option ℕ → Bool
is_committed n None = false
is_committed n (Some p) = nat_le p n.commit

-- a leader's append packet at a node of its term, which follows it (Ongaro 2014, 3.5)
abbrev pub append_followed : Node → ℕ → ℕ → ℕ → ℕ → ℕ → List Entry → Did
append_followed n from prev prev_term commit round es =
    if not (logs.match_at n.log prev prev_term) then sending n (reply_to n from false (min (prev - 1) (length n.log)) round ∷ [])
    else if is_committed n (logs.first_conflict n.log prev es) then nothing_done n
    else sent_taken n from prev commit round es

-- an append packet: the round of an earlier term is never handed back, and a leader ignores one of its own term
abbrev pub append_heeded : Node → ℕ → ℕ → ℕ → ℕ → ℕ → ℕ → List Entry → Did
append_heeded n from term prev prev_term commit round es =
    if nat_lt term n.ballot.term then sending n (reply_to n from false 0 0 ∷ [])
    else if is_leader n then nothing_done n
    else append_followed (followed n from) from prev prev_term commit round es

-- what a leader knows of the others is changed
abbrev pub with_peers : Node → List progress.Peer → Node
with_peers n peers = record n { leading = record n.leading { peers = peers } }

-- the next entries go to a node where it may lack some
abbrev pub more_to : Node → ℕ → List Packet
more_to n k = if nat_le (progress.next_place_of n.leading.peers k) (length n.log) then sent_to n k ∷ [] else []

abbrev pub append_accepted : Node → ℕ → ℕ → ℕ → Did
append_accepted n from place round = let m = with_peers n (progress.accepted n.leading.peers from place round (length n.log)) in
    if progress.is_accepted n.leading.peers from place (length n.log) then (let a = advanced m in sending a (more_to a from)) else nothing_done m

abbrev pub append_refused : Node → ℕ → ℕ → ℕ → Did
append_refused n from place round = let m = with_peers n (progress.refused n.leading.peers from place round) in
    if progress.is_refused n.leading.peers from place then sending m (sent_to m from ∷ []) else nothing_done m

-- the answer to an append packet, at a leader of its term (Ongaro 2014, 3.5)
abbrev pub append_answered : Node → ℕ → ℕ → Bool → ℕ → ℕ → Did
append_answered n from term ok place round =
    if is_leader n && nat_eq term n.ballot.term then (if ok then append_accepted n from place round else append_refused n from place round) else nothing_done n
