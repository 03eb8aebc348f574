-- Logs, leaders, a network, a cluster of Raft nodes and a session state, for the rows on their rules.
use Rattle.std.specs.Prelude.{ℕ, zero, suc, false, pos, codes, Option, Some, None, List, [], ◌∷◌, map, replicate}
use Rattle.ax_types.specs.Places as lists
use Rattle.ax_types.specs.declared.entries.Act.{Act}
use Rattle.ax_types.specs.declared.entries.Body.{Body}
use Rattle.ax_types.specs.declared.entries.Body.TheVariants as body
use Rattle.ax_types.specs.declared.entries.Entry.{Entry}
use Rattle.ax_types.specs.declared.ids.End.TheVariants as end
use Rattle.ax_types.specs.declared.ops.LongOp.TheVariants as long
use Rattle.ax_types.specs.declared.ops.Op.TheVariants as op
use Rattle.ax_types.specs.declared.packets.Payload.{Payload}
use Rattle.ax_types.specs.declared.packets.Payload.TheVariants as payload
use Rattle.ax_types.specs.declared.raft.NodeInput.{NodeInput}
use Rattle.ax_types.specs.declared.raft.NodeInput.TheVariants as node
use Rattle.spec_raft.specs.Progress as progress
use Rattle.spec_cluster.specs.Bag as bags
use Rattle.spec_cluster.specs.Cluster as clusters
use Rattle.spec_sessions.specs.Sessions as sessions

-- a log of blank entries with these terms
abbrev pub blanks : List ℕ → List Entry
blanks terms = map (λ t. record { term = t; time = 0; body = body.Blank }) terms

abbrev pub terms_of : List Entry → List ℕ
terms_of log = map (λ e. e.term) log

-- what a leader knows of two other nodes
abbrev pub two_peers : ℕ → ℕ → List progress.Peer
two_peers a b = record { node = 2; next = 1; matched = a; acked = 0 } ∷ record { node = 3; next = 1; matched = b; acked = 0 } ∷ []

-- as many waiting reads as there may be
abbrev pub full_reads : List progress.Waiting
full_reads = replicate 256 (record { number = 1; place = 1; round = 1 })

-- a network to which one packet more was sent than is kept, all from node 1 to node 2
abbrev pub full_bag : bags.Bag
full_bag = record { sent = 16385; kept = replicate 16384 (record { is_marked = false; packet = record { «from» = end.Node 1; to = end.Node 2; payload = payload.VoteReply 1 false } }); cuts = [] }

-- inputs of a cluster, one after the other, and deliveries, at most so many, while there is a packet to deliver
abbrev pub all_made : clusters.Cluster → List NodeInput → clusters.Cluster
all_made c [] = c
all_made c (i ∷ is) = all_made (clusters.made c i) is

abbrev pub flushed : ℕ → clusters.Cluster → clusters.Cluster
flushed zero c = c
flushed (suc fuel) c = delivered c (bags.next_up c.bag (clusters.up_members c)) (λ d. flushed fuel d)
  where
    delivered : clusters.Cluster → Option ℕ → (clusters.Cluster → clusters.Cluster) → clusters.Cluster
    delivered c None more = c
    delivered c (Some number) more = more (clusters.made c (node.Deliver number 0))

abbrev pub settled : ℕ → clusters.Cluster → clusters.Cluster
settled k c = flushed 100 (clusters.made (flushed 100 (clusters.made (flushed 100 c) (node.Beat k))) (node.Beat k))

abbrev pub append : ℕ → Body → NodeInput
append k b = node.Append k 0 (b ∷ [])

abbrev pub add_five_body : Body
add_five_body = body.Command 1 2 1 (codes "c") (op.Long (long.Add (pos 5)))

-- node 1 leads, takes a registration and then a command that it commits not; node 2 leads, and takes the command again
abbrev pub first_leader : clusters.Cluster
first_leader = clusters.made (settled 1 (clusters.made (settled 1 (clusters.made (clusters.new_cluster 3) (node.Elect 1 0))) (append 1 (body.Register 1 1)))) (append 1 add_five_body)

abbrev pub second_leader : clusters.Cluster
second_leader = settled 2 (clusters.made (settled 2 (all_made first_leader (node.Crash 1 ∷ node.Elect 2 0 ∷ []))) (append 2 add_five_body))

abbrev pub both_leaders : clusters.Cluster
both_leaders = settled 2 (clusters.made second_leader (node.Start 1))

abbrev pub log_in : Option clusters.Member → List Entry
log_in None = []
log_in (Some m) = m.node.log

-- the terms of the log of a node
abbrev pub terms_at : clusters.Cluster → ℕ → List ℕ
terms_at c k = terms_of (log_in (lists.at_place c.members k))

-- the act and the answer of each of a list of entries
abbrev pub acts_and_answers : sessions.Sessions → List Entry → List (Act × Option (ℕ × Payload))
acts_and_answers s [] = []
acts_and_answers s (e ∷ es) = let a = sessions.applied_of s (suc s.applied) e in (a.act, a.answer) ∷ acts_and_answers (sessions.applying s (suc s.applied) e) es

abbrev pub entry : ℕ → Body → Entry
entry time b = record { term = 1; time = time; body = b }

abbrev pub command_body : ℕ → Body
command_body seq = body.Command 1 2 seq (codes "c") (op.Long (long.Add (pos 5)))

-- a session that commands, keeps itself alive and expires, with a timeout of 10
abbrev pub one_session : List Entry
one_session =
    entry 0 body.Blank ∷ entry 0 (body.Register 1 1) ∷ entry 0 (command_body 1) ∷ entry 0 (command_body 3) ∷ entry 0 (command_body 1)
    ∷ entry 1 (body.Keep 1 2 1 0) ∷ entry 1 (command_body 1) ∷ entry 10 (body.Expire 2) ∷ entry 11 (body.Expire 2) ∷ entry 11 (command_body 2) ∷ []

abbrev pub of_one_session : List (Act × Option (ℕ × Payload))
of_one_session = acts_and_answers (sessions.new_sessions 10) one_session
