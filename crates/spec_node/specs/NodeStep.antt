-- One step of a Raft node: an input, and what it gives (Ongaro 2014, figure 3.1).
use Rattle.std.specs.Prelude.{ℕ, Bool, true, false, ◌-◌, ◌&&◌, nat_eq, Option, Some, None, if◌then◌else◌, List}
use Rattle.ax_types.specs.declared.packets.Payload.{Payload}
use Rattle.ax_types.specs.declared.packets.Payload.TheVariants as payload
use Rattle.ax_types.specs.declared.raft.RaftInput.{RaftInput}
use Rattle.ax_types.specs.declared.raft.RaftInput.TheVariants as input
use Rattle.ax_types.specs.declared.raft.Saves.{Saves}
use Rattle.ax_types.specs.declared.raft.Out.{Out}
use Rattle.spec_raft.specs.Progress as progress
use Rattle.spec_node.specs.Node as nodes

-- a packet from another node; a higher term in it is seen first
abbrev pub packet_heeded : nodes.Node → ℕ → ℕ → Payload → nodes.Did
packet_heeded n from clock (payload.Vote term last last_term) = nodes.vote_asked (nodes.seen n term) from term last last_term
packet_heeded n from clock (payload.VoteReply term is_given) = nodes.vote_heeded (nodes.seen n term) from clock term is_given
packet_heeded n from clock (payload.Append term prev prev_term commit round es) = nodes.append_heeded (nodes.seen n term) from term prev prev_term commit round es
packet_heeded n from clock (payload.AppendReply term ok place round) = nodes.append_answered (nodes.seen n term) from term ok place round
packet_heeded n from clock _ = nodes.nothing_done n

-- the rule for an input, before ready reads are given
abbrev pub did : nodes.Node → RaftInput → nodes.Did
did n (input.Elect clock) = nodes.candidacy n clock
did n input.Beat = nodes.beaten n
did n (input.Append clock bodies) = nodes.appended n clock bodies
did n input.Read = nodes.read_arrived n
did n (input.Message from clock p) = packet_heeded n from clock p

-- the reads that are ready, and the node without them
abbrev pub given : nodes.Node → List (ℕ × ℕ)
given n = progress.ready_reads n.leading.reads (progress.confirmed_round n.leading.peers) n.commit

abbrev pub without_given : nodes.Node → nodes.Node
without_given n = record n { leading = record n.leading { reads = progress.waiting_reads n.leading.reads (progress.confirmed_round n.leading.peers) n.commit } }

abbrev pub same_vote : Option ℕ → Option ℕ → Bool
same_vote None None = true
same_vote None (Some k) = false
same_vote (Some j) None = false
same_vote (Some j) (Some k) = nat_eq j k

-- the term and the vote, where one of them changed
abbrev pub vote_save : nodes.Node → nodes.Node → Option (ℕ × Option ℕ)
vote_save before after =
    if nat_eq before.ballot.term after.ballot.term && same_vote before.ballot.vote after.ballot.vote then None
    else Some (after.ballot.term, after.ballot.vote)

-- the last place that stays, where entries from a place on were cut
abbrev pub cut_save : Option ℕ → Option ℕ
cut_save None = None
cut_save (Some p) = Some (p - 1)

abbrev pub saves_of : nodes.Node → nodes.Did → Saves
saves_of before d = record { vote = vote_save before d.node; cut = cut_save d.cut; add = d.add }

abbrev pub out_of : nodes.Node → nodes.Did → Out
out_of before d = record { saves = saves_of before d; packets = d.packets; committed = d.node.commit; reads = given d.node; reached = d.reached; led = d.led }

-- a step: the node after it, and what it gives
abbrev pub stepped : nodes.Node → RaftInput → nodes.Node
stepped n i = without_given (did n i).node

abbrev pub out : nodes.Node → RaftInput → Out
out n i = out_of n (did n i)
