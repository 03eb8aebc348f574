-- What a rule gives beside the node, and what a step makes of it.
use Rattle.std.specs.Prelude.{ℕ, ◌&&◌, nat_eq, Bool, Option, Some, None, [], ◌∷◌, length, if◌then◌else◌}
use Rattle.ax_types.specs.declared.packets.Packet.{Packet}
use Rattle.ax_types.specs.declared.packets.Payload.TheVariants as payload
use Rattle.ax_types.specs.declared.raft.Out.{Out}
use Rattle.raft_node.specs.declared.did.Did.{Did}
use Rattle.spec_raft.specs.Log as logs
use Rattle.spec_node.specs.Node as nodes
use Rattle.spec_node.specs.NodeStep as node_steps

abbrev pub shown : nodes.Did → Did
shown d = record { cut = d.cut; add = d.add; packets = d.packets; reached = d.reached; led = d.led }

-- the packet that asks a node for its vote
abbrev pub vote_request : nodes.Node → ℕ → Packet
vote_request c k = nodes.to_node c k (payload.Vote c.ballot.term (length c.log) (logs.last_term c.log))

-- the answer to an append packet alone
abbrev pub replying : nodes.Node → ℕ → Bool → ℕ → ℕ → Did
replying n from ok place round = shown (nodes.sending n (nodes.reply_to n from ok place round ∷ []))

-- the term and the vote of a node, where one of them is not as it was
abbrev pub vote_since : ℕ → Option ℕ → nodes.Node → Option (ℕ × Option ℕ)
vote_since term vote after = if nat_eq term after.ballot.term && node_steps.same_vote vote after.ballot.vote then None else Some (after.ballot.term, after.ballot.vote)

-- what a step gives, where the ballot was as kept and a rule made this node and gave this beside it
abbrev pub out_since : ℕ → Option ℕ → nodes.Node → Did → Out
out_since term vote n d = record {
  saves = record { vote = vote_since term vote n; cut = node_steps.cut_save d.cut; add = d.add };
  packets = d.packets;
  committed = n.commit;
  reads = node_steps.given n;
  reached = d.reached;
  led = d.led;
}
