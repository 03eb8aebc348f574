-- When a node may be given an input.
use Rattle.std.specs.Prelude.{◌≡◌, ◌≢◌, ◌-◌, ◌^◌, ◌<◌, ◌≤◌, true, false}
use Rattle.ax_types.specs.declared.raft.RaftInput.{RaftInput}
use Rattle.ax_types.specs.declared.raft.RaftInput.TheVariants as input
use Rattle.spec_node.specs.Node as nodes

-- a leader stands for no election, only a leader beats, appends and takes reads, and packets come from other nodes
abbrev pub MayTake : nodes.Node → RaftInput → Type 0
MayTake n (input.Elect clock) = (nodes.is_leader n ≡ false) × (n.ballot.term < 2 ^ 64 - 1)
MayTake n input.Beat = nodes.is_leader n ≡ true
MayTake n (input.Append clock bodies) = nodes.is_leader n ≡ true
MayTake n input.Read = nodes.is_leader n ≡ true
MayTake n (input.Message from clock p) = (from ≢ n.ballot.me) × (from ≤ n.ballot.nodes)
