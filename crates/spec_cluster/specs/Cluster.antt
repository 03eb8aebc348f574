-- A cluster of Raft nodes alone: what every list of its steps leads to, halts of stores among them.
use Rattle.std.specs.Prelude.{ℕ, suc, ◌-◌, max, Bool, true, false, ◌&&◌, not, nat_lt, Option, Some, None, List, [], ◌∷◌, ◌++◌, length, take, map, replicate, if◌then◌else◌}
use Rattle.ax_types.specs.Places as lists
use Rattle.ax_types.specs.declared.ids.End.{End}
use Rattle.ax_types.specs.declared.ids.End.TheVariants as end
use Rattle.ax_types.specs.declared.entries.Entry.{Entry}
use Rattle.ax_types.specs.declared.entries.Loaded.{Loaded}
use Rattle.ax_types.specs.declared.packets.Packet.{Packet}
use Rattle.ax_types.specs.declared.raft.RaftInput.{RaftInput}
use Rattle.ax_types.specs.declared.raft.RaftInput.TheVariants as input
use Rattle.ax_types.specs.declared.raft.NodeInput.{NodeInput}
use Rattle.ax_types.specs.declared.raft.NodeInput.TheVariants as node
use Rattle.ax_types.specs.declared.raft.RaftStep.{RaftStep}
use Rattle.ax_types.specs.declared.raft.RaftStep.TheVariants as step
use Rattle.ax_types.specs.declared.raft.Out.{Out}
use Rattle.spec_raft.specs.Positions as positions
use Rattle.spec_raft.specs.Majority as majorities
use Rattle.spec_node.specs.Node as raft_nodes
use Rattle.spec_node.specs.NodeStep as node_steps
use Rattle.spec_node.specs.Saving as saving
use Rattle.spec_cluster.specs.Bag as bags

-- a node of the cluster, and whether it is up; of one that is down only what it keeps counts
pub record Member : Type 0 where
  pub is_up : Bool
  pub node : raft_nodes.Node

-- a node became leader of a term
pub record Led : Type 0 where
  pub term : ℕ
  pub node : ℕ

-- a read was taken: its place and round, and how many places were committed anywhere by then
pub record ReadTaken : Type 0 where
  pub node : ℕ
  pub term : ℕ
  pub arrival : ℕ
  pub place : ℕ
  pub round : ℕ
  pub committed : ℕ

-- a read was given as ready
pub record ReadGiven : Type 0 where
  pub node : ℕ
  pub term : ℕ
  pub arrival : ℕ
  pub place : ℕ

-- the nodes by number, the packets, the committed entries with for each the term of the leader that committed it, and what happened
pub record Cluster : Type 0 where
  pub members : List Member
  pub bag : bags.Bag
  pub committed : List Entry
  pub terms : List ℕ
  pub leds : List Led
  pub takens : List ReadTaken
  pub givens : List ReadGiven

abbrev pub new_cluster : ℕ → Cluster
new_cluster nodes = record { members = map (λ k. record { is_up = true; node = raft_nodes.new_node k nodes }) (majorities.cluster_of nodes); bag = bags.empty_bag; committed = []; terms = []; leds = []; takens = []; givens = [] }

-- the numbers of the nodes that are up
abbrev pub up_members : Cluster → List ℕ
up_members c = lists.numbers_passing (λ m. m.is_up) 1 c.members

abbrev pub with_member : Cluster → ℕ → Member → Cluster
with_member c k m = record c { members = positions.change_place (λ old. m) c.members k }

abbrev pub entries_so_far : List Entry → raft_nodes.Node → List Entry
entries_so_far committed n = if nat_lt (length committed) n.commit then take n.commit n.log else committed

abbrev pub terms_so_far : List ℕ → raft_nodes.Node → List ℕ
terms_so_far terms n = terms ++ replicate (n.commit - length terms) n.ballot.term

abbrev pub led_by : ℕ → raft_nodes.Node → Bool → List Led
led_by k n true = record { term = n.ballot.term; node = k } ∷ []
led_by k n false = []

abbrev pub taken_by : ℕ → raft_nodes.Node → ℕ → Option ℕ → List ReadTaken
taken_by k n committed None = []
taken_by k n committed (Some a) = record { node = k; term = n.ballot.term; arrival = a; place = max n.commit n.leading.first; round = suc n.leading.round; committed = committed } ∷ []

abbrev pub given_by : ℕ → raft_nodes.Node → List (ℕ × ℕ) → List ReadGiven
given_by k n reads = map (λ r. record { node = k; term = n.ballot.term; arrival = r.0; place = r.1 }) reads

-- what a step of node k, before it and after it, brings to the cluster
abbrev pub gains : Cluster → ℕ → raft_nodes.Node → raft_nodes.Node → Out → Cluster
gains c k before after o = record c {
  members = positions.change_place (λ old. record { is_up = true; node = after }) c.members k;
  bag = bags.with_packets c.bag o.packets;
  committed = entries_so_far c.committed after;
  terms = terms_so_far c.terms after;
  leds = c.leds ++ led_by k after o.led;
  takens = c.takens ++ taken_by k before (length c.committed) o.reached;
  givens = c.givens ++ given_by k after o.reads;
}

-- the input that a node gets, with the cluster in which its packet was marked
pub record Intake : Type 0 where
  pub cluster : Cluster
  pub number : ℕ
  pub node : raft_nodes.Node
  pub input : RaftInput

abbrev pub intake_at : Cluster → ℕ → RaftInput → Option Member → (raft_nodes.Node → Bool) → Option Intake
intake_at c k i None test = None
intake_at c k i (Some m) test = if m.is_up && test m.node then Some (record { cluster = c; number = k; node = m.node; input = i }) else None

abbrev pub intake_for : Cluster → ℕ → RaftInput → (raft_nodes.Node → Bool) → Option Intake
intake_for c k i test = intake_at c k i (lists.at_place c.members k) test

abbrev pub intake_packet : Cluster → ℕ → Packet → End → End → Option Intake
intake_packet c clock p (end.Node j) (end.Node k) = intake_for c k (input.Message j clock p.payload) (λ n. true)
intake_packet c clock p _ _ = None

abbrev pub intake_kept : Cluster → ℕ → ℕ → Option bags.KeptPacket → Option Intake
intake_kept c number clock None = None
intake_kept c number clock (Some s) = intake_packet (record c { bag = bags.with_mark c.bag number }) clock s.packet s.packet.«from» s.packet.to

-- the node step that an input asks for, none where it would be skipped
abbrev pub intake : Cluster → NodeInput → Option Intake
intake c (node.Elect k clock) = intake_for c k (input.Elect clock) (λ n. not (raft_nodes.is_leader n))
intake c (node.Beat k) = intake_for c k input.Beat raft_nodes.is_leader
intake c (node.Append k clock bodies) = intake_for c k (input.Append clock bodies) raft_nodes.is_leader
intake c (node.Read k) = intake_for c k input.Read raft_nodes.is_leader
intake c (node.Deliver number clock) = if bags.is_unhindered (bags.take_refusal c.bag (up_members c) number) then intake_kept c number clock (bags.kept_at c.bag number) else None
intake c (node.Crash k) = None
intake c (node.Start k) = None

-- a node goes down: what is not kept is lost
abbrev pub fallen_member : raft_nodes.Node → Loaded → Member
fallen_member n kept = record { is_up = false; node = raft_nodes.restarted n.ballot.me n.ballot.nodes kept }

abbrev pub crashed : Cluster → ℕ → Option Member → Cluster
crashed c k None = c
crashed c k (Some m) = if m.is_up then with_member c k (fallen_member m.node (raft_nodes.kept_of m.node)) else c

abbrev pub started : Cluster → ℕ → Option Member → Cluster
started c k None = c
started c k (Some m) = if m.is_up then c else with_member c k (record { is_up = true; node = raft_nodes.restarted m.node.ballot.me m.node.ballot.nodes (raft_nodes.kept_of m.node) })

-- a step that is made
abbrev pub made_intake : Cluster → Option Intake → Cluster
made_intake c None = c
made_intake c (Some d) = gains d.cluster d.number d.node (node_steps.stepped d.node d.input) (node_steps.out d.node d.input)

abbrev pub made : Cluster → NodeInput → Cluster
made c (node.Crash k) = crashed c k (lists.at_place c.members k)
made c (node.Start k) = started c k (lists.at_place c.members k)
made c i = made_intake c (intake c i)

-- a step in which the node's store failed after so many of its saves, with so many entries of a failed add left
abbrev pub halted_intake : Cluster → Option Intake → ℕ → ℕ → Cluster
halted_intake c None saved added = c
halted_intake c (Some d) saved added = let calls = saving.calls_of (node_steps.out d.node d.input).saves in
    if saving.may_fail calls saved added then with_member d.cluster d.number (fallen_member d.node (saving.kept_after (raft_nodes.kept_of d.node) calls saved added)) else c

-- one step of the cluster, and all of a list
abbrev pub happened : Cluster → RaftStep → Cluster
happened c (step.Made i) = made c i
happened c (step.Halt i saved added) = halted_intake c (intake c i) saved added

abbrev pub all_happened : Cluster → List RaftStep → Cluster
all_happened c [] = c
all_happened c (s ∷ steps) = all_happened (happened c s) steps

-- the committed entries after a list of steps from the beginning
abbrev pub committed_after : ℕ → List RaftStep → List Entry
committed_after nodes steps = (all_happened (new_cluster nodes) steps).committed
