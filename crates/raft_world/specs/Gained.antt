-- What a step of a node brings to a cluster in which the node is after the step already.
use Rattle.std.specs.Prelude.{ℕ, suc, max, Option, Some, None, List, [], ◌∷◌, ◌++◌, length}
use Rattle.ax_types.specs.declared.raft.Out.{Out}
use Rattle.spec_node.specs.Node as raft_nodes
use Rattle.spec_cluster.specs.Bag as bags
use Rattle.spec_cluster.specs.Cluster as clusters
use Rattle.raft_world.specs.declared.history.ReadPoint.{ReadPoint}

-- where a read would be taken at a node
abbrev pub point_of : raft_nodes.Node → ReadPoint
point_of n = record { term = n.ballot.term; place = max n.commit n.leading.first; round = n.leading.round }

abbrev pub taken_at : ℕ → ReadPoint → ℕ → Option ℕ → List clusters.ReadTaken
taken_at k before committed None = []
taken_at k before committed (Some a) = record { node = k; term = before.term; arrival = a; place = before.place; round = suc before.round; committed = committed } ∷ []

abbrev pub gained : clusters.Cluster → ℕ → ReadPoint → raft_nodes.Node → Out → clusters.Cluster
gained c k before after o = record c {
  bag = bags.with_packets c.bag o.packets;
  committed = clusters.entries_so_far c.committed after;
  terms = clusters.terms_so_far c.terms after;
  leds = c.leds ++ clusters.led_by k after o.led;
  takens = c.takens ++ taken_at k before (length c.committed) o.reached;
  givens = c.givens ++ clusters.given_by k after o.reads;
}
