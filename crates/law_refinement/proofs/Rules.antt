-- What a rule of a node gives, made or halted, in transitions.
use Rattle.std.proofs.Common.{◌≡◌, ℕ, List, [], ◌++◌, take, refl, ap, sym, ◌∙◌, subst}
use Rattle.std.specs.Prelude.{true, length}
use Rattle.std.specs.List.{AllByRecursion}
use Rattle.std.proofs.lemmas.List.{append-nil}
use Rattle.std.proofs.Math.Seq.{take-nil}
use Rattle.ax_types.specs.declared.entries.Entry.{Entry}
use Rattle.ax_types.specs.declared.entries.Loaded.{Loaded}
use Rattle.ax_types.specs.declared.packets.Packet.{Packet}
use Rattle.spec_raft.specs.Positions as positions
use Rattle.spec_raft.specs.Log as logs
use Rattle.spec_node.specs.Node as nodes
use Rattle.spec_cluster.specs.Cluster as clusters
use Rattle.spec_transitions.specs.Systems as systems
use Rattle.spec_transitions.specs.Transitions as transitions_transitions
use Rattle.law_refinement.proofs.Members.{stands, node_again}
use Rattle.law_refinement.proofs.Fragments.{Fragment, Becomes, once, joined, at_end}

-- the system where node j stands as m, one node may lead and one read was taken
abbrev pub stood : systems.System → ℕ → nodes.Node → List clusters.Led → List clusters.ReadTaken → systems.System
stood s j m leds takens = record s {
  cluster = record s.cluster {
    members = positions.change_place (λ old. record { is_up = true; node = m }) s.cluster.members j;
    leds = s.cluster.leds ++ leds;
    takens = s.cluster.takens ++ takens;
  };
}

-- the system after a rule, from node n on, before its packets are sent
abbrev pub settled : systems.System → ℕ → nodes.Node → nodes.Did → systems.System
settled s j n d = systems.tallied (stood s j d.node (clusters.led_by j d.node d.led) (clusters.taken_by j n (length s.cluster.committed) d.reached)) d.node

pub stood_plain : (s : systems.System) (j : ℕ) (m : nodes.Node) → stood s j m [] [] ≡ systems.with_node s j m
stood_plain s j m = ap {A = record { 0 : List clusters.Led; 1 : List clusters.ReadTaken }} (λ x. let t : systems.System = record s {
  cluster = record s.cluster {
    members = positions.change_place (λ old. record { is_up = true; node = m }) s.cluster.members j;
    leds = x.0;
    takens = x.1;
  };
} in t) (λ i. (append-nil s.cluster.leds i, append-nil s.cluster.takens i))

-- what a node keeps after transitions of its own
pub record CanKeep (s : systems.System) (j : ℕ) (m : nodes.Node) (kept : Loaded) : Type 0 where
  pub node : nodes.Node
  pub becomes : Becomes s j node
  pub me : node.ballot.me ≡ m.ballot.me
  pub size : node.ballot.nodes ≡ m.ballot.nodes
  pub keeps : nodes.kept_of node ≡ kept

abbrev pub kept_with : nodes.Did → List Entry → Loaded
kept_with d log = record { term = d.node.ballot.term; vote = d.node.ballot.vote; log = log }

-- a rule that began at n, from its node m on
pub record Carried (s : systems.System) (j : ℕ) (n m : nodes.Node) (d : nodes.Did) : Type 0 where
  pub made : Fragment s (settled s j n d)
  pub sends : AllByRecursion (transitions_transitions.Sends (settled s j n d)) d.packets
  pub voted : CanKeep s j m (kept_with d m.log)
  pub added : (k : ℕ) → CanKeep s j m (kept_with d (logs.cut_before m.log d.cut ++ take k d.add))

-- nothing is added
pub none_added : (log : List Entry) (k : ℕ) → log ++ take k [] ≡ log
none_added log k = ap (λ es. log ++ es) (take-nil k) ∙ append-nil log

pub keeps_more : (s : systems.System) (j : ℕ) (m : nodes.Node) (d : nodes.Did) (a b : List Entry) → a ≡ b → CanKeep s j m (kept_with d a) → CanKeep s j m (kept_with d b)
keeps_more s j m d a b e c = subst (λ log. CanKeep s j m (kept_with d log)) e c

-- a node that changed in its ballot, its role and its commit alone
pub record IsKin (m a : nodes.Node) : Type 0 where
  pub me : a.ballot.me ≡ m.ballot.me
  pub size : a.ballot.nodes ≡ m.ballot.nodes
  pub log : a.log ≡ m.log

pub kin : (m : nodes.Node) → IsKin m m
kin m = record { me = refl; size = refl; log = refl }

-- what it keeps
pub kin_keeps : (s : systems.System) (j : ℕ) (m a : nodes.Node) → IsKin m a → Becomes s j a → CanKeep s j m (record { term = a.ballot.term; vote = a.ballot.vote; log = m.log })
kin_keeps s j m a k r = record {
  node = a;
  becomes = r;
  me = k.me;
  size = k.size;
  keeps = ap (λ log. let l : Loaded = record { term = a.ballot.term; vote = a.ballot.vote; log = log } in l) k.log;
}

-- the commit is tallied
settles : (s : systems.System) (j : ℕ) (n m : nodes.Node) → systems.IsUp s j n → Becomes s j m → Fragment s (systems.tallied (stood s j m [] []) m)
settles s j n m up r =
    at_end s (systems.tallied (systems.with_node s j m) m) (systems.tallied (stood s j m [] []) m) (ap (λ x. systems.tallied x m) (sym (stood_plain s j m)))
    (joined s (systems.with_node s j m) (systems.tallied (systems.with_node s j m) m) r (once (systems.with_node s j m) (transitions_transitions.Tally j m) (stands s j n m up)))

-- a leader's commit rises
pub advances : (s : systems.System) (j : ℕ) (n m : nodes.Node) → systems.IsUp s j n → nodes.is_leader m ≡ true → Becomes s j m → Fragment s (systems.tallied (stood s j (nodes.advanced m) [] []) (nodes.advanced m))
advances s j n m up lead r =
    let a : nodes.Node = nodes.advanced m in
    at_end s (systems.tallied (systems.with_node s j a) a) (systems.tallied (stood s j a [] []) a) (ap (λ x. systems.tallied x a) (sym (stood_plain s j a)))
    (joined s (systems.with_node s j m) (systems.tallied (systems.with_node s j a) a) r
    (at_end (systems.with_node s j m) (systems.tallied (systems.with_node (systems.with_node s j m) j a) a) (systems.tallied (systems.with_node s j a) a) (ap (λ x. systems.tallied x a) (node_again s j m a))
    (once (systems.with_node s j m) (transitions_transitions.Advance j m) (stands s j n m up, lead))))

-- a rule that keeps no entries and sends packets
pub quiet : (s : systems.System) (j : ℕ) (n m a : nodes.Node) (packets : List Packet) → systems.IsUp s j m → IsKin m a → Becomes s j a
    → AllByRecursion (transitions_transitions.Sends (settled s j n (nodes.sending a packets))) packets → Carried s j n m (nodes.sending a packets)
quiet s j n m a packets up k r sends =
    let keeps : CanKeep s j m (record { term = a.ballot.term; vote = a.ballot.vote; log = m.log }) = kin_keeps s j m a k r in
    record {
      made = settles s j m a up r;
      sends = sends;
      voted = keeps;
      added = λ i. keeps_more s j m (nodes.sending a packets) m.log (m.log ++ take i []) (sym (none_added m.log i)) keeps;
    }

-- and at a leader whose commit rises
pub advancing : (s : systems.System) (j : ℕ) (n m a : nodes.Node) (packets : List Packet) → systems.IsUp s j m → IsKin m a → nodes.is_leader a ≡ true → Becomes s j a
    → AllByRecursion (transitions_transitions.Sends (settled s j n (nodes.sending (nodes.advanced a) packets))) packets → Carried s j n m (nodes.sending (nodes.advanced a) packets)
advancing s j n m a packets up k lead r sends =
    let keeps : CanKeep s j m (record { term = a.ballot.term; vote = a.ballot.vote; log = m.log }) = kin_keeps s j m a k r in
    record {
      made = advances s j m a up lead r;
      sends = sends;
      voted = keeps;
      added = λ i. keeps_more s j m (nodes.sending (nodes.advanced a) packets) m.log (m.log ++ take i []) (sym (none_added m.log i)) keeps;
    }

-- a rule from a node that was reached first
settled_again : (s : systems.System) (j : ℕ) (n m : nodes.Node) (d : nodes.Did) → settled (systems.with_node s j m) j n d ≡ settled s j n d
settled_again s j n m d =
    ap (λ x. let t : systems.System = systems.tallied (record x {
      cluster = record x.cluster {
        leds = s.cluster.leds ++ clusters.led_by j d.node d.led;
        takens = s.cluster.takens ++ clusters.taken_by j n (length s.cluster.committed) d.reached;
      };
    }) d.node in t)
    (node_again s j m d.node)

can_keep_after : (s : systems.System) (j : ℕ) (m a : nodes.Node) (kept : Loaded) → IsKin m a → Becomes s j a → CanKeep (systems.with_node s j a) j a kept → CanKeep s j m kept
can_keep_after s j m a kept k r c = record {
  node = c.node;
  becomes = joined s (systems.with_node s j a) (systems.with_node s j c.node) r (at_end (systems.with_node s j a) (systems.with_node (systems.with_node s j a) j c.node) (systems.with_node s j c.node) (node_again s j a c.node) c.becomes);
  me = c.me ∙ k.me;
  size = c.size ∙ k.size;
  keeps = c.keeps;
}

pub after_kin : (s : systems.System) (j : ℕ) (n m a : nodes.Node) (d : nodes.Did) → IsKin m a → Becomes s j a → Carried (systems.with_node s j a) j n a d → Carried s j n m d
after_kin s j n m a d k r c = record {
  made = joined s (systems.with_node s j a) (settled s j n d) r (at_end (systems.with_node s j a) (settled (systems.with_node s j a) j n d) (settled s j n d) (settled_again s j n a d) c.made);
  sends = subst (λ x. AllByRecursion (transitions_transitions.Sends x) d.packets) (settled_again s j n a d) c.sends;
  voted = keeps_more s j m d a.log m.log k.log (can_keep_after s j m a (kept_with d a.log) k r c.voted);
  added = λ i. keeps_more s j m d (logs.cut_before a.log d.cut ++ take i d.add) (logs.cut_before m.log d.cut ++ take i d.add) (ap (λ log. logs.cut_before log d.cut ++ take i d.add) k.log)
      (can_keep_after s j m a (kept_with d (logs.cut_before a.log d.cut ++ take i d.add)) k r (c.added i));
}

-- a transition of the node alone
pub moves : (s : systems.System) (j : ℕ) (m a : nodes.Node) → Becomes s j m → Fragment (systems.with_node s j m) (systems.with_node (systems.with_node s j m) j a) → Becomes s j a
moves s j m a r l = joined s (systems.with_node s j m) (systems.with_node s j a) r (at_end (systems.with_node s j m) (systems.with_node (systems.with_node s j m) j a) (systems.with_node s j a) (node_again s j m a) l)
