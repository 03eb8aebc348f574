-- Which node takes an input, from what is looked up.
use Rattle.std.proofs.Common.{◌≡◌, ℕ, ◌-◌, refl, ap, sym, ◌∙◌, subst}
use Rattle.std.specs.Prelude.{Bool, true, false, ◌&&◌, not, Option, Some, None, option_map, if◌then◌else◌}
use Rattle.ax_types.specs.Places as lists
use Rattle.ax_types.specs.declared.ids.End.{End}
use Rattle.ax_types.specs.declared.ids.End.TheVariants as end
use Rattle.ax_types.specs.declared.items.SkipReason.{SkipReason}
use Rattle.ax_types.specs.declared.packets.Packet.{Packet}
use Rattle.ax_types.specs.declared.raft.NodeInput.{NodeInput}
use Rattle.ax_types.specs.declared.raft.NodeInput.TheVariants as input
use Rattle.ax_types.specs.declared.raft.RaftInput.{RaftInput}
use Rattle.ax_types.specs.declared.raft.RaftInput.TheVariants as asked
use Rattle.spec_node.specs.Node as nodes
use Rattle.spec_cluster.specs.Bag as bags
use Rattle.spec_cluster.specs.Cluster as clusters
use Rattle.law_agreement.proofs.Members.{some_same, none_some}
use Rattle.raft_world.specs.Paired.{node_up}
use Rattle.raft_world.specs.Taking.{marked, IsFree, IsIntake, TakesAs}
use Rattle.raft_world.specs.declared.intakes.Intake.{Intake}

-- a node that is not there, not up or does not pass takes nothing
down_case : {X : Type 0} (b p : Bool) (n : nodes.Node) (x : X) → (if b then Some n else None) ≡ None → (if b && p then Some x else None) ≡ None
down_case true p n x e = absurd (none_some n (sym e))
down_case false p n x e = refl

down : (c : clusters.Cluster) (k : ℕ) (i : RaftInput) (test : nodes.Node → Bool) (o : Option clusters.Member) → node_up o ≡ None → clusters.intake_at c k i o test ≡ None
down c k i test None e = refl
down c k i test (Some m) e = down_case m.is_up (test m.node) m.node (record { cluster = c; number = k; node = m.node; input = i }) e

pub is_down : (c : clusters.Cluster) (k : ℕ) (i : RaftInput) (test : nodes.Node → Bool) → node_up (lists.at_place c.members k) ≡ None → clusters.intake_for c k i test ≡ None
is_down c k i test e = down c k i test (lists.at_place c.members k) e

fails_case : {X : Type 0} (b p : Bool) (x : X) → p ≡ false → (if b && p then Some x else None) ≡ None
fails_case true p x e = ap (λ q. if q then Some x else None) e
fails_case false p x e = refl

-- the member that is up
pub record IsUpAt (o : Option clusters.Member) (n : nodes.Node) : Type 0 where
  pub there : o ≡ Some (record { is_up = true; node = n })

up_case : (b : Bool) (x n : nodes.Node) → (if b then Some x else None) ≡ Some n → (b ≡ true) × (x ≡ n)
up_case true x n e = (refl, some_same x n e)
up_case false x n e = absurd (none_some n e)

pub up_at : (o : Option clusters.Member) (n : nodes.Node) → node_up o ≡ Some n → IsUpAt o n
up_at None n e = absurd (none_some n e)
up_at (Some m) n e = let p = up_case m.is_up m.node n e in record { there = λ j. Some (record { is_up = p.0 j; node = p.1 j }) }

pub fails : (c : clusters.Cluster) (k : ℕ) (i : RaftInput) (test : nodes.Node → Bool) (n : nodes.Node) → node_up (lists.at_place c.members k) ≡ Some n → test n ≡ false → clusters.intake_for c k i test ≡ None
fails c k i test n e f =
    ap (λ o. clusters.intake_at c k i o test) (up_at (lists.at_place c.members k) n e).there
    ∙ fails_case true (test n) (record { cluster = c; number = k; node = n; input = i }) f

pub passes : (c : clusters.Cluster) (k : ℕ) (i : RaftInput) (test : nodes.Node → Bool) (n : nodes.Node) → node_up (lists.at_place c.members k) ≡ Some n → test n ≡ true → clusters.intake_for c k i test ≡ Some (record { cluster = c; number = k; node = n; input = i })
passes c k i test n e f =
    ap (λ o. clusters.intake_at c k i o test) (up_at (lists.at_place c.members k) n e).there
    ∙ ap (λ q. if q then Some (let d : clusters.Intake = record { cluster = c; number = k; node = n; input = i } in d) else None) f

pub is_taken : (c : clusters.Cluster) (k : ℕ) (i : RaftInput) (test : nodes.Node → Bool) (n : nodes.Node) → node_up (lists.at_place c.members k) ≡ Some n → test n ≡ true → IsIntake c (clusters.intake_for c k i test) (record { node = k; packet = None; input = i })
is_taken c k i test n e f = record {
  member = record { is_up = true; node = n };
  there = (up_at (lists.at_place c.members k) n e).there;
  up = refl;
  free = tt;
  same = passes c k i test n e f;
}

-- a delivery
refused_case : {X : Type 0} (r : Option SkipReason) (s : SkipReason) (x : Option X) → r ≡ Some s → (if bags.is_unhindered r then x else None) ≡ None
refused_case r s x e = ap (λ o. if bags.is_unhindered o then x else None) e

pub is_refused : (c : clusters.Cluster) (number clock : ℕ) (s : SkipReason) → bags.take_refusal c.bag (clusters.up_members c) number ≡ Some s → clusters.intake c (input.Deliver number clock) ≡ None
is_refused c number clock s e = refused_case (bags.take_refusal c.bag (clusters.up_members c) number) s (clusters.intake_kept c number clock (bags.kept_at c.bag number)) e

unhindered : (c : clusters.Cluster) (number clock : ℕ) → bags.take_refusal c.bag (clusters.up_members c) number ≡ None → clusters.intake c (input.Deliver number clock) ≡ clusters.intake_kept c number clock (bags.kept_at c.bag number)
unhindered c number clock e = ap (λ o. if bags.is_unhindered o then clusters.intake_kept c number clock (bags.kept_at c.bag number) else None) e

-- the packet is kept
kept_case : (c : clusters.Cluster) (number clock : ℕ) (o : Option bags.KeptPacket) (p : Packet) → option_map (λ (s : bags.KeptPacket). s.packet) o ≡ Some p
    → clusters.intake_kept c number clock o ≡ clusters.intake_packet (record c { bag = bags.with_mark c.bag number }) clock p p.«from» p.to
kept_case c number clock None p e = absurd (none_some p e)
kept_case c number clock (Some s) p e = ap (λ (q : Packet). clusters.intake_packet (record c { bag = bags.with_mark c.bag number }) clock q q.«from» q.to) (some_same s.packet p e)

pub delivered : (c : clusters.Cluster) (number clock : ℕ) (p : Packet) (a b : End) → bags.take_refusal c.bag (clusters.up_members c) number ≡ None → option_map (λ (s : bags.KeptPacket). s.packet) (bags.kept_at c.bag number) ≡ Some p → p.«from» ≡ a → p.to ≡ b
    → clusters.intake c (input.Deliver number clock) ≡ clusters.intake_packet (record c { bag = bags.with_mark c.bag number }) clock p a b
delivered c number clock p a b free kept ea eb =
    unhindered c number clock free ∙ kept_case c number clock (bags.kept_at c.bag number) p kept
    ∙ (λ j. clusters.intake_packet (record c { bag = bags.with_mark c.bag number }) clock p (ea j) (eb j))

first_free : (r s : Option SkipReason) → bags.first_reason r s ≡ None → r ≡ None
first_free None s e = refl
first_free (Some r) s e = absurd (none_some r (sym e))

pub may_mark : (bag : bags.Bag) (up : Rattle.std.specs.Prelude.List ℕ) (number : ℕ) → bags.take_refusal bag up number ≡ None → bags.mark_refusal bag number ≡ None
may_mark bag up number e = first_free (bags.mark_refusal bag number) (bags.kept_hindrance bag up (bags.kept_at bag number)) e

-- a packet that nothing hinders is taken by its receiver
pub is_delivered : (c : clusters.Cluster) (number clock j k : ℕ) (p : Packet) (n : nodes.Node) → bags.take_refusal c.bag (clusters.up_members c) number ≡ None → option_map (λ (s : bags.KeptPacket). s.packet) (bags.kept_at c.bag number) ≡ Some p
    → p.«from» ≡ end.Node j → p.to ≡ end.Node k → node_up (lists.at_place c.members k) ≡ Some n
    → IsIntake c (clusters.intake c (input.Deliver number clock)) (record { node = k; packet = Some number; input = asked.Message j clock p.payload })
is_delivered c number clock j k p n free kept ef et up = record {
  member = record { is_up = true; node = n };
  there = (up_at (lists.at_place c.members k) n up).there;
  up = refl;
  free = may_mark c.bag (clusters.up_members c) number free;
  same = delivered c number clock p (end.Node j) (end.Node k) free kept ef et ∙ passes (record c { bag = bags.with_mark c.bag number }) k (asked.Message j clock p.payload) (λ x. true) n up refl;
}

pub is_not_received : (c : clusters.Cluster) (number clock j k : ℕ) (p : Packet) → bags.take_refusal c.bag (clusters.up_members c) number ≡ None → option_map (λ (s : bags.KeptPacket). s.packet) (bags.kept_at c.bag number) ≡ Some p
    → p.«from» ≡ end.Node j → p.to ≡ end.Node k → node_up (lists.at_place c.members k) ≡ None → clusters.intake c (input.Deliver number clock) ≡ None
is_not_received c number clock j k p free kept ef et up = delivered c number clock p (end.Node j) (end.Node k) free kept ef et ∙ is_down (record c { bag = bags.with_mark c.bag number }) k (asked.Message j clock p.payload) (λ x. true) up

pub from_client : (c : clusters.Cluster) (number clock d : ℕ) (p : Packet) → bags.take_refusal c.bag (clusters.up_members c) number ≡ None → option_map (λ (s : bags.KeptPacket). s.packet) (bags.kept_at c.bag number) ≡ Some p
    → p.«from» ≡ end.Client d → clusters.intake c (input.Deliver number clock) ≡ None
from_client c number clock d p free kept ef = delivered c number clock p (end.Client d) p.to free kept ef refl

pub to_client : (c : clusters.Cluster) (number clock j d : ℕ) (p : Packet) → bags.take_refusal c.bag (clusters.up_members c) number ≡ None → option_map (λ (s : bags.KeptPacket). s.packet) (bags.kept_at c.bag number) ≡ Some p
    → p.«from» ≡ end.Node j → p.to ≡ end.Client d → clusters.intake c (input.Deliver number clock) ≡ None
to_client c number clock j d p free kept ef et = delivered c number clock p (end.Node j) (end.Client d) free kept ef et
