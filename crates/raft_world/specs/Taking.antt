-- An input that a node takes, as the definitions have it.
use Rattle.std.specs.Prelude.{◌≡◌, ℕ, true, Option, Some, None}
use Rattle.ax_types.specs.Places as lists
use Rattle.spec_cluster.specs.Bag as bags
use Rattle.spec_cluster.specs.Cluster as clusters
use Rattle.raft_world.specs.declared.intakes.Intake.{Intake}

-- the packets where the one that is taken was marked, and whether it may be
abbrev pub marked : bags.Bag → Option ℕ → bags.Bag
marked bag None = bag
marked bag (Some number) = bags.with_mark bag number

abbrev pub IsFree : bags.Bag → Option ℕ → Type 0
IsFree bag None = Unit {0}
IsFree bag (Some number) = bags.mark_refusal bag number ≡ None

-- a node takes an input
pub record IsIntake (c : clusters.Cluster) (o : Option clusters.Intake) (t : Intake) : Type 0 where
  pub member : clusters.Member
  pub there : lists.at_place c.members t.node ≡ Some member
  pub up : member.is_up ≡ true
  pub free : IsFree c.bag t.packet
  pub same : o ≡ Some (record { cluster = record c { bag = marked c.bag t.packet }; number = t.node; node = member.node; input = t.input })

abbrev pub TakesAs : clusters.Cluster → Option clusters.Intake → Option Intake → Type 0
TakesAs c o None = o ≡ None
TakesAs c o (Some t) = IsIntake c o t
