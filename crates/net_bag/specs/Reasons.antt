-- Why a packet is not given, in the network's words and in those of a step.
use Rattle.std.specs.Prelude.{ℕ, Bool, Option, Some, None, List, if◌then◌else◌}
use Rattle.ax_types.specs.Places as lists
use Rattle.ax_types.specs.declared.ids.End.{End}
use Rattle.ax_types.specs.declared.items.SkipReason.{SkipReason}
use Rattle.ax_types.specs.declared.items.SkipReason.TheVariants as reason
use Rattle.ax_types.specs.declared.refusals.TakeRefused.{TakeRefused}
use Rattle.ax_types.specs.declared.refusals.TakeRefused.TheVariants as refused
use Rattle.spec_cluster.specs.Bag as bags
use Rattle.std.specs.List.{list_any}

abbrev pub reason_of : TakeRefused → SkipReason
reason_of refused.NeverSent = reason.NeverSent
reason_of refused.Gone = reason.Gone
reason_of refused.Cut = reason.Cut
reason_of refused.Down = reason.NodeDown

-- the numbers of the nodes that are up, by the flags of all
abbrev pub nodes_up : List Bool → List ℕ
nodes_up up = lists.numbers_passing (λ is_up. is_up) 1 up

-- what hinders packets from one end to another
abbrev pub way_hindrance : List bags.Link → List Bool → End → End → Option SkipReason
way_hindrance cuts up a b = if list_any (bags.is_between a b) cuts then Some reason.Cut else if bags.is_down (nodes_up up) b then Some reason.NodeDown else None
