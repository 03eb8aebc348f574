-- The first packet that nothing hinders, from the fronts of the ways alone.
use Rattle.std.specs.Prelude.{◌≡◌, ℕ, Bool, Option, Some, None, List, [], ◌∷◌, nat_lt, slice_get, if◌then◌else◌}
use Rattle.spec_cluster.specs.Bag as bags
use Rattle.net_bag.specs.Ways as way_lists
use Rattle.net_bag.specs.KeptPackets as kept_packets
use Rattle.net_bag.specs.Reasons as reasons

-- the lesser of two numbers, where there are any
abbrev pub least : Option ℕ → Option ℕ → Option ℕ
least None other = other
least (Some m) None = Some m
least (Some m) (Some n) = if nat_lt n m then Some n else Some m

-- the front of a way that nothing hinders
abbrev pub front_up : List bags.Link → List Bool → way_lists.Way → Option ℕ
front_up cuts up w = if bags.is_unhindered (reasons.way_hindrance cuts up w.«from» w.to) then slice_get w.waiting 0 else None

-- the least of a number and of the fronts of ways that nothing hinders
abbrev pub first_among : List bags.Link → List Bool → Option ℕ → List way_lists.Way → Option ℕ
first_among cuts up best [] = best
first_among cuts up best (w ∷ ways) = first_among cuts up (least best (front_up cuts up w)) ways

-- the front of each way is the first packet on it that waits, where the first one kept has this number, and each packet goes
-- on one of the ways
pub record AreFronts (number : ℕ) (slots : List bags.KeptPacket) (ways : List way_lists.Way) : Type 0 where
  pub fronts : (i : ℕ) (w : way_lists.Way) → slice_get ways i ≡ Some w → slice_get w.waiting 0 ≡ slice_get (way_lists.numbers_on w.«from» w.to number slots) 0
  pub served : kept_packets.AreServed ways slots
