-- What is known of the packets that are kept: how many wait, and the first that waits on each way.
use Rattle.std.specs.Prelude.{◌≡◌, ℕ, suc, ◌-◌, ◌≤◌, Bool, true, false, Option, Some, None, List, [], ◌∷◌, ◌++◌, length, drop, filter, slice_get, if◌then◌else◌}
use Rattle.std.specs.List.{list_any}
use Rattle.ax_types.specs.declared.packets.Packet.{Packet}
use Rattle.ax_types.specs.declared.items.Item.{Item}
use Rattle.spec_cluster.specs.Bag as bags
use Rattle.net_bag.specs.Ways as way_lists

-- each of these numbers was given
abbrev pub AreGiven : ℕ → List ℕ → Type 0
AreGiven sent [] = Unit {0}
AreGiven sent (n ∷ ns) = (n ≤ sent) × AreGiven sent ns

-- the numbers on a way are those of its packets that wait and of some that do not, and the first of them waits
pub record IsWayIndexed (sent gone : ℕ) (slots : List bags.KeptPacket) (w : way_lists.Way) : Type 0 where
  pub given : AreGiven sent w.waiting
  pub waits : filter (way_lists.open_at gone slots) w.waiting ≡ way_lists.numbers_on w.«from» w.to (suc gone) slots
  pub front : slice_get w.waiting 0 ≡ slice_get (way_lists.numbers_on w.«from» w.to (suc gone) slots) 0

-- whether each of these packets goes on one of the ways
abbrev pub AreServed : List way_lists.Way → List bags.KeptPacket → Type 0
AreServed ways [] = Unit {0}
AreServed ways (s ∷ slots) = (list_any (way_lists.goes s.packet) ways ≡ true) × AreServed ways slots

pub record ArePackets (sent gone : ℕ) (slots : List bags.KeptPacket) (unmarked : ℕ) (ways : List way_lists.Way) : Type 0 where
  pub within : length slots ≤ sent
  pub rest : gone ≡ sent - length slots
  pub counted : unmarked ≡ length (bags.unmarked_from (suc gone) slots)
  pub indexed : (i : ℕ) (w : way_lists.Way) → slice_get ways i ≡ Some w → IsWayIndexed sent gone slots w
  pub served : AreServed ways slots

-- a packet is sent, and all are kept
abbrev pub with_one : bags.Bag → Packet → bags.Bag
with_one bag p = record bag { sent = suc bag.sent; kept = bag.kept ++ record { is_marked = false; packet = p } ∷ [] }

-- the oldest is no longer kept
abbrev pub without_oldest : bags.Bag → bags.Bag
without_oldest bag = record bag { kept = drop 1 bag.kept }

-- a packet is shown as an item, unless it is marked
abbrev pub with_pending : List Item → ℕ → bags.KeptPacket → List Item
with_pending items number s = if s.is_marked then items else items ++ bags.pending_item (number, s.packet) ∷ []
