-- The numbers of the packets that wait on each way from one end to another.
use Rattle.std.specs.Prelude.{◌≡◌, ℕ, suc, ◌+◌, ◌-◌, ◌≤◌, Bool, true, false, ◌&&◌, not, Option, Some, None, List, [], ◌∷◌, ◌++◌, length, map, slice_get, if◌then◌else◌}
use Rattle.std.specs.List.{list_any}
use Rattle.ax_types.specs.Places as lists
use Rattle.ax_types.specs.declared.ids.End.{End}
use Rattle.ax_types.specs.declared.packets.Packet.{Packet}
use Rattle.spec_cluster.specs.Bag as bags
use Rattle.net_bag.specs.EndNumbers as ends

-- a way from one end to another, with the numbers of the packets that were sent on it: the first of them waits, while
-- others may have been delivered or dropped
pub record Way : Type 0 where
  pub «from» : End
  pub to : End
  pub waiting : List ℕ

-- whether a way is the one from an end to another
abbrev pub is_from : End → End → Way → Bool
is_from a b w = bags.same_end a w.«from» && bags.same_end b w.to

-- whether a packet goes from one end to another
abbrev pub is_on : End → End → Packet → Bool
is_on a b p = bags.same_end a p.«from» && bags.same_end b p.to

-- whether a packet goes on a way
abbrev pub goes : Packet → Way → Bool
goes p w = is_on w.«from» w.to p

abbrev pub number_of_way : Way → ℕ
number_of_way w = ends.way_number w.«from» w.to

abbrev pub is_waiting : Option bags.KeptPacket → Bool
is_waiting None = false
is_waiting (Some s) = not s.is_marked

-- whether the packet with a number is kept and not marked, where so many are no longer kept
abbrev pub open_at : ℕ → List bags.KeptPacket → ℕ → Bool
open_at gone slots number = is_waiting (lists.at_place slots (number - gone))

-- the numbers of the packets from one end to another that are not marked, where the first one kept has this number
abbrev pub numbers_on : End → End → ℕ → List bags.KeptPacket → List ℕ
numbers_on a b number [] = []
numbers_on a b number (s ∷ slots) = if not s.is_marked && is_on a b s.packet then number ∷ numbers_on a b (suc number) slots else numbers_on a b (suc number) slots

-- the numbers from the first one on that passes
abbrev pub from_first : (ℕ → Bool) → List ℕ → List ℕ
from_first test [] = []
from_first test (n ∷ ns) = if test n then n ∷ ns else from_first test ns

-- a packet is sent on a way, and those in front that do not wait any more are let go
abbrev pub with_number : ℕ → Way → Way
with_number number w = record w { waiting = w.waiting ++ number ∷ [] }

abbrev pub without_front : (ℕ → Bool) → Way → Way
without_front test w = record w { waiting = from_first test w.waiting }

-- the ways with the one from an end to another
abbrev pub with_way : List Way → End → End → List Way
with_way ways a b = if list_any (is_from a b) ways then ways else ways ++ record { «from» = a; to = b; waiting = [] } ∷ []

-- the one way from an end to another stands at this place
pub record IsPlaceOf (ways : List Way) (a b : End) (i : ℕ) : Type 0 where
  pub there : (w : Way) × (slice_get ways i ≡ Some w) × (w.«from» ≡ a) × (w.to ≡ b)
  pub only : (j : ℕ) (w : Way) → slice_get ways j ≡ Some w → w.«from» ≡ a → w.to ≡ b → j ≡ i

abbrev pub IsWay : Way → Type 0
IsWay w = ends.IsEnd w.«from» × ends.IsEnd w.to

-- the table of places has the place of each way, counted from 1, at the way's number
pub record AreWays (ways : List Way) (places : List ℕ) : Type 0 where
  pub place_count : length places ≡ 625
  pub real : (i : ℕ) (w : Way) → slice_get ways i ≡ Some w → IsWay w
  pub placed : (i k : ℕ) → slice_get (map number_of_way ways) i ≡ Some k → slice_get places k ≡ Some (suc i)
  pub found : (i k : ℕ) → slice_get places k ≡ Some (suc i) → slice_get (map number_of_way ways) i ≡ Some k
