-- The network: packets that may be lost, repeated, delayed and reordered, and links that may be cut.
use Rattle.std.specs.Prelude.{ℕ, suc, ◌-◌, Bool, true, false, ◌&&◌, ◌||◌, not, nat_eq, nat_lt, nat_le, Option, Some, None, List, [], ◌∷◌, ◌++◌, length, take, drop, map, filter, if◌then◌else◌}
use Rattle.std.specs.List.{list_any}
use Rattle.ax_types.specs.declared.limits.TheConstants.{MAX_PACKETS, MAX_SHOWN}
use Rattle.ax_types.specs.Places as lists
use Rattle.ax_types.specs.declared.ids.End.{End}
use Rattle.ax_types.specs.declared.ids.End.TheVariants as end
use Rattle.ax_types.specs.declared.items.Item.{Item}
use Rattle.ax_types.specs.declared.items.Item.TheVariants as item
use Rattle.ax_types.specs.declared.items.SkipReason.{SkipReason}
use Rattle.ax_types.specs.declared.items.SkipReason.TheVariants as reason
use Rattle.ax_types.specs.declared.packets.Packet.{Packet}
use Rattle.ax_types.specs.declared.packets.Payload.{Payload}
use Rattle.ax_types.specs.declared.packets.Payload.TheVariants as payload
use Rattle.ax_types.specs.declared.packets.PayloadKind.{PayloadKind}
use Rattle.ax_types.specs.declared.packets.PayloadKind.TheVariants as kind
use Rattle.spec_raft.specs.Positions as positions
use Rattle.spec_raft.specs.Majority as majorities

-- the most packets that are kept, and the most that one list shows
abbrev pub most_kept : ℕ
most_kept = MAX_PACKETS

abbrev pub most_shown : ℕ
most_shown = MAX_SHOWN

-- a packet that is kept, and whether it was delivered or dropped
pub record KeptPacket : Type 0 where
  pub is_marked : Bool
  pub packet : Packet

pub record Link : Type 0 where
  pub one : End
  pub other : End

-- how many packets were sent, the newest of them, oldest first, and the links that are cut, in both directions
pub record Bag : Type 0 where
  pub sent : ℕ
  pub kept : List KeptPacket
  pub cuts : List Link

abbrev pub empty_bag : Bag
empty_bag = record { sent = 0; kept = []; cuts = [] }

abbrev pub same_end : End → End → Bool
same_end (end.Node j) (end.Node k) = nat_eq j k
same_end (end.Node j) (end.Client d) = false
same_end (end.Client c) (end.Node k) = false
same_end (end.Client c) (end.Client d) = nat_eq c d

-- whether a link is that between two ends, whichever comes first
abbrev pub is_between : End → End → Link → Bool
is_between a b l = (same_end l.one a && same_end l.other b) || (same_end l.one b && same_end l.other a)

abbrev pub is_cut : Bag → End → End → Bool
is_cut bag a b = list_any (is_between a b) bag.cuts

-- a link is cut, and joined again
abbrev pub with_cut : Bag → End → End → Bag
with_cut bag a b = if is_cut bag a b then bag else record bag { cuts = bag.cuts ++ record { one = a; other = b } ∷ [] }

abbrev pub with_join : Bag → End → End → Bag
with_join bag a b = record bag { cuts = filter (λ l. not (is_between a b l)) bag.cuts }

-- the newest that are kept
abbrev pub newest_kept : List KeptPacket → List KeptPacket
newest_kept slots = drop (length slots - most_kept) slots

-- a packet is sent: it gets the next number
abbrev pub with_packet : Bag → Packet → Bag
with_packet bag p = record bag { sent = suc bag.sent; kept = newest_kept (bag.kept ++ record { is_marked = false; packet = p } ∷ []) }

abbrev pub with_packets : Bag → List Packet → Bag
with_packets bag [] = bag
with_packets bag (p ∷ ps) = with_packets (with_packet bag p) ps

-- how many of the packets sent are no longer kept
abbrev pub gone : Bag → ℕ
gone bag = bag.sent - length bag.kept

-- the packet with a number, if it is kept
abbrev pub kept_at : Bag → ℕ → Option KeptPacket
kept_at bag number = lists.at_place bag.kept (number - gone bag)

-- a kept packet is marked: it was delivered or dropped
abbrev pub with_mark : Bag → ℕ → Bag
with_mark bag number = record bag { kept = positions.change_place (λ s. record s { is_marked = true }) bag.kept (number - gone bag) }

-- why a packet cannot be marked: its number was not given, or it is no longer kept
abbrev pub mark_refusal : Bag → ℕ → Option SkipReason
mark_refusal bag number =
    if nat_eq number 0 || nat_lt bag.sent number then Some reason.NeverSent
    else if nat_le number (gone bag) then Some reason.Gone
    else None

-- whether a packet's receiver is a node that is not up
abbrev pub is_down : List ℕ → End → Bool
is_down up (end.Node k) = not (majorities.is_in up k)
is_down up (end.Client c) = false

-- why a kept packet cannot be delivered: its link is cut, or its receiver is down
abbrev pub hindrance : Bag → List ℕ → Packet → Option SkipReason
hindrance bag up p = if is_cut bag p.«from» p.to then Some reason.Cut else if is_down up p.to then Some reason.NodeDown else None

abbrev pub kept_hindrance : Bag → List ℕ → Option KeptPacket → Option SkipReason
kept_hindrance bag up None = None
kept_hindrance bag up (Some s) = hindrance bag up s.packet

abbrev pub first_reason : Option SkipReason → Option SkipReason → Option SkipReason
first_reason (Some r) other = Some r
first_reason None other = other

-- why a packet cannot be delivered, the first reason that holds
abbrev pub take_refusal : Bag → List ℕ → ℕ → Option SkipReason
take_refusal bag up number = first_reason (mark_refusal bag number) (kept_hindrance bag up (kept_at bag number))

-- the packets that are kept and not marked, with their numbers, where the first one kept has this number
abbrev pub unmarked_from : ℕ → List KeptPacket → List (ℕ × Packet)
unmarked_from number [] = []
unmarked_from number (s ∷ slots) = if s.is_marked then unmarked_from (suc number) slots else (number, s.packet) ∷ unmarked_from (suc number) slots

abbrev pub unmarked : Bag → List (ℕ × Packet)
unmarked bag = unmarked_from (suc (gone bag)) bag.kept

-- whether nothing hinders a packet
abbrev pub is_unhindered : Option SkipReason → Bool
is_unhindered None = true
is_unhindered (Some r) = false

abbrev pub first_up : Bag → List ℕ → List (ℕ × Packet) → Option ℕ
first_up bag up [] = None
first_up bag up (p ∷ ps) = if is_unhindered (hindrance bag up p.1) then Some p.0 else first_up bag up ps

-- the packet that a flush delivers next: the first one that nothing hinders
abbrev pub next_up : Bag → List ℕ → Option ℕ
next_up bag up = first_up bag up (unmarked bag)

-- the kind of a payload
abbrev pub kind_of : Payload → PayloadKind
kind_of (payload.Vote _ _ _) = kind.Vote
kind_of (payload.VoteReply _ _) = kind.VoteReply
kind_of (payload.Append _ _ _ _ _ _) = kind.Append
kind_of (payload.AppendReply _ _ _ _) = kind.AppendReply
kind_of (payload.Register _ _) = kind.Register
kind_of (payload.Keep _ _ _ _) = kind.Keep
kind_of (payload.Command _ _ _ _ _) = kind.Command
kind_of (payload.Close _ _) = kind.Close
kind_of (payload.Query _ _ _ _ _ _ _ _) = kind.Query
kind_of (payload.Connect _ _ _) = kind.Connect
kind_of (payload.Reset _ _ _) = kind.Reset
kind_of (payload.Opened _ _) = kind.Opened
kind_of (payload.Reply _ _ _ _ _) = kind.Reply
kind_of (payload.Gap _ _) = kind.Gap
kind_of (payload.Answer _ _ _ _ _ _ _ _) = kind.Answer
kind_of (payload.Batch _ _ _ _) = kind.Batch
kind_of (payload.Ended _ _ _) = kind.Ended

-- a packet that is kept and not marked, as an item
abbrev pub pending_item : (ℕ × Packet) → Item
pending_item p = item.Pending p.0 p.1.«from» p.1.to (kind_of p.1.payload)

-- how many packets are kept and not marked, and the first of them as items
abbrev pub pending_count : Bag → ℕ
pending_count bag = length (unmarked bag)

abbrev pub pending_items : Bag → List Item
pending_items bag = map pending_item (take most_shown (unmarked bag))
