-- What the bag keeps of its packets, and what stands where one is marked.
use Rattle.std.proofs.Common.{◌≡◌, ℕ, zero, suc, ◌+◌, ◌-◌, ◌<◌, ◌≤◌, Bool, true, false, not, ◌||◌, ◌&&◌, cond, Option, Some, None, List, [], ◌∷◌, ◌++◌, length, drop, take, map, refl, sym, ap, ◌∙◌, arith, length-append, length-drop, min}
use Rattle.std.specs.Prelude.{slice_get}
use Rattle.std.specs.List.{list_any}
use Rattle.std.proofs.lemmas.Option.{same_Some}
use Rattle.ax_types.specs.Places as lists
use Rattle.ax_types.specs.declared.ids.End.{End}
use Rattle.ax_types.specs.declared.packets.Packet.{Packet}
use Rattle.ax_types.specs.declared.items.Item.{Item}
use Rattle.spec_raft.specs.Positions as positions
use Rattle.spec_raft.proofs.Placing.{length-change_place}
use Rattle.spec_cluster.specs.Bag as bags
use Rattle.net_bag.specs.Ways as way_lists
use Rattle.net_bag.specs.KeptPackets as kept_packets
use Rattle.net_bag.specs.Reasons as reasons
use Rattle.net_bag.proofs.Waiting.{marked}
use Rattle.net_bag.proofs.Sending.{any_same, on_ends}
use Rattle.net_bag.proofs.Numbers.{same_end-refl}

newest_all : {X : Type 0} (m : ℕ) (xs : List X) → length xs ≤ m → drop (length xs - m) xs ≡ xs
newest_all m xs h = let e : length xs - m ≡ 0 = omega (arith, h) in ap (λ n. drop n xs) e

newest_rest : {X : Type 0} (m : ℕ) (xs : List X) → length xs ≡ suc m → drop (length xs - m) xs ≡ drop 1 xs
newest_rest m xs h = let e : length xs - m ≡ 1 = omega (arith, h) in ap (λ n. drop n xs) e

-- as many are kept as there may be, or one more
pub newest_few : (slots : List bags.KeptPacket) → length slots ≤ 16384 → bags.newest_kept slots ≡ slots
newest_few slots h = newest_all 16384 slots h

pub newest_more : (slots : List bags.KeptPacket) → length slots ≡ 16385 → bags.newest_kept slots ≡ drop 1 slots
newest_more slots h = newest_rest 16384 slots h

-- a packet that is marked is marked again
pub marked_again : (slots : List bags.KeptPacket) (i : ℕ) (s : bags.KeptPacket) → slice_get slots i ≡ Some s → s.is_marked ≡ true → positions.change_place marked slots (suc i) ≡ slots
marked_again [] i s e m = refl
marked_again (t ∷ slots) zero s e m = ap (λ (u : bags.KeptPacket). u ∷ slots) (ap (λ b. record t { is_marked = b }) (sym (ap (λ (u : bags.KeptPacket). u.is_marked) (same_Some t s e) ∙ m)))
marked_again (t ∷ slots) (suc i) s e m = ap (λ (rest : List bags.KeptPacket). t ∷ rest) (marked_again slots i s e m)

pub drop_marked : (slots : List bags.KeptPacket) → drop 1 (positions.change_place marked slots 1) ≡ drop 1 slots
drop_marked [] = refl
drop_marked (s ∷ slots) = refl

served_at : (ways : List way_lists.Way) (slots : List bags.KeptPacket) (i : ℕ) (s : bags.KeptPacket) → slice_get slots i ≡ Some s → kept_packets.AreServed ways slots → list_any (way_lists.goes s.packet) ways ≡ true
served_at ways [] i s e h = absurd (let c : None ≡ Some s = e in cc)
served_at ways (t ∷ slots) zero s e h = ap (λ (u : bags.KeptPacket). list_any (way_lists.goes u.packet) ways) (sym (same_Some t s e)) ∙ h.0
served_at ways (t ∷ slots) (suc i) s e h = served_at ways slots i s e h.1

-- a packet that is kept goes on one of the ways
pub served_way : (ways : List way_lists.Way) (slots : List bags.KeptPacket) (i : ℕ) (s : bags.KeptPacket) → slice_get slots i ≡ Some s → kept_packets.AreServed ways slots → list_any (way_lists.is_from s.packet.«from» s.packet.to) ways ≡ false → ⊥
served_way ways slots i s e h none =
    let on : way_lists.is_on s.packet.«from» s.packet.to s.packet ≡ true = rw (same_end-refl s.packet.«from», same_end-refl s.packet.to) in
    let c : true ≡ false = sym (served_at ways slots i s e h) ∙ any_same (way_lists.goes s.packet) (way_lists.is_from s.packet.«from» s.packet.to) (on_ends s.packet.«from» s.packet.to s.packet on) ways ∙ none in
    cc

count_most : (n : ℕ) (slots : List bags.KeptPacket) → length (bags.unmarked_from n slots) ≤ length slots
count_most n [] = omega arith
count_most n (s ∷ slots) = step s.is_marked (count_most (suc n) slots)
  where
    step : (b : Bool) → length (bags.unmarked_from (suc n) slots) ≤ length slots → length (cond b (bags.unmarked_from (suc n) slots) ((n, s.packet) ∷ bags.unmarked_from (suc n) slots)) ≤ suc (length slots)
    step true h = omega (arith, h)
    step false h = omega (arith, h)

pub unmarked_most : (sent gone unmarked : ℕ) (slots : List bags.KeptPacket) (ways : List way_lists.Way) → kept_packets.ArePackets sent gone slots unmarked ways → unmarked ≤ length slots
unmarked_most sent gone unmarked slots ways h = omega (arith, h.counted, count_most (suc gone) slots)

-- the bag keeps the newest, after one more is sent
pub send_few : (bag new : bags.Bag) (p : Packet) → new ≡ kept_packets.with_one bag p → length new.kept ≤ 16384 → new ≡ bags.with_packet bag p
send_few bag new p e h =
    let With : List bags.KeptPacket → bags.Bag = λ ks. record bag { sent = suc bag.sent; kept = ks } in
    e ∙ ap With (sym (newest_few (bag.kept ++ record { is_marked = false; packet = p } ∷ []) (let le : length (bag.kept ++ record { is_marked = false; packet = p } ∷ []) ≤ 16384 = omega (arith, h, ap (λ (b : bags.Bag). length b.kept) e) in le)))

pub send_more : (bag new after : bags.Bag) (p : Packet) → new ≡ kept_packets.with_one bag p → after ≡ kept_packets.without_oldest new → length bag.kept ≤ 16384 → 16384 < length new.kept → after ≡ bags.with_packet bag p
send_more bag new after p e f few more =
    let slots : List bags.KeptPacket = bag.kept ++ record { is_marked = false; packet = p } ∷ [] in
    let With : List bags.KeptPacket → bags.Bag = λ ks. record bag { sent = suc bag.sent; kept = ks } in
    let count : length slots ≡ 16385 = omega (arith, few, more, ap (λ (b : bags.Bag). length b.kept) e, length-append bag.kept (record { is_marked = false; packet = p } ∷ [])) in
    f ∙ ap kept_packets.without_oldest e ∙ ap With (sym (newest_more slots count))

pub send_within : (bag new after : bags.Bag) (p : Packet) → new ≡ kept_packets.with_one bag p → after ≡ kept_packets.without_oldest new → length bag.kept ≤ 16384 → length after.kept ≤ 16384
send_within bag new after p e f few =
    omega (arith, few, ap (λ (b : bags.Bag). length b.kept) e, length-append bag.kept (record { is_marked = false; packet = p } ∷ []), ap (λ (b : bags.Bag). length b.kept) f, length-drop 1 new.kept)

pub mark_within : (bag after : bags.Bag) (number : ℕ) → after ≡ bags.with_mark bag number → length bag.kept ≤ 16384 → length after.kept ≤ 16384
mark_within bag after number e h = omega (arith, h, ap (λ (b : bags.Bag). length b.kept) e, length-change_place marked bag.kept (number - bags.gone bag))
