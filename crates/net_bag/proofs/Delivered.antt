-- The bag, from its packets and its links.
use Rattle.std.proofs.Common.{◌≡◌, ℕ, suc, ◌-◌, ◌<◌, ◌≤◌, Bool, true, false, ◌||◌, cond, nat_eq, nat_lt, Option, Some, None, List, [], length, refl, sym, ap, ◌∙◌, arith, subst}
use Rattle.std.specs.Prelude.{option_map, nat_le}
use Rattle.std.proofs.lemmas.Bool.Decides.{nat_tests}
use Rattle.std.proofs.lemmas.Option.{same_Some}
use Rattle.ax_types.specs.Places as lists
use Rattle.ax_types.specs.declared.packets.Packet.{Packet}
use Rattle.ax_types.specs.declared.items.SkipReason.{SkipReason}
use Rattle.ax_types.specs.declared.items.SkipReason.TheVariants as reason
use Rattle.spec_raft.specs.Positions as positions
use Rattle.spec_raft.proofs.Placing.{length-change_place, at_place-changed}
use Rattle.spec_cluster.specs.Bag as bags
use Rattle.net_bag.specs.Ways as way_lists
use Rattle.net_bag.specs.Fronts as way_fronts
use Rattle.net_bag.specs.Reasons as reasons
use Rattle.net_bag.proofs.Waiting.{marked}
use Rattle.net_bag.proofs.First.{next_first}

-- the next packet of a flush
pub next_of : (packets : bags.Bag) (links : List bags.Link) (bag : bags.Bag) (up : List Bool) (ways : List way_lists.Way) → record { sent = packets.sent; kept = packets.kept; cuts = links } ≡ bag
    → way_fronts.AreFronts (suc (bags.gone packets)) packets.kept ways → way_fronts.first_among links up None ways ≡ bags.next_up bag (reasons.nodes_up up)
next_of packets links bag up ways e h =
    let P : bags.Bag → Type 0 = λ b. way_fronts.first_among links up None ways ≡ bags.next_up b (reasons.nodes_up up) in
    subst P e (next_first (record { sent = packets.sent; kept = packets.kept; cuts = links }) links up ways refl h)

-- a packet is marked
pub marked_bag : (packets after : bags.Bag) (links : List bags.Link) (bag : bags.Bag) (number : ℕ) → record { sent = packets.sent; kept = packets.kept; cuts = links } ≡ bag → after ≡ bags.with_mark packets number
    → record { sent = after.sent; kept = after.kept; cuts = links } ≡ bags.with_mark bag number
marked_bag packets after links bag number e f =
    let With : bags.Bag → bags.Bag = λ b. record { sent = b.sent; kept = b.kept; cuts = links } in
    let Mark : bags.Bag → bags.Bag = λ b. bags.with_mark b number in
    ap With f ∙ ap Mark e

pub gone_marked : (packets after : bags.Bag) (number : ℕ) → after ≡ bags.with_mark packets number → bags.gone after ≡ bags.gone packets
gone_marked packets after number f = ap bags.gone f ∙ ap (λ n. packets.sent - n) (length-change_place marked packets.kept (number - bags.gone packets))

packet_of : (o : Option bags.KeptPacket) (s : bags.KeptPacket) → option_map marked o ≡ Some s → option_map (λ t. t.packet) o ≡ Some s.packet
packet_of None s e = absurd (let c : None ≡ Some s = e in cc)
packet_of (Some t) s e = ap (λ (u : bags.KeptPacket). Some u.packet) (same_Some (marked t) s e)

-- the packet that was marked is the one that was kept
pub taken_packet : (packets after : bags.Bag) (links : List bags.Link) (bag : bags.Bag) (number : ℕ) (s : bags.KeptPacket) → record { sent = packets.sent; kept = packets.kept; cuts = links } ≡ bag → after ≡ bags.with_mark packets number → bags.kept_at after number ≡ Some s
    → option_map (λ t. t.packet) (bags.kept_at bag number) ≡ Some s.packet
taken_packet packets after links bag number s e f h =
    let P : bags.Bag → Type 0 = λ b. option_map (λ (t : bags.KeptPacket). t.packet) (bags.kept_at b number) ≡ Some s.packet in
    let there : option_map marked (lists.at_place packets.kept (number - bags.gone packets)) ≡ Some s =
    sym (at_place-changed marked packets.kept (number - bags.gone packets))
    ∙ ap (λ q. lists.at_place (positions.change_place marked packets.kept (number - bags.gone packets)) (number - q)) (sym (gone_marked packets after number f))
    ∙ sym (ap (λ (b : bags.Bag). lists.at_place b.kept (number - bags.gone after)) f)
    ∙ h in
    subst P e (packet_of (lists.at_place packets.kept (number - bags.gone packets)) s there)

first_none : (r o : Option SkipReason) → bags.first_reason r o ≡ None → r ≡ None
first_none None o e = refl
first_none (Some r) o e = absurd (let c : Some r ≡ None = e in cc)

refusal_none : (number sent gone : ℕ) → cond (nat_eq number 0 || nat_lt sent number) (Some reason.NeverSent) (cond (nat_le number gone) (Some reason.Gone) None) ≡ None → gone < number
refusal_none number sent gone e = step (nat_eq number 0 || nat_lt sent number) (nat_le number gone) refl e
  where
    above : (x y : ℕ) → false ≡ nat_le x y → y < x
    above x y f = grind (arith, nat_tests)

    step : (a b : Bool) → b ≡ nat_le number gone → cond a (Some reason.NeverSent) (cond b (Some reason.Gone) None) ≡ None → gone < number
    step true b f h = absurd (let c : Some reason.NeverSent ≡ None = h in cc)
    step false true f h = absurd (let c : Some reason.Gone ≡ None = h in cc)
    step false false f h = above number gone f

-- what is taken is kept
pub taken_kept : (packets : bags.Bag) (links : List bags.Link) (bag : bags.Bag) (up : List ℕ) (number : ℕ) → record { sent = packets.sent; kept = packets.kept; cuts = links } ≡ bag → bags.take_refusal bag up number ≡ None → bags.gone packets < number
taken_kept packets links bag up number e h =
    let P : bags.Bag → Type 0 = λ b. bags.take_refusal b up number ≡ None in
    let old : bags.take_refusal (record { sent = packets.sent; kept = packets.kept; cuts = links }) up number ≡ None = subst P (sym e) h in
    refusal_none number packets.sent (bags.gone packets) (first_none (bags.mark_refusal packets number) (bags.kept_hindrance (record { sent = packets.sent; kept = packets.kept; cuts = links }) up (bags.kept_at packets number)) old)
