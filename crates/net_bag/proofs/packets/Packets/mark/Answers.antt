use Rattle.std.proofs.Common.{◌≡◌, ◌∙◌, ◌<◌, ◌≤◌, ◌+◌, ◌-◌, suc, ℕ, List, Some, Bool, true, false, length, arith, refl, sym, ap}
use Rattle.std.specs.Prelude.{slice_get}
use Rattle.std.proofs.lemmas.Option.{slice_get_read}
use Rattle.spec_cluster.specs.Bag as bags
use Rattle.net_bag.specs.Ways as way_lists
use Rattle.net_bag.proofs.Table.{place_within}
use Rattle.net_bag.proofs.Newest.{served_way}
use Rattle.net_bag.proofs.Kept.{mark_still, some_left, marked_packet}
use Rattle.net_bag.proofs.packets.Packets.mark.Goals as goal

pub returns-then-slot : goal.returns-then-slot
returns-then-slot c =
    let kept : List bags.KeptPacket = c.self.inside.kept.items in
    let count : length kept ≡ length c.args.self.now.kept = ap (λ (b : bags.Bag). length b.kept) c.self.view_is in
    let within : c.args.number - c.gone-gone.result - 1 < length kept = omega (arith, c.gone-gone.ensures.all, c.gone-gone.ensures.gone, c.requires.kept, c.requires.sent, count) in
    let s : bags.KeptPacket = record { is_marked = c.slot.inside.is_marked; packet = c.slot.inside.packet } in
    let there : slice_get c.args.self.now.kept (c.args.number - c.gone-gone.result - 1) ≡ Some s =
    ap (λ (b : bags.Bag). slice_get b.kept (c.args.number - c.gone-gone.result - 1)) (sym c.self.view_is)
    ∙ slice_get_read kept (length kept) (c.args.number - c.gone-gone.result - 1) c.index-slot.result.now refl within c.index-slot.ensures
    ∙ ap Some (sym c.slot.view_is) in
    mark_still c.args.self.now c.args.number (c.args.number - c.gone-gone.result - 1) s there c.if-slot.true
    (omega (arith, c.gone-gone.ensures.gone, c.requires.kept))

pub unreachable-requires : goal.unreachable-requires
unreachable-requires c =
    let kept : List bags.KeptPacket = c.self.inside.kept.items in
    let count : length kept ≡ length c.args.self.now.kept = ap (λ (b : bags.Bag). length b.kept) c.self.view_is in
    let within : c.args.number - c.gone-gone.result - 1 < length kept = omega (arith, c.gone-gone.ensures.all, c.gone-gone.ensures.gone, c.requires.kept, c.requires.sent, count) in
    let s : bags.KeptPacket = record { is_marked = c.slot.inside.is_marked; packet = c.slot.inside.packet } in
    let there : slice_get kept (c.args.number - c.gone-gone.result - 1) ≡ Some s =
    slice_get_read kept (length kept) (c.args.number - c.gone-gone.result - 1) c.index-slot.result.now refl within c.index-slot.ensures ∙ ap Some (sym c.slot.view_is) in
    served_way c.self.inside.ways kept (c.args.number - c.gone-gone.result - 1) s there c.self.invariant.served c.in_default.ensures.nowhere

pub overflow_sub-self : goal.overflow_sub-self
overflow_sub-self c =
    let kept : List bags.KeptPacket = c.self.inside.kept.items in
    let count : length kept ≡ length c.args.self.now.kept = ap (λ (b : bags.Bag). length b.kept) c.self.view_is in
    let within : c.args.number - c.gone-gone.result - 1 < length kept = omega (arith, c.gone-gone.ensures.all, c.gone-gone.ensures.gone, c.requires.kept, c.requires.sent, count) in
    let s : bags.KeptPacket = record { is_marked = c.slot.inside.is_marked; packet = c.slot.inside.packet } in
    let there : slice_get kept (c.args.number - c.gone-gone.result - 1) ≡ Some s =
    slice_get_read kept (length kept) (c.args.number - c.gone-gone.result - 1) c.index-slot.result.now refl within c.index-slot.ensures ∙ ap Some (sym c.slot.view_is) in
    some_left c.self.inside.sent (c.self.inside.sent - length kept) (c.args.number - c.gone-gone.result - 1) c.self.inside.unmarked kept s c.self.inside.ways there c.if-slot.false c.self.invariant

pub trim-requires : goal.trim-requires
trim-requires c = place_within c.self.inside.ways c.slot.inside.packet.«from» c.slot.inside.packet.to c.in-Some.place c.in-Some.ensures.there

pub invariant_of-self : goal.invariant_of-self
invariant_of-self c =
    let kept : List bags.KeptPacket = c.self.inside.kept.items in
    let count : length kept ≡ length c.args.self.now.kept = ap (λ (b : bags.Bag). length b.kept) c.self.view_is in
    let sent : c.self.inside.sent ≡ c.args.self.now.sent = ap (λ (b : bags.Bag). b.sent) c.self.view_is in
    let within : c.args.number - c.gone-gone.result - 1 < length kept = omega (arith, c.gone-gone.ensures.all, c.gone-gone.ensures.gone, c.requires.kept, c.requires.sent, count) in
    let s : bags.KeptPacket = record { is_marked = c.slot.inside.is_marked; packet = c.slot.inside.packet } in
    let there : slice_get kept (c.args.number - c.gone-gone.result - 1) ≡ Some s =
    slice_get_read kept (length kept) (c.args.number - c.gone-gone.result - 1) c.index-slot.result.now refl within c.index-slot.ensures ∙ ap Some (sym c.slot.view_is) in
    let rest : c.gone-gone.result ≡ c.self.inside.sent - length kept = omega (arith, c.gone-gone.ensures.all, count, sent) in
    marked_packet c.self.inside.sent c.gone-gone.result (c.args.number - c.gone-gone.result - 1) c.self.inside.unmarked c.in-Some.place kept c.set_marked.new.kept.items s c.self.inside.ways c.trim.new.self
    rest there c.if-slot.false c.set_marked.ensures c.in-Some.ensures.there c.trim.ensures c.self.invariant
