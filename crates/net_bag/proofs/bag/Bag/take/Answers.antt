use Rattle.std.proofs.Common.{◌≡◌, ◌<◌, ◌∙◌, Some, None, arith, refl, sym, ap}
use Rattle.std.specs.Prelude.{option_map}
use Rattle.spec_cluster.specs.Bag as bags
use Rattle.net_bag.specs.Reasons as reasons
use Rattle.net_bag.proofs.Newest.{mark_within}
use Rattle.net_bag.proofs.Delivered.{marked_bag, gone_marked, taken_packet, taken_kept}
use Rattle.net_bag.proofs.bag.Bag.take.Goals as goal

pub invariant_of-self-2 : goal.invariant_of-self-2
invariant_of-self-2 c = mark_within c.self.inside.packets c.mark.new.self c.args.number c.mark.ensures c.self.invariant

pub slot-requires-clause-kept : goal.slot-requires-clause-kept
slot-requires-clause-kept c =
    let refusal : bags.take_refusal c.args.self.now (reasons.nodes_up c.args.up.now) c.args.number ≡ None = ap (λ (b : bags.Bag). bags.take_refusal b (reasons.nodes_up c.args.up.now) c.args.number) (sym c.self.view_is) ∙ sym c.take_refusal.ensures ∙ ap (option_map reasons.reason_of) c.in_default.is in
    omega (arith, gone_marked c.self.inside.packets c.mark.new.self c.args.number c.mark.ensures, taken_kept c.self.inside.packets c.self.inside.links c.args.self.now (reasons.nodes_up c.args.up.now) c.args.number c.self.view_is refusal)

pub returns : goal.returns
returns c =
    let refusal : bags.take_refusal c.args.self.now (reasons.nodes_up c.args.up.now) c.args.number ≡ None = ap (λ (b : bags.Bag). bags.take_refusal b (reasons.nodes_up c.args.up.now) c.args.number) (sym c.self.view_is) ∙ sym c.take_refusal.ensures ∙ ap (option_map reasons.reason_of) c.in_default.is in (
      (refl, (λ b. tt), (marked_bag c.self.inside.packets c.mark.new.self c.self.inside.links c.args.self.now c.args.number c.self.view_is c.mark.ensures, tt)),
      record {
        refused = tt;
        taken = refusal;
        packet = taken_packet c.self.inside.packets c.mark.new.self c.self.inside.links c.args.self.now c.args.number (record { is_marked = c.behind-self.inside.is_marked; packet = c.behind-self.inside.packet }) c.self.view_is c.mark.ensures (c.slot.ensures ∙ ap Some (sym c.behind-self.view_is));
        after = tt;
      },
    )
