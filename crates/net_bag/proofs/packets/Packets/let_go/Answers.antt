use Rattle.std.proofs.Common.{◌≡◌, ◌∙◌, ◌<◌, ◌≤◌, ◌+◌, ◌-◌, ℕ, List, [], length, drop, arith, sym, ap}
use Rattle.spec_raft.specs.Positions as positions
use Rattle.spec_cluster.specs.Bag as bags
use Rattle.net_bag.proofs.Waiting.{marked}
use Rattle.net_bag.proofs.Newest.{drop_marked}
use Rattle.net_bag.proofs.Kept.{let_go_first}
use Rattle.net_bag.proofs.packets.Packets.let_go.Goals as goal

pub overflow_add-oldest : goal.overflow_add-oldest
overflow_add-oldest c = omega (arith, c.requires, c.gone-oldest.ensures.all, c.gone-oldest.ensures.fits)

pub invariant_of-self : goal.invariant_of-self
invariant_of-self c =
    let one : c.gone-oldest.result + 1 - bags.gone c.args.self.now ≡ 1 = omega (arith, c.gone-oldest.ensures.gone) in
    let_go_first c.self.inside.sent c.self.inside.unmarked (c.gone-oldest.result + 1 - bags.gone c.args.self.now) c.args.self.now.kept c.self.inside.kept.items c.drop_first.new.kept.items c.self.inside.ways
    (ap (λ (b : bags.Bag). b.kept) (c.self.view_is ∙ c.mark.ensures)) one c.requires c.drop_first.ensures c.self.invariant

pub returns : goal.returns
returns c =
    let one : c.gone-oldest.result + 1 - bags.gone c.args.self.now ≡ 1 = omega (arith, c.gone-oldest.ensures.gone) in
    let Made : List bags.KeptPacket → bags.Bag = λ ks. record { sent = c.self.inside.sent; kept = ks; cuts = [] } in
    let Dropped : bags.Bag → bags.Bag = λ b. record b { kept = drop 1 b.kept } in
    let With : List bags.KeptPacket → bags.Bag = λ ks. record c.args.self.now { kept = ks } in
    ap Made c.drop_first.ensures
    ∙ ap Dropped (c.self.view_is ∙ c.mark.ensures)
    ∙ ap With (ap (λ k. drop 1 (positions.change_place marked c.args.self.now.kept k)) one ∙ drop_marked c.args.self.now.kept)
