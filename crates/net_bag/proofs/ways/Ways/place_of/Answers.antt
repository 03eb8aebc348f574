use Rattle.std.proofs.Common.{◌≡◌, ◌<◌, arith, get_or, List, ◌-◌, subst, false}
use Rattle.std.specs.List.{list_any}
use Rattle.net_bag.specs.Ways as way_lists
use Rattle.net_bag.proofs.Table.{place_there, place_nowhere}
use Rattle.net_bag.proofs.ways.Ways.place_of.Goals as goal

pub returns-then-place-eq0-clause-nowhere : goal.returns-then-place-eq0-clause-nowhere
returns-then-place-eq0-clause-nowhere c =
    let P : List way_lists.Way → Type 0 = λ ws. list_any (way_lists.is_from c.args.from.now c.args.to.now) ws ≡ false in
    subst P c.self.view_is (place_nowhere c.self.inside.ways.items c.self.inside.places c.args.from.now c.args.to.now c.way_number.result c.self.invariant c.way_number.ensures.real_from c.way_number.ensures.real_to c.way_number.ensures.number c.if-place-eq0.true)

pub returns-clause-there : goal.returns-clause-there
returns-clause-there c =
    let P : List way_lists.Way → Type 0 = λ ws. way_lists.IsPlaceOf ws c.args.from.now c.args.to.now (get_or c.self.inside.places c.way_number.result 0 - 1) in
    subst P c.self.view_is (place_there c.self.inside.ways.items c.self.inside.places c.args.from.now c.args.to.now c.way_number.result c.self.invariant c.way_number.ensures.real_from c.way_number.ensures.real_to c.way_number.ensures.number (omega (arith, c.if-place-eq0.false)))
