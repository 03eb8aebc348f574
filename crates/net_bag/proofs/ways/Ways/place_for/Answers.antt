use Rattle.std.proofs.Common.{◌≡◌, ◌∙◌, ◌<◌, ◌+◌, ◌-◌, ◌++◌, ◌∷◌, [], arith, get_or, List, length, set, subst, sym, ap, cond, true, false}
use Rattle.std.specs.List.{list_any}
use Rattle.net_bag.specs.Ways as way_lists
use Rattle.net_bag.proofs.Table.{place_there, place_nowhere, any-place, ways_more, place_new}
use Rattle.net_bag.proofs.ways.Ways.place_for.Goals as goal

pub returns-then-place-gt0-clause-there : goal.returns-then-place-gt0-clause-there
returns-then-place-gt0-clause-there c =
    let P : List way_lists.Way → Type 0 = λ ws. way_lists.IsPlaceOf ws c.args.from.now c.args.to.now (get_or c.self.inside.places c.way_number-number.result 0 - 1) in
    subst P c.self.view_is (place_there c.self.inside.ways.items c.self.inside.places c.args.from.now c.args.to.now c.way_number-number.result c.self.invariant c.way_number-number.ensures.real_from c.way_number-number.ensures.real_to c.way_number-number.ensures.number c.if-place-gt0.true)

pub returns-then-place-gt0-clause-ok : goal.returns-then-place-gt0-clause-ok
returns-then-place-gt0-clause-ok c =
    let P : List way_lists.Way → Type 0 = λ ws. way_lists.IsPlaceOf ws c.args.from.now c.args.to.now (get_or c.self.inside.places c.way_number-number.result 0 - 1) in
    let there : way_lists.IsPlaceOf c.args.self.now c.args.from.now c.args.to.now (get_or c.self.inside.places c.way_number-number.result 0 - 1) = subst P c.self.view_is (place_there c.self.inside.ways.items c.self.inside.places c.args.from.now c.args.to.now c.way_number-number.result c.self.invariant c.way_number-number.ensures.real_from c.way_number-number.ensures.real_to c.way_number-number.ensures.number c.if-place-gt0.true) in
    rw (any-place c.args.self.now c.args.from.now c.args.to.now (get_or c.self.inside.places c.way_number-number.result 0 - 1) there)

pub invariant_of-self-2 : goal.invariant_of-self-2
invariant_of-self-2 c =
    let count : c.len-place.result ≡ length c.self.inside.ways.items = omega (arith, c.len-place.ensures, c.self.inside.ways.ok) in
    rw (c.in_ok-push.ensures.items, c.new-waiting.ensures.items, count) (ways_more c.self.inside.ways.items c.self.inside.places c.args.from.now c.args.to.now c.way_number-number.result c.self.invariant c.way_number-number.ensures.real_from c.way_number-number.ensures.real_to c.way_number-number.ensures.number (omega (arith, c.if-place-gt0.false)))

pub returns-clause-there : goal.returns-clause-there
returns-clause-there c =
    let count : c.len-place.result ≡ length c.self.inside.ways.items = omega (arith, c.len-place.ensures, c.self.inside.ways.ok) in
    rw (c.in_ok-push.ensures.items, c.new-waiting.ensures.items, count) (place_new c.self.inside.ways.items c.args.from.now c.args.to.now (place_nowhere c.self.inside.ways.items c.self.inside.places c.args.from.now c.args.to.now c.way_number-number.result c.self.invariant c.way_number-number.ensures.real_from c.way_number-number.ensures.real_to c.way_number-number.ensures.number (omega (arith, c.if-place-gt0.false))))

pub returns-clause-ok : goal.returns-clause-ok
returns-clause-ok c =
    rw (c.in_ok-push.ensures.items, c.new-waiting.ensures.items, ← c.self.view_is, place_nowhere c.self.inside.ways.items c.self.inside.places c.args.from.now c.args.to.now c.way_number-number.result c.self.invariant c.way_number-number.ensures.real_from c.way_number-number.ensures.real_to c.way_number-number.ensures.number (omega (arith, c.if-place-gt0.false)))
