use Rattle.std.proofs.Common.{◌≡◌, ◌∙◌, ◌<◌, Some, List, length, arith, sym, ap, suc, refl}
use Rattle.std.specs.Prelude.{slice_get}
use Rattle.std.proofs.lemmas.Option.{slice_get_read}
use Rattle.spec_raft.specs.Positions as positions
use Rattle.net_bag.specs.Ways as way_lists
use Rattle.net_bag.proofs.Table.{ways_set, set-change}
use Rattle.net_bag.proofs.ways.Ways.push.Goals as goal

pub invariant_of-self : goal.invariant_of-self
invariant_of-self c =
    let within : c.args.place < length c.self.inside.ways.items = omega (arith, c.requires, ap length c.self.view_is) in
    ways_set c.self.inside.ways.items c.self.inside.places c.args.place c.index_mut-way.result.now c.push.new.self
    (slice_get_read c.self.inside.ways.items (length c.self.inside.ways.items) c.args.place c.index_mut-way.result.now refl within c.index_mut-way.ensures.value)
    c.push.ensures.ends.0
    c.push.ensures.ends.1
    c.self.invariant

pub invariant_of-self-2 : goal.invariant_of-self-2
invariant_of-self-2 c =
    let within : c.args.place < length c.self.inside.ways.items = omega (arith, c.requires, ap length c.self.view_is) in
    ways_set c.self.inside.ways.items c.self.inside.places c.args.place c.index_mut-way.result.now c.push.new.self
    (slice_get_read c.self.inside.ways.items (length c.self.inside.ways.items) c.args.place c.index_mut-way.result.now refl within c.index_mut-way.ensures.value)
    c.push.ensures.ends.0
    c.push.ensures.ends.1
    c.self.invariant

pub returns-clause-ok : goal.returns-clause-ok
returns-clause-ok c =
    let within : c.args.place < length c.self.inside.ways.items = omega (arith, c.requires, ap length c.self.view_is) in
    set-change (way_lists.with_number c.args.number) c.self.inside.ways.items c.args.place c.index_mut-way.result.now c.push.new.self
    (slice_get_read c.self.inside.ways.items (length c.self.inside.ways.items) c.args.place c.index_mut-way.result.now refl within c.index_mut-way.ensures.value)
    c.in_ok-push.ensures.ok
    ∙ ap (λ (ws : List way_lists.Way). positions.change_place (way_lists.with_number c.args.number) ws (suc c.args.place)) c.self.view_is
