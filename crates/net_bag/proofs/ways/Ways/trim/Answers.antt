use Rattle.std.proofs.Common.{◌≡◌, ◌∙◌, ◌<◌, Some, List, length, arith, sym, ap, suc, refl}
use Rattle.std.specs.Prelude.{slice_get}
use Rattle.std.proofs.lemmas.Option.{slice_get_read}
use Rattle.spec_raft.specs.Positions as positions
use Rattle.net_bag.specs.Ways as way_lists
use Rattle.net_bag.proofs.Table.{ways_set, set-change}
use Rattle.net_bag.proofs.ways.Ways.trim.Goals as goal

pub invariant_of-self : goal.invariant_of-self
invariant_of-self c =
    let within : c.args.place < length c.self.inside.ways.items = omega (arith, c.requires, ap length c.self.view_is) in
    ways_set c.self.inside.ways.items c.self.inside.places c.args.place c.index_mut-way.result.now c.trim.new.self
    (slice_get_read c.self.inside.ways.items (length c.self.inside.ways.items) c.args.place c.index_mut-way.result.now refl within c.index_mut-way.ensures.value)
    (ap (λ (w : way_lists.Way). w.«from») c.trim.ensures)
    (ap (λ (w : way_lists.Way). w.to) c.trim.ensures)
    c.self.invariant

pub returns : goal.returns
returns c =
    let within : c.args.place < length c.self.inside.ways.items = omega (arith, c.requires, ap length c.self.view_is) in
    set-change (way_lists.without_front (way_lists.open_at c.args.gone c.args.kept.now.items)) c.self.inside.ways.items c.args.place c.index_mut-way.result.now c.trim.new.self
    (slice_get_read c.self.inside.ways.items (length c.self.inside.ways.items) c.args.place c.index_mut-way.result.now refl within c.index_mut-way.ensures.value)
    c.trim.ensures
    ∙ ap (λ (ws : List way_lists.Way). positions.change_place (way_lists.without_front (way_lists.open_at c.args.gone c.args.kept.now.items)) ws (suc c.args.place)) c.self.view_is
