use Rattle.std.proofs.Common.{◌≡◌, ◌+◌, ◌++◌, ◌∷◌, [], ◌<◌, ◌≤◌, ◌∙◌, Bool, true, false, Some, take, set, length, arith, sym, ap}
use Rattle.std.specs.Prelude.{slice_get, if◌then◌else◌}
use Rattle.std.specs.List.{list_any}
use Rattle.std.proofs.lemmas.Option.{slice_get-get_or}
use Rattle.spec_cluster.specs.Bag as bags
use Rattle.net_bag.proofs.Cuts.{room, links_cut, cut_after}
use Rattle.net_bag.proofs.links.Links.cut.Goals as goal

pub listed : goal.listed
listed c =
    let flag : slice_get c.self.inside.flags c.link_number-number.result ≡ Some false = slice_get-get_or c.self.inside.flags c.link_number-number.result false (omega (arith, c.link_number-number.ensures.within, c.self.told)) ∙ ap Some c.if-self-number.false in
    omega (arith, c.self.invariant.places, room c.self.inside.cut_count c.link_number-number.result c.self.inside.links c.self.inside.flags c.self.invariant flag)

pub bounds-self-inside-self-inside : goal.bounds-self-inside-self-inside
bounds-self-inside-self-inside c =
    let flag : slice_get c.self.inside.flags c.link_number-number.result ≡ Some false = slice_get-get_or c.self.inside.flags c.link_number-number.result false (omega (arith, c.link_number-number.ensures.within, c.self.told)) ∙ ap Some c.if-self-number.false in
    omega (arith, room c.self.inside.cut_count c.link_number-number.result c.self.inside.links c.self.inside.flags c.self.invariant flag)

pub invariant_of-self : goal.invariant_of-self
invariant_of-self c =
    let flag : slice_get c.self.inside.flags c.link_number-number.result ≡ Some false = slice_get-get_or c.self.inside.flags c.link_number-number.result false (omega (arith, c.link_number-number.ensures.within, c.self.told)) ∙ ap Some c.if-self-number.false in
    links_cut c.self.inside.cut_count c.link_number-number.result c.self.inside.links c.self.inside.flags c.args.one c.args.other c.link_number-number.ensures.number c.link_number-number.ensures.real_one c.link_number-number.ensures.real_other flag c.self.invariant

pub returns : goal.returns
returns c =
    let flag : slice_get c.self.inside.flags c.link_number-number.result ≡ Some false = slice_get-get_or c.self.inside.flags c.link_number-number.result false (omega (arith, c.link_number-number.ensures.within, c.self.told)) ∙ ap Some c.if-self-number.false in
    cut_after c.self.inside.cut_count c.link_number-number.result c.self.inside.links c.args.self.now c.self.inside.flags c.args.one c.args.other c.link_number-number.ensures.number c.link_number-number.ensures.real_one c.link_number-number.ensures.real_other flag c.self.invariant c.self.view_is
