use Rattle.std.proofs.Common.{◌≡◌, ◌∙◌, sym, length, Some, None, arith}
use Rattle.spec_book.specs.Collections as collections
use Rattle.res_coll.specs.Pairs as pairs
use Rattle.res_coll.proofs.Grouped.{length-found, length-pairs_of-le}
use Rattle.res_coll.proofs.pairs.Pairs.count.Goals as goal

pub returns-in-None-clause-count : goal.returns-in-None-clause-count
returns-in-None-clause-count c =
    rw (← c.self.view_is) (sym (length-found c.args.key.now c.self.inside.texts.entries None c.self.invariant.0 (sym c.in-None.ensures.value)))

pub returns-in-Some-clause-count : goal.returns-in-Some-clause-count
returns-in-Some-clause-count c =
    c.len.ensures.len
    ∙ rw (← c.self.view_is)
    (sym (length-found c.args.key.now c.self.inside.texts.entries (Some c.in-Some.texts.now) c.self.invariant.0 (sym c.in-Some.ensures.value)))

pub returns-in-Some-clause-within : goal.returns-in-Some-clause-within
returns-in-Some-clause-within c =
    let es = c.self.inside.texts.entries in
    let found : c.len.result ≡ length (collections.pairs_of c.args.key.now (pairs.pairs_in es)) =
    c.len.ensures.len ∙ sym (length-found c.args.key.now es (Some c.in-Some.texts.now) c.self.invariant.0 (sym c.in-Some.ensures.value)) in
    let part = length-pairs_of-le c.args.key.now (pairs.pairs_in es) in
    let all = c.self.invariant.1 in
    let most = c.self.invariant.2 in
    omega (arith, found, part, all, most)
