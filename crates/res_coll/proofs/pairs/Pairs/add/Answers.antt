use Rattle.std.proofs.Common.{◌≡◌, ◌∙◌, ◌+◌, ◌<◌, ap, length, arith, ℕ, List}
use Rattle.std.specs.BTreeSet.{insert_key}
use Rattle.spec_book.specs.Collections as collections
use Rattle.res_coll.specs.Pairs as pairs
use Rattle.res_coll.proofs.Grouped.{length-insert_key}
use Rattle.res_coll.proofs.pairs.Pairs.add.Goals as goal

pub invariant_of-self-2 : goal.invariant_of-self-2
invariant_of-self-2 c =
    let ps = pairs.pairs_in c.self.inside.texts.entries in
    let p : List ℕ × List ℕ = (c.args.key.now, c.args.text.now) in
    let new = pairs.pairs_in c.add_text.new.texts.entries in
    let is : new ≡ insert_key collections.pair_cmp ps p = rw (← c.in_ok-copy.ensures) c.in_ok-add_text.ensures.ok in
    let longer : length new ≡ length ps + 1 =
    ap (λ (xs : List (List ℕ × List ℕ)). length xs) is ∙ length-insert_key p ps (rw c.self.view_is c.requires.absent) in
    let room : length ps < 1024 = rw c.self.view_is c.requires.room in
    let all = c.self.invariant.1 in
    (c.in_ok-add_text.ensures.ascending, omega (arith, longer, all), omega (arith, all, room))
