use Rattle.std.proofs.Common.{◌≡◌, ◌+◌, ap, length, arith, ℕ, List}
use Rattle.std.specs.Set.{remove_key}
use Rattle.std.specs.BTreeMap.{is_at}
use Rattle.std.proofs.lemmas.Map.Made.{length-remove_key}
use Rattle.spec_book.specs.Collections as collections
use Rattle.res_coll.specs.Pairs as pairs
use Rattle.res_coll.proofs.pairs.Pairs.remove.Goals as goal

pub invariant_of-self : goal.invariant_of-self
invariant_of-self c =
    let ps = pairs.pairs_in c.self.inside.texts.entries in
    let test = is_at (collections.pair_cmp (c.args.key.now, c.args.text.now)) in
    let new = pairs.pairs_in c.remove_text.new.texts.entries in
    let shorter : length (remove_key test ps) + 1 ≡ length ps = length-remove_key test ps (rw c.self.view_is c.requires) in
    let is : length new ≡ length (remove_key test ps) = ap (λ (xs : List (List ℕ × List ℕ)). length xs) c.remove_text.ensures.after in
    let all = c.self.invariant.1 in
    let most = c.self.invariant.2 in
    (c.remove_text.ensures.ascending, omega (arith, shorter, is, all), omega (arith, most))
