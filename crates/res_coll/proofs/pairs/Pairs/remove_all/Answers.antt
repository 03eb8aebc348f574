use Rattle.std.proofs.Common.{◌≡◌, ◌∙◌, sym, ap, length, Some, None, arith, ℕ, List}
use Rattle.std.specs.BTreeSet.{BTreeSet}
use Rattle.spec_book.specs.Collections as collections
use Rattle.res_coll.specs.Pairs as pairs
use Rattle.res_coll.proofs.Grouped.{length-found, length-pairs_of-le, length-both, without_pairs-pairs_in}
use Rattle.res_coll.proofs.pairs.Pairs.remove_all.Goals as goal

pub overflow_sub-self : goal.overflow_sub-self
overflow_sub-self c =
    let k = c.args.key.now in
    let es = c.self.inside.texts.entries in
    let found : c.len-count.result ≡ length (collections.pairs_of k (pairs.pairs_in es)) =
    c.len-count.ensures.len ∙ sym (length-found k es (Some c.in-Some.texts) c.self.invariant.0 (sym c.in-Some.ensures.value)) in
    let part = length-pairs_of-le k (pairs.pairs_in es) in
    let all = c.self.invariant.1 in
    omega (arith, found, part, all)

pub invariant_of-self-in-Some : goal.invariant_of-self-in-Some
invariant_of-self-in-Some c =
    let k = c.args.key.now in
    let es = c.self.inside.texts.entries in
    let found : c.len-count.result ≡ length (collections.pairs_of k (pairs.pairs_in es)) =
    c.len-count.ensures.len ∙ sym (length-found k es (Some c.in-Some.texts) c.self.invariant.0 (sym c.in-Some.ensures.value)) in
    let left : length (pairs.pairs_in c.remove.new.self.entries) ≡ length (collections.without_pairs k (pairs.pairs_in es)) =
    ap (λ (fs : List (List ℕ × BTreeSet (List ℕ))). length (pairs.pairs_in fs)) c.remove.ensures.entries
    ∙ sym (ap (λ (xs : List (List ℕ × List ℕ)). length xs) (without_pairs-pairs_in k es c.self.invariant.0)) in
    let both = length-both k (pairs.pairs_in es) in
    let all = c.self.invariant.1 in
    let most = c.self.invariant.2 in
    (c.remove.ensures.ordered, omega (arith, found, left, both, all), omega (arith, most))

pub returns-in-None-clause-count : goal.returns-in-None-clause-count
returns-in-None-clause-count c =
    rw (← c.self.view_is) (sym (length-found c.args.key.now c.self.inside.texts.entries None c.self.invariant.0 (sym c.in-None.ensures.value)))

pub returns-in-None-clause-after : goal.returns-in-None-clause-after
returns-in-None-clause-after c =
    rw (← c.self.view_is)
    (ap (λ (fs : List (List ℕ × BTreeSet (List ℕ))). pairs.pairs_in fs) c.remove.ensures.entries
    ∙ sym (without_pairs-pairs_in c.args.key.now c.self.inside.texts.entries c.self.invariant.0))

pub returns-in-Some-clause-count : goal.returns-in-Some-clause-count
returns-in-Some-clause-count c =
    c.len-count.ensures.len
    ∙ rw (← c.self.view_is)
    (sym (length-found c.args.key.now c.self.inside.texts.entries (Some c.in-Some.texts) c.self.invariant.0 (sym c.in-Some.ensures.value)))

pub returns-in-Some-clause-within : goal.returns-in-Some-clause-within
returns-in-Some-clause-within c =
    let k = c.args.key.now in
    let es = c.self.inside.texts.entries in
    let found : c.len-count.result ≡ length (collections.pairs_of k (pairs.pairs_in es)) =
    c.len-count.ensures.len ∙ sym (length-found k es (Some c.in-Some.texts) c.self.invariant.0 (sym c.in-Some.ensures.value)) in
    let part = length-pairs_of-le k (pairs.pairs_in es) in
    let all = c.self.invariant.1 in
    let most = c.self.invariant.2 in
    omega (arith, found, part, all, most)

pub returns-in-Some-clause-after : goal.returns-in-Some-clause-after
returns-in-Some-clause-after c =
    rw (← c.self.view_is)
    (ap (λ (fs : List (List ℕ × BTreeSet (List ℕ))). pairs.pairs_in fs) c.remove.ensures.entries
    ∙ sym (without_pairs-pairs_in c.args.key.now c.self.inside.texts.entries c.self.invariant.0))
