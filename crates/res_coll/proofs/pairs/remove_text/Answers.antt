-- What is written to the texts of the key shows in the pairs; a key whose texts are gone has no pair.
use Rattle.std.proofs.Common.{◌∙◌, sym, ap, ℕ, List, rules}
use Rattle.std.specs.BTreeSet.{BTreeSet}
use Rattle.std.specs.BTreeMap.{is_at}
use Rattle.spec_book.specs.Dict as dicts
use Rattle.res_coll.specs.Pairs as coll_pairs
use Rattle.res_coll.proofs.Grouped.{remove-found, remove-unfound, pairs_in-emptied, nil_from_length}
use Rattle.res_coll.proofs.pairs.remove_text.Goals as goal

pub returns-in_default-clause-after : goal.returns-in_default-clause-after
returns-in_default-clause-after c =
    rw c.get_mut.follows.holds-at-none
    (remove-unfound c.args.key.now c.args.text.now c.args.texts.now.entries c.get_mut.ensures.ordered (sym c.in_default.ensures.value))

pub returns-else-is_empty-clause-after : goal.returns-else-is_empty-clause-after
returns-else-is_empty-clause-after c =
    let h = c.get_mut.follows.holds c.remove.new.self in
    ap (λ (es : List (List ℕ × BTreeSet (List ℕ))). coll_pairs.pairs_in es) h.0
    ∙ remove-found c.args.key.now c.args.text.now c.in-Some.held.now c.remove.new.self c.args.texts.now.entries c.get_mut.ensures.ordered
    (sym c.in-Some.ensures.value) c.remove.ensures.keys

pub returns-then-is_empty-clause-after : goal.returns-then-is_empty-clause-after
returns-then-is_empty-clause-after c =
    let w = c.remove.new.self in
    let n = c.get_mut.follows.lender w in
    let h = c.get_mut.follows.holds w in
    ap (λ (es : List (List ℕ × BTreeSet (List ℕ))). coll_pairs.pairs_in es) c.remove-then-is_empty.ensures.entries
    ∙ (pairs_in-emptied (is_at (dicts.bytes_cmp c.args.key.now)) w n.entries (h.3 (search rules)).1 (nil_from_length w.keys (c.if-is_empty.ensures.0 (search rules)))
    ∙ (ap (λ (es : List (List ℕ × BTreeSet (List ℕ))). coll_pairs.pairs_in es) h.0
    ∙ remove-found c.args.key.now c.args.text.now c.in-Some.held.now w c.args.texts.now.entries c.get_mut.ensures.ordered
    (sym c.in-Some.ensures.value) c.remove.ensures.keys))
