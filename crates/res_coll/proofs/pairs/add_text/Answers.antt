-- What is written to the texts of the key, or put at a new key, shows in the pairs.
use Rattle.std.proofs.Common.{◌≡◌, ◌∙◌, sym, ap, ℕ, List}
use Rattle.std.specs.BTreeSet.{BTreeSet, insert_key}
use Rattle.std.specs.BTreeMap.{is_at, insert_entry}
use Rattle.spec_book.specs.Dict as dicts
use Rattle.res_coll.specs.Pairs as coll_pairs
use Rattle.res_coll.proofs.Grouped.{insert-present, insert-absent, pairs_in-same, OnErr-always}
use Rattle.res_coll.proofs.pairs.add_text.Goals as goal

pub returns-in_err-insert-in-Some-clause-err : goal.returns-in_err-insert-in-Some-clause-err
returns-in_err-insert-in-Some-clause-err c =
    let w = c.insert.new.self in
    OnErr-always c.from_residual.result
    (ap (λ (es : List (List ℕ × BTreeSet (List ℕ))). coll_pairs.pairs_in es) (c.get_mut.follows.holds w).0
    ∙ pairs_in-same (is_at (dicts.bytes_cmp c.args.key.now)) c.in-Some.held.now w c.args.texts.now.entries (sym c.in-Some.ensures.value)
    c.in_err-insert-in-Some.ensures.err)

pub returns-in_ok-insert-in-Some-clause-ok : goal.returns-in_ok-insert-in-Some-clause-ok
returns-in_ok-insert-in-Some-clause-ok c =
    let w = c.insert.new.self in
    ap (λ (es : List (List ℕ × BTreeSet (List ℕ))). coll_pairs.pairs_in es) (c.get_mut.follows.holds w).0
    ∙ sym (insert-present c.args.key.now c.args.text c.in-Some.held.now w c.args.texts.now.entries c.get_mut.ensures.ordered
    (sym c.in-Some.ensures.value) c.in_ok-insert-in-Some.ensures.keys)

pub returns-in_ok-insert-in-None-2-clause-ok : goal.returns-in_ok-insert-in-None-2-clause-ok
returns-in_ok-insert-in-None-2-clause-ok c =
    let w = c.insert-in-None.new.self in
    let one : w.keys ≡ insert_key dicts.bytes_cmp c.new-first.result.keys c.args.text = c.in_ok-insert-in-None.ensures.keys in
    let put : c.insert-in-None-2.new.self.entries ≡ insert_entry dicts.bytes_cmp c.args.texts.now.entries c.args.key.now w =
    rw (← c.get_mut.follows.holds-at-none, ← c.in_ok-copy-in-None.ensures) c.in_ok-insert-in-None-2.ensures.entries in
    ap (λ (es : List (List ℕ × BTreeSet (List ℕ))). coll_pairs.pairs_in es) put
    ∙ sym (insert-absent c.args.key.now c.args.text w c.args.texts.now.entries c.get_mut.ensures.ordered
    (sym c.in-None.ensures.value) (one ∙ ap (λ (ts : List (List ℕ)). insert_key dicts.bytes_cmp ts c.args.text) c.new-first.ensures.empty))
