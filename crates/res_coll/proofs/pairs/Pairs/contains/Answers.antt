use Rattle.std.proofs.Common.{◌∙◌, sym, ap, ℕ, List, Option}
use Rattle.std.specs.BTreeSet.{BTreeSet}
use Rattle.spec_book.specs.Dict as dicts
use Rattle.res_coll.proofs.Grouped.{has_pair-pairs_in, texts_of}
use Rattle.res_coll.proofs.pairs.Pairs.contains.Goals as goal

pub returns-in-None : goal.returns-in-None
returns-in-None c =
    sym (rw (← c.self.view_is)
    (has_pair-pairs_in c.args.key.now c.args.text.now c.self.inside.texts.entries c.self.invariant.0
    ∙ ap (λ (o : Option (BTreeSet (List ℕ))). dicts.has_text (texts_of o) c.args.text.now) (sym c.in-None.ensures.value)))

pub returns-in-Some : goal.returns-in-Some
returns-in-Some c =
    c.contains.ensures
    ∙ sym (rw (← c.self.view_is)
    (has_pair-pairs_in c.args.key.now c.args.text.now c.self.inside.texts.entries c.self.invariant.0
    ∙ ap (λ (o : Option (BTreeSet (List ℕ))). dicts.has_text (texts_of o) c.args.text.now) (sym c.in-Some.ensures.value)))
