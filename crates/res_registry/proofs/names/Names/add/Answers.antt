use Rattle.std.proofs.Common.{◌≡◌, ◌∙◌, sym, true}
use Rattle.spec_book.specs.Dict as dicts
use Rattle.res_registry.proofs.Changes.{has-again}
use Rattle.res_registry.proofs.names.Names.add.Goals as goal

pub returns-else-not-contains-clause-ok : goal.returns-else-not-contains-clause-ok
returns-else-not-contains-clause-ok c =
    let there : dicts.has_text c.args.self.now c.args.name.now ≡ true = rw (← c.self.view_is) (sym c.contains.ensures ∙ c.if-not-contains.false) in
    has-again c.args.self.now c.args.name.now there
