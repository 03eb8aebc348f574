use Rattle.std.proofs.Common.{rules}
use Rattle.res_registry.proofs.Changes.{has-added}
use Rattle.res_registry.proofs.names.Touched.add.Goals as goal

pub returns-in_ok-add-in-Some-clause-has : goal.returns-in_ok-add-in-Some-clause-has
returns-in_ok-add-in-Some-clause-has c =
    let w = c.add.new.self in
    has-added (c.get_mut.follows.lender w).entries c.args.session w c.in-Some.names.now c.args.name.now
    ((c.get_mut.follows.holds w).3 (search rules)).1 c.in_ok-add-in-Some.ensures.ok

pub returns-in_ok-insert-in-None-clause-has : goal.returns-in_ok-insert-in-None-clause-has
returns-in_ok-insert-in-None-clause-has c =
    has-added c.insert.new.self.entries c.args.session c.add-in-None.new.self c.new-names.result c.args.name.now
    c.in_ok-insert-in-None.ensures.updates.1 c.in_ok-add-in-None.ensures.ok
