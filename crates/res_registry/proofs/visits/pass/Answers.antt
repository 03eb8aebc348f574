use Rattle.std.proofs.Common.{◌≡◌, ◌∙◌, [], false, sym, rules}
use Rattle.res_deadlines.specs.Deadlines as deadlines
use Rattle.res_registry.proofs.Ended.{none_passed, walked_passed}
use Rattle.res_registry.proofs.visits.pass.Goals as goal

pub returns-clause-told : goal.returns-clause-told
returns-clause-told c =
    c.in_ok-told.ensures.told
    ∙ (walked_passed c.args.time c.of-names.result c.args.slots.now.entries c.args.ends.now c.requires.ends (rw c.of-names.ensures c.in_ok-passed.ensures.keys)
    c.pass_all.ensures.ascending
    c.requires.ascending).1

pub returns-clause-after : goal.returns-clause-after
returns-clause-after c =
    c.in_ok-told.ensures.after
    ∙ (walked_passed c.args.time c.of-names.result c.args.slots.now.entries c.args.ends.now c.requires.ends (rw c.of-names.ensures c.in_ok-passed.ensures.keys)
    c.pass_all.ensures.ascending
    c.requires.ascending).0

pub returns-then-not-any_passed-clause-told : goal.returns-then-not-any_passed-clause-told
returns-then-not-any_passed-clause-told c =
    let none : deadlines.any_passed c.args.time c.args.ends.now ≡ false = sym c.any_passed.ensures ∙ c.if-not-any_passed.true in
    let empty : c.new.result.items ≡ [] = search rules in
    empty ∙ (none_passed c.args.time c.args.slots.now.entries c.args.ends.now c.requires.ends none c.requires.ascending).1

pub returns-then-not-any_passed-clause-after : goal.returns-then-not-any_passed-clause-after
returns-then-not-any_passed-clause-after c =
    let none : deadlines.any_passed c.args.time c.args.ends.now ≡ false = sym c.any_passed.ensures ∙ c.if-not-any_passed.true in
    (none_passed c.args.time c.args.slots.now.entries c.args.ends.now c.requires.ends none c.requires.ascending).0
