use Rattle.std.proofs.Common.{rules, ◌≤◌, length, refl, subst}
use Rattle.std.specs.Prelude.{Ok}
use Rattle.ax_types.specs.declared.limits.TheConstants.{MAX_STEPS}
use Rattle.script_run.proofs.Carrying as lemmas
use Rattle.script_run.proofs.lines.make.Goals as goal

pub returns-then-kept-ge-MAX_STEPS-clause-makes : goal.returns-then-kept-ge-MAX_STEPS-clause-makes
returns-then-kept-ge-MAX_STEPS-clause-makes g c = λ tells. (refl, lemmas.full_at (length c.args.world.now.kept) c.requires.ready.within (subst (λ ks. MAX_STEPS ≤ length ks) c.kept.ensures c.if-kept-ge-MAX_STEPS.true))

pub returns-clause-makes : goal.returns-clause-makes
returns-clause-makes g c = λ tells.
    lemmas.told_step c.args.json c.args.world.now c.step.new.self (g.O.Sink.content c.args.output.now) (g.O.Sink.content c.tell.new.output) c.args.made.now c.items_from.result.now (Ok tt)
    (c.in_ok-step.ensures.made tells) (search rules) c.in_ok-tell.ensures.tells
    (lemmas.one_more (length c.args.world.now.kept) (length c.step.new.self.kept) c.in_ok-step.ensures.grows (search rules))

pub returns-clause-ready : goal.returns-clause-ready
returns-clause-ready g c = record {
  ready = record {
    whole = c.in_ok-step.ensures.whole;
    within = lemmas.one_more (length c.args.world.now.kept) (length c.step.new.self.kept) c.in_ok-step.ensures.grows (search rules);
    matches = c.in_ok-step.ensures.stores;
  };
  telling = c.step.ensures.told;
}

pub returns-in_err-step-clause-makes : goal.returns-in_err-step-clause-makes
returns-in_err-step-clause-makes g c = λ tells.
    lemmas.not_made c.args.json c.args.world.now c.step.new.self (g.O.Sink.content c.args.output.now) c.args.made.now c.from_residual.result c.in_err-step.ensures.err c.from_residual.ensures.1
