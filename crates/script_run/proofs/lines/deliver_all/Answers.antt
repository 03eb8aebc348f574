use Rattle.std.proofs.Common.{rules, sym, ◌∙◌, true, false, [], ◌∷◌}
use Rattle.std.specs.Prelude.{Ok, Err}
use Rattle.ax_types.specs.declared.steps.Step.TheVariants as step
use Rattle.spec_run.specs.Run as runs
use Rattle.script_run.specs.Carrying as carrying
use Rattle.script_run.specs.RunsInCode as in_code
use Rattle.script_run.proofs.Carrying as lemmas
use Rattle.script_run.proofs.lines.deliver_all.Goals as goal

pub returns-then-not-branch-clause-carries : goal.returns-then-not-branch-clause-carries
returns-then-not-branch-clause-carries g c = λ tells line.
    lemmas.delivery_stops (in_code.so_far c.args.json (g.O.Sink.content c.packets.output) c.packets.world) (in_code.so_far c.args.json (g.O.Sink.content c.deliver.new.output) c.deliver.new.world) c.in-Some.number (Ok false) (in_code.so_far c.args.json (g.O.Sink.content c.args.output.now) c.args.world.now) line (c.packets.invariant.leads tells)
    (sym c.flush_next.ensures ∙ c.in-Some.is) tt
    (lemmas.told_full c.in_ok-deliver.field-0 (λ w. carrying.Makes (in_code.so_far c.args.json (g.O.Sink.content c.packets.output) c.packets.world) (step.Deliver c.in-Some.number) (in_code.so_far c.args.json (g.O.Sink.content c.deliver.new.output) c.deliver.new.world) (Ok w)) c.if-not-branch.true (c.in_ok-deliver.ensures.makes (c.packets.invariant.telling tells)))

pub packets-preserved : goal.packets-preserved
packets-preserved g c = record {
  ready = c.in_ok-deliver.ensures.ready.ready;
  telling = λ tells. c.in_ok-deliver.ensures.ready.telling (c.packets.invariant.telling tells);
  leads = λ tells.
      lemmas.delivered_on (in_code.so_far c.args.json (g.O.Sink.content c.packets.output) c.packets.world) (in_code.so_far c.args.json (g.O.Sink.content c.deliver.new.output) c.deliver.new.world) c.in-Some.number c.in_ok-deliver.field-0 (in_code.so_far c.args.json (g.O.Sink.content c.args.output.now) c.args.world.now) (c.packets.invariant.leads tells)
      (sym c.flush_next.ensures ∙ c.in-Some.is) c.if-not-branch.false (c.in_ok-deliver.ensures.makes (c.packets.invariant.telling tells));
  count = c.in_ok-deliver.ensures.sink.count ∙ c.packets.invariant.count;
  silent = λ json. c.in_ok-deliver.ensures.sink.silent json ∙ c.packets.invariant.silent json;
}

pub returns-clause-carries : goal.returns-clause-carries
returns-clause-carries g c = λ tells line. lemmas.deliveries_end (in_code.so_far c.args.json (g.O.Sink.content c.args.output.now) c.args.world.now) (in_code.so_far c.args.json (g.O.Sink.content c.packets.output) c.packets.world) line (c.packets.invariant.leads tells) (search rules)

pub returns-in_err-deliver-clause-carries : goal.returns-in_err-deliver-clause-carries
returns-in_err-deliver-clause-carries g c = λ tells line.
    lemmas.passes c.from_residual.result c.in_err-deliver.field-0.0 (λ r. carrying.Carries line (runs.Deliver_all ∷ []) (in_code.so_far c.args.json (g.O.Sink.content c.args.output.now) c.args.world.now) (in_code.so_far c.args.json (g.O.Sink.content c.deliver.new.output) c.deliver.new.world) r) c.from_residual.ensures.1
    (lemmas.delivery_stops (in_code.so_far c.args.json (g.O.Sink.content c.packets.output) c.packets.world) (in_code.so_far c.args.json (g.O.Sink.content c.deliver.new.output) c.deliver.new.world) c.in-Some.number (Err c.in_err-deliver.field-0.0) (in_code.so_far c.args.json (g.O.Sink.content c.args.output.now) c.args.world.now) line (c.packets.invariant.leads tells)
    (sym c.flush_next.ensures ∙ c.in-Some.is) tt (c.in_err-deliver.ensures.makes (c.packets.invariant.telling tells)))
