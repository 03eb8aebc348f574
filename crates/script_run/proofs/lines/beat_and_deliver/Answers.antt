use Rattle.std.proofs.Common.{true, false, [], ◌∷◌}
use Rattle.std.specs.Prelude.{Ok, Err}
use Rattle.ax_types.specs.declared.steps.Step.TheVariants as step
use Rattle.spec_run.specs.Run as runs
use Rattle.script_run.specs.Carrying as carrying
use Rattle.script_run.specs.RunsInCode as in_code
use Rattle.script_run.proofs.Carrying as lemmas
use Rattle.script_run.proofs.lines.beat_and_deliver.Goals as goal

pub returns-then-not-branch-clause-carries : goal.returns-then-not-branch-clause-carries
returns-then-not-branch-clause-carries g c = λ tells line.
    lemmas.made_stops line (in_code.so_far c.args.json (g.O.Sink.content c.args.output.now) c.args.world.now) (in_code.so_far c.args.json (g.O.Sink.content c.beat.new.output) c.beat.new.world) (step.Beat c.args.node) (runs.Deliver_all ∷ []) (Ok false) tt
    (lemmas.told_full c.in_ok-beat.field-0 (λ w. carrying.Makes (in_code.so_far c.args.json (g.O.Sink.content c.args.output.now) c.args.world.now) (step.Beat c.args.node) (in_code.so_far c.args.json (g.O.Sink.content c.beat.new.output) c.beat.new.world) (Ok w)) c.if-not-branch.true (c.in_ok-beat.ensures.makes tells))

pub returns-clause-carries : goal.returns-clause-carries
returns-clause-carries g c = λ tells line.
    lemmas.made_then line (in_code.so_far c.args.json (g.O.Sink.content c.args.output.now) c.args.world.now) (in_code.so_far c.args.json (g.O.Sink.content c.beat.new.output) c.beat.new.world) (in_code.so_far c.args.json (g.O.Sink.content c.deliver_all.new.output) c.deliver_all.new.world) (step.Beat c.args.node) (runs.Deliver_all ∷ []) c.in_ok-beat.field-0 c.deliver_all.result
    c.if-not-branch.false (c.in_ok-beat.ensures.makes tells) (c.deliver_all.ensures.carries (c.in_ok-beat.ensures.ready.telling tells) line)

pub returns-in_err-beat-clause-carries : goal.returns-in_err-beat-clause-carries
returns-in_err-beat-clause-carries g c = λ tells line.
    lemmas.passes c.from_residual.result c.in_err-beat.field-0.0 (λ r. carrying.Carries line (in_code.beat_jobs c.args.node) (in_code.so_far c.args.json (g.O.Sink.content c.args.output.now) c.args.world.now) (in_code.so_far c.args.json (g.O.Sink.content c.beat.new.output) c.beat.new.world) r) c.from_residual.ensures.1
    (lemmas.made_stops line (in_code.so_far c.args.json (g.O.Sink.content c.args.output.now) c.args.world.now) (in_code.so_far c.args.json (g.O.Sink.content c.beat.new.output) c.beat.new.world) (step.Beat c.args.node) (runs.Deliver_all ∷ []) (Err c.in_err-beat.field-0.0) tt (c.in_err-beat.ensures.makes tells))
