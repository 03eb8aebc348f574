use Rattle.std.proofs.Common.{sym, subst}
use Rattle.spec_run.specs.Run as runs
use Rattle.script_run.specs.Carrying as carrying
use Rattle.script_run.specs.RunsInCode as in_code
use Rattle.script_run.proofs.Carrying as lemmas
use Rattle.script_run.proofs.lines.run_line.Goals as goal

pub returns-in-Do-clause-carries : goal.returns-in-Do-clause-carries
returns-in-Do-clause-carries g c = λ tells line.
    subst (λ l. carrying.Carries line (runs.jobs_of l) (in_code.so_far c.args.json (g.O.Sink.content c.args.output.now) c.args.world.now) (in_code.so_far c.args.json (g.O.Sink.content c.make.new.output) c.make.new.world) c.make.result) (sym c.in-Do.is)
    (lemmas.makes line (in_code.so_far c.args.json (g.O.Sink.content c.args.output.now) c.args.world.now) (in_code.so_far c.args.json (g.O.Sink.content c.make.new.output) c.make.new.world) c.in-Do.step c.make.result (c.make.ensures.makes tells))
