use Rattle.std.proofs.Common.{true, false, [], ◌∷◌, ◌++◌}
use Rattle.std.specs.Prelude.{Ok, Err}
use Rattle.spec_run.specs.Run as runs
use Rattle.script_run.specs.Carrying as carrying
use Rattle.script_run.specs.RunsInCode as in_code
use Rattle.script_run.proofs.Carrying as lemmas
use Rattle.script_run.proofs.lines.settle.Goals as goal

pub returns-then-not-branch-clause-carries : goal.returns-then-not-branch-clause-carries
returns-then-not-branch-clause-carries g c = λ tells line.
    lemmas.carried_stops line (runs.Deliver_all ∷ []) (in_code.beat_jobs c.args.node ++ in_code.beat_jobs c.args.node) (in_code.so_far c.args.json (g.O.Sink.content c.args.output.now) c.args.world.now) (in_code.so_far c.args.json (g.O.Sink.content c.deliver_all.new.output) c.deliver_all.new.world) c.in_ok-deliver_all.field-0
    c.if-not-branch.true (c.in_ok-deliver_all.ensures.carries tells line)

pub returns-then-not-branch-2-clause-carries : goal.returns-then-not-branch-2-clause-carries
returns-then-not-branch-2-clause-carries g c = λ tells line.
    lemmas.carried_then line (runs.Deliver_all ∷ []) (in_code.beat_jobs c.args.node ++ in_code.beat_jobs c.args.node) (in_code.so_far c.args.json (g.O.Sink.content c.args.output.now) c.args.world.now) (in_code.so_far c.args.json (g.O.Sink.content c.deliver_all.new.output) c.deliver_all.new.world) (in_code.so_far c.args.json (g.O.Sink.content c.beat_and_deliver.new.output) c.beat_and_deliver.new.world) c.in_ok-deliver_all.field-0 (Ok false)
    c.if-not-branch.false (c.in_ok-deliver_all.ensures.carries tells line)
    (lemmas.carried_stops line (in_code.beat_jobs c.args.node) (in_code.beat_jobs c.args.node) (in_code.so_far c.args.json (g.O.Sink.content c.deliver_all.new.output) c.deliver_all.new.world) (in_code.so_far c.args.json (g.O.Sink.content c.beat_and_deliver.new.output) c.beat_and_deliver.new.world) c.in_ok-beat_and_deliver.field-0
    c.if-not-branch-2.true (c.in_ok-beat_and_deliver.ensures.carries (c.in_ok-deliver_all.ensures.ready.telling tells) line))

pub returns-clause-carries : goal.returns-clause-carries
returns-clause-carries g c = λ tells line.
    let beats = in_code.beat_jobs c.args.node in
    let told = c.in_ok-deliver_all.ensures.ready.telling tells in
    lemmas.carried_then line (runs.Deliver_all ∷ []) (beats ++ beats) (in_code.so_far c.args.json (g.O.Sink.content c.args.output.now) c.args.world.now) (in_code.so_far c.args.json (g.O.Sink.content c.deliver_all.new.output) c.deliver_all.new.world) (in_code.so_far c.args.json (g.O.Sink.content c.beat_and_deliver-2.new.output) c.beat_and_deliver-2.new.world) c.in_ok-deliver_all.field-0 c.beat_and_deliver-2.result
    c.if-not-branch.false (c.in_ok-deliver_all.ensures.carries tells line)
    (lemmas.carried_then line beats beats (in_code.so_far c.args.json (g.O.Sink.content c.deliver_all.new.output) c.deliver_all.new.world) (in_code.so_far c.args.json (g.O.Sink.content c.beat_and_deliver.new.output) c.beat_and_deliver.new.world) (in_code.so_far c.args.json (g.O.Sink.content c.beat_and_deliver-2.new.output) c.beat_and_deliver-2.new.world) c.in_ok-beat_and_deliver.field-0 c.beat_and_deliver-2.result
    c.if-not-branch-2.false (c.in_ok-beat_and_deliver.ensures.carries told line) (c.beat_and_deliver-2.ensures.carries (c.in_ok-beat_and_deliver.ensures.ready.telling told) line))

pub returns-in_err-deliver_all-clause-carries : goal.returns-in_err-deliver_all-clause-carries
returns-in_err-deliver_all-clause-carries g c = λ tells line.
    lemmas.passes c.from_residual.result c.in_err-deliver_all.field-0.0 (λ r. carrying.Carries line (in_code.settle_jobs c.args.node) (in_code.so_far c.args.json (g.O.Sink.content c.args.output.now) c.args.world.now) (in_code.so_far c.args.json (g.O.Sink.content c.deliver_all.new.output) c.deliver_all.new.world) r) c.from_residual.ensures.1
    (lemmas.stops_there line (runs.Deliver_all ∷ []) (in_code.beat_jobs c.args.node ++ in_code.beat_jobs c.args.node) (in_code.so_far c.args.json (g.O.Sink.content c.args.output.now) c.args.world.now) (in_code.so_far c.args.json (g.O.Sink.content c.deliver_all.new.output) c.deliver_all.new.world) (Err c.in_err-deliver_all.field-0.0) tt
    (c.in_err-deliver_all.ensures.carries tells line))

pub returns-in_err-beat_and_deliver-clause-carries : goal.returns-in_err-beat_and_deliver-clause-carries
returns-in_err-beat_and_deliver-clause-carries g c = λ tells line.
    let beats = in_code.beat_jobs c.args.node in
    let e = c.in_err-beat_and_deliver.field-0.0 in
    lemmas.passes c.from_residual-in_err-beat_and_deliver.result e (λ r. carrying.Carries line (in_code.settle_jobs c.args.node) (in_code.so_far c.args.json (g.O.Sink.content c.args.output.now) c.args.world.now) (in_code.so_far c.args.json (g.O.Sink.content c.beat_and_deliver.new.output) c.beat_and_deliver.new.world) r) c.from_residual-in_err-beat_and_deliver.ensures.1
    (lemmas.carried_then line (runs.Deliver_all ∷ []) (beats ++ beats) (in_code.so_far c.args.json (g.O.Sink.content c.args.output.now) c.args.world.now) (in_code.so_far c.args.json (g.O.Sink.content c.deliver_all.new.output) c.deliver_all.new.world) (in_code.so_far c.args.json (g.O.Sink.content c.beat_and_deliver.new.output) c.beat_and_deliver.new.world) c.in_ok-deliver_all.field-0 (Err e)
    c.if-not-branch.false (c.in_ok-deliver_all.ensures.carries tells line)
    (lemmas.stops_there line beats beats (in_code.so_far c.args.json (g.O.Sink.content c.deliver_all.new.output) c.deliver_all.new.world) (in_code.so_far c.args.json (g.O.Sink.content c.beat_and_deliver.new.output) c.beat_and_deliver.new.world) (Err e) tt (c.in_err-beat_and_deliver.ensures.carries (c.in_ok-deliver_all.ensures.ready.telling tells) line)))
