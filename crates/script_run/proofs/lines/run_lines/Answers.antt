use Rattle.std.proofs.Common.{◌∙◌, arith}
use Rattle.script_run.specs.RunsInCode as in_code
use Rattle.script_run.proofs.Carrying as lemmas
use Rattle.script_run.proofs.lines.run_lines.Goals as goal

pub returns-then-not-branch-clause-runs : goal.returns-then-not-branch-clause-runs
returns-then-not-branch-clause-runs g c = λ tells.
    lemmas.line_ends c.args.lines.now c.lines.entry-index c.entry-item.result (in_code.so_far c.args.json (g.O.Sink.content c.args.output.now) c.args.world.now) (in_code.so_far c.args.json (g.O.Sink.content c.lines.output) c.lines.world) (in_code.so_far c.args.json (g.O.Sink.content c.run_line.new.output) c.run_line.new.world) c.in_ok-run_line.field-0
    (search c.lines-test.true) c.entry-item.is (c.lines.invariant.runs tells) c.if-not-branch.true (c.in_ok-run_line.ensures.carries (c.lines.invariant.telling tells) c.entry-item.result.0)

pub lines-preserved : goal.lines-preserved
lines-preserved g c = record {
  ready = c.in_ok-run_line.ensures.ready.ready;
  telling = λ tells. c.in_ok-run_line.ensures.ready.telling (c.lines.invariant.telling tells);
  runs = λ tells.
      lemmas.line_leads c.args.lines.now c.lines.entry-index c.entry-item.result (in_code.so_far c.args.json (g.O.Sink.content c.args.output.now) c.args.world.now) (in_code.so_far c.args.json (g.O.Sink.content c.lines.output) c.lines.world) (in_code.so_far c.args.json (g.O.Sink.content c.run_line.new.output) c.run_line.new.world) c.in_ok-run_line.field-0
      (search c.lines-test.true) c.entry-item.is (c.lines.invariant.runs tells) c.if-not-branch.false (c.in_ok-run_line.ensures.carries (c.lines.invariant.telling tells) c.entry-item.result.0);
  count = c.in_ok-run_line.ensures.sink.count ∙ c.lines.invariant.count;
  silent = λ json. c.in_ok-run_line.ensures.sink.silent json ∙ c.lines.invariant.silent json;
}

pub returns-clause-runs : goal.returns-clause-runs
returns-clause-runs g c = λ tells. lemmas.lines_end c.args.lines.now c.lines.entry-index (in_code.so_far c.args.json (g.O.Sink.content c.args.output.now) c.args.world.now) (in_code.so_far c.args.json (g.O.Sink.content c.lines.output) c.lines.world) (grind (arith, c.lines-test.false)) (c.lines.invariant.runs tells)

pub returns-in_err-run_line-clause-runs : goal.returns-in_err-run_line-clause-runs
returns-in_err-run_line-clause-runs g c = λ tells.
    lemmas.line_breaks c.args.lines.now c.lines.entry-index c.entry-item.result (in_code.so_far c.args.json (g.O.Sink.content c.args.output.now) c.args.world.now) (in_code.so_far c.args.json (g.O.Sink.content c.lines.output) c.lines.world) (in_code.so_far c.args.json (g.O.Sink.content c.run_line.new.output) c.run_line.new.world) c.in_err-run_line.field-0.0 c.from_residual.result
    (search c.lines-test.true) c.entry-item.is (c.lines.invariant.runs tells) c.from_residual.ensures.1 (c.in_err-run_line.ensures.carries (c.lines.invariant.telling tells) c.entry-item.result.0)
