-- What the sink took of a report, by where its writing ended.
use Rattle.std.proofs.Common.{string_bytes, ap, sym, ◌∙◌, subst}
use Rattle.ax_io.specs.Content as ax_io_content
use Rattle.world_hosts.specs.StoresMatch as matching
use Rattle.script_run.specs.Carrying as carrying
use Rattle.script_report.proofs.Streamed as lemmas
use Rattle.script_report.proofs.report.report_of_script.Goals as goal

pub returns-in_err-put_head-clause-writes : goal.returns-in_err-put_head-clause-writes
returns-in_err-put_head-clause-writes g c = λ tells.
    lemmas.head_breaks c.args.json c.args.script.now (matching.store_states_of g.S.NodeStore.told g.S.NodeStore.needs_load c.args.stores.now.items) (g.O.Sink.content c.args.output.now) (g.O.Sink.content c.put_head.new.output)
    c.from_residual.result c.requires.stores tells c.in_err-put_head.ensures.text c.in_err-put_head.ensures.failed c.from_residual.ensures.1

pub returns-in_err-ran-clause-writes : goal.returns-in_err-ran-clause-writes
returns-in_err-ran-clause-writes g c = λ tells.
    lemmas.run_breaks c.args.json c.args.script.now (matching.store_states_of g.S.NodeStore.told g.S.NodeStore.needs_load c.run_script.new.stores.items) (g.O.Sink.content c.args.output.now) (g.O.Sink.content c.put_head.new.output) (g.O.Sink.content c.run_script.new.output)
    c.in_err-ran.field-0.0 c.from_residual-in_err-ran.result c.in_ok-put_head.ensures.ok (c.in_err-ran.ensures.leaves tells) c.from_residual-in_err-ran.ensures.1

pub returns-in_err-rest-clause-writes : goal.returns-in_err-rest-clause-writes
returns-in_err-rest-clause-writes g c = λ tells.
    lemmas.rest_breaks c.args.json c.args.script.now (matching.store_states_of g.S.NodeStore.told g.S.NodeStore.needs_load c.run_script.new.stores.items) (g.O.Sink.content c.args.output.now) (g.O.Sink.content c.put_head.new.output) (g.O.Sink.content c.run_script.new.output)
    c.in_ok-ran.ran c.from_residual-in_err-rest.result c.in_ok-put_head.ensures.ok (c.in_ok-ran.ensures.leaves tells) c.from_residual-in_err-rest.ensures.1

pub returns-in_err-put-clause-writes : goal.returns-in_err-put-clause-writes
returns-in_err-put-clause-writes g c = λ tells.
    let leaves = c.in_ok-ran.ensures.leaves tells in
    lemmas.end_breaks c.args.json c.args.script.now (matching.store_states_of g.S.NodeStore.told g.S.NodeStore.needs_load c.run_script.new.stores.items) (g.O.Sink.content c.args.output.now) (g.O.Sink.content c.put_head.new.output) (g.O.Sink.content c.run_script.new.output) (g.O.Sink.content c.put.new.self)
    c.in_ok-ran.ran (string_bytes c.in_ok-rest.rest) c.from_residual-in_err-put.result c.in_ok-put_head.ensures.ok leaves c.in_ok-rest.ensures.text
    (subst (ax_io_content.TakesFront (g.O.Sink.content c.run_script.new.output) (g.O.Sink.content c.put.new.self)) c.as_bytes.ensures.value c.in_err-put.ensures.failed)
    (c.in_ok-rest.ensures.fits (subst (carrying.Fit c.args.json) (sym leaves.items) leaves.fits)) c.from_residual-in_err-put.ensures.1

pub returns-clause-writes : goal.returns-clause-writes
returns-clause-writes g c = λ tells.
    let leaves = c.in_ok-ran.ensures.leaves tells in
    lemmas.all_written c.args.json c.args.script.now (matching.store_states_of g.S.NodeStore.told g.S.NodeStore.needs_load c.run_script.new.stores.items) (g.O.Sink.content c.args.output.now) (g.O.Sink.content c.put_head.new.output) (g.O.Sink.content c.run_script.new.output) (g.O.Sink.content c.put.new.self)
    c.in_ok-ran.ran (string_bytes c.in_ok-rest.rest) c.in_ok-put_head.ensures.ok leaves c.in_ok-rest.ensures.text
    (c.in_ok-put.ensures.ok ∙ ap (ax_io_content.append_told (g.O.Sink.content c.run_script.new.output)) c.as_bytes.ensures.value)
    (c.in_ok-rest.ensures.fits (subst (carrying.Fit c.args.json) (sym leaves.items) leaves.fits))
