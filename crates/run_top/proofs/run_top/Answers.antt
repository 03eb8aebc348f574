-- What was written, and what it stands by, by how the run ended.
use Rattle.std.proofs.Common.{◌≡◌, map, string_bytes}
use Rattle.std.specs.Prelude.{Ok}
use Rattle.world_hosts.specs.StoresMatch as matching
use Rattle.script_report.specs.ReportForms as report_forms
use Rattle.run_top.specs.Answers as answers
use Rattle.run_top.specs.Outcomes as outcomes
use Rattle.run_top.proofs.HeadlineLemmas as lemmas
use Rattle.run_top.proofs.OpenedStores.{still_telling}
use Rattle.run_top.proofs.StreamedLemmas as streamed
use Rattle.run_top.proofs.run_top.Goals as goal

pub returns-in-Ok-report_of_script-clause-headline : goal.returns-in-Ok-report_of_script-clause-headline
returns-in-Ok-report_of_script-clause-headline g c = λ tells.
    let asked = answers.form_asked (map string_bytes c.args.words.now) in
    let states = matching.store_states_of g.S.NodeStore.told g.S.NodeStore.needs_load c.report_of_script.new.stores.items in
    let before = g.O.Sink.content c.args.output.now in
    let now = g.O.Sink.content c.report_of_script.new.output in
    let content = g.I.Source.content c.args.input.now in
    let script = c.in-Ok.request.script in
    let writes = c.in-Ok-report_of_script.ensures.writes (still_telling g.S.NodeStore.told g.S.NodeStore.needs_load c.args.stores.now.items c.read_request.new.stores.items c.in-Ok.ensures.told tells) in
    lemmas.ended_so c.ended.result c.in-Ok-report_of_script.end content
    (λ bytes. answers.judged (outcomes.input_bytes bytes) ≡ Ok script)
    (λ end bytes. outcomes.StandsBy asked (answers.judged (outcomes.input_bytes bytes)) states before now end)
    c.ended.ensures
    (λ bytes read. lemmas.stands_by c.in-Ok.request.json script asked (answers.judged (outcomes.input_bytes bytes)) states before now c.in-Ok-report_of_script.end c.in-Ok.ensures.within c.in-Ok.ensures.form read writes)
    c.in-Ok.ensures.read

pub returns-in-Ok-report_of_script-clause-written : goal.returns-in-Ok-report_of_script-clause-written
returns-in-Ok-report_of_script-clause-written g c = λ tells.
    let asked = answers.form_asked (map string_bytes c.args.words.now) in
    let states = matching.store_states_of g.S.NodeStore.told g.S.NodeStore.needs_load c.report_of_script.new.stores.items in
    let before = g.O.Sink.content c.args.output.now in
    let now = g.O.Sink.content c.report_of_script.new.output in
    let content = g.I.Source.content c.args.input.now in
    let script = c.in-Ok.request.script in
    let writes = c.in-Ok-report_of_script.ensures.writes (still_telling g.S.NodeStore.told g.S.NodeStore.needs_load c.args.stores.now.items c.read_request.new.stores.items c.in-Ok.ensures.told tells) in
    lemmas.ended_so c.ended.result c.in-Ok-report_of_script.end content
    (λ bytes. answers.judged (outcomes.input_bytes bytes) ≡ Ok script)
    (λ end bytes. outcomes.WritesReport asked (answers.judged (outcomes.input_bytes bytes)) states before now end)
    c.ended.ensures
    (λ bytes read. streamed.of_asked asked (answers.judged (outcomes.input_bytes bytes)) c.in-Ok.request.json script (λ json s. report_forms.WritesReport json s states before now c.in-Ok-report_of_script.end) c.in-Ok.ensures.form read writes)
    c.in-Ok.ensures.read

pub returns-in-Ok-report_of_script-clause-source : goal.returns-in-Ok-report_of_script-clause-source
returns-in-Ok-report_of_script-clause-source g c = streamed.ended_source c.in-Ok-report_of_script.end c.ended.result (g.I.Source.content c.args.input.now) (g.I.Source.content c.read_request.new.input) c.ended.ensures c.in-Ok.ensures.source

pub returns-clause-front : goal.returns-clause-front
returns-clause-front g c = λ is tells.
    let asked = answers.form_asked (map string_bytes c.args.words.now) in
    let states = matching.store_states_of g.S.NodeStore.told g.S.NodeStore.needs_load c.report_of_script.new.stores.items in
    let before = g.O.Sink.content c.args.output.now in
    let now = g.O.Sink.content c.report_of_script.new.output in
    let content = g.I.Source.content c.args.input.now in
    let script = c.in-Ok.request.script in
    streamed.fault_writes c.in-Err-report_of_script.why c.given_up.result c.in-Ok.request.json script asked content (λ bytes. answers.judged (outcomes.input_bytes bytes)) states before now
    c.given_up.ensures is c.in-Ok.ensures.form c.in-Ok.ensures.read (c.in-Err-report_of_script.ensures.writes (still_telling g.S.NodeStore.told g.S.NodeStore.needs_load c.args.stores.now.items c.read_request.new.stores.items c.in-Ok.ensures.told tells))

pub returns-clause-part : goal.returns-clause-part
returns-clause-part g c = λ is.
    let asked = answers.form_asked (map string_bytes c.args.words.now) in
    let states = matching.store_states_of g.S.NodeStore.told g.S.NodeStore.needs_load c.report_of_script.new.stores.items in
    let before = g.O.Sink.content c.args.output.now in
    let now = g.O.Sink.content c.report_of_script.new.output in
    let content = g.I.Source.content c.args.input.now in
    let script = c.in-Ok.request.script in
    streamed.left_writes _ c.in-Err-report_of_script.why c.given_up.result c.in-Ok.request.json script asked
    (outcomes.TellAlike g.S.NodeStore.told c.args.stores.now.items c.report_of_script.new.stores.items) (matching.AreTelling (matching.store_states_of g.S.NodeStore.told g.S.NodeStore.needs_load c.args.stores.now.items))
    content (λ bytes. answers.judged (outcomes.input_bytes bytes)) states c.args.output.now c.report_of_script.new.output before now
    c.given_up.ensures is c.in-Ok.ensures.form c.in-Ok.ensures.read c.in-Err-report_of_script.ensures.silent
    (λ tells. c.in-Err-report_of_script.ensures.writes (still_telling g.S.NodeStore.told g.S.NodeStore.needs_load c.args.stores.now.items c.read_request.new.stores.items c.in-Ok.ensures.told tells))

pub returns-clause-source : goal.returns-clause-source
returns-clause-source g c = streamed.left_source c.in-Err-report_of_script.why c.given_up.result (g.I.Source.content c.args.input.now) (g.I.Source.content c.read_request.new.input) c.given_up.ensures c.in-Ok.ensures.source
