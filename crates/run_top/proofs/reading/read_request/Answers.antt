-- What a request leaves of its source and of the stores, where its script is refused, where its stores are not opened, and where it is given.
use Rattle.std.proofs.Common.{ap, sym, ◌∙◌}
use Rattle.run_top.specs.Answers as answers
use Rattle.run_top.proofs.SourceLemmas.{refused_leaves_as, opening_leaves_as, taken_leaves}
use Rattle.run_top.proofs.OpenedStores.{opened_match}
use Rattle.run_top.proofs.reading.read_request.Goals as goal

pub returns-in_err-script-clause-source : goal.returns-in_err-script-clause-source
returns-in_err-script-clause-source g c =
    refused_leaves_as _ _ c.in_ok-bytes.bytes (answers.judged c.as_slice.result.now) c.in_err-script.field-0.0 c.from_residual-in_err-script.result
    c.in_ok-bytes.ensures.ok c.in_err-script.ensures.judged c.from_residual-in_err-script.ensures.1

pub returns-in_err-open_stores-clause-source : goal.returns-in_err-open_stores-clause-source
returns-in_err-open_stores-clause-source g c =
    opening_leaves_as _ _ c.in_ok-bytes.bytes c.in_ok-script.script c.in_err-open_stores.field-0.0 c.from_residual-in_err-open_stores.result
    c.in_ok-bytes.ensures.ok (ap answers.judged (sym c.as_slice.ensures) ∙ c.in_ok-script.ensures.judged) c.from_residual-in_err-open_stores.ensures.1

pub returns-clause-source : goal.returns-clause-source
returns-clause-source g c =
    taken_leaves _ _ c.in_ok-bytes.bytes c.in_ok-script.script c.in_ok-bytes.ensures.ok
    (ap answers.judged (sym c.as_slice.ensures) ∙ c.in_ok-script.ensures.judged)

pub returns-clause-opened : goal.returns-clause-opened
returns-clause-opened g c =
    opened_match g.S.NodeStore.told g.S.NodeStore.needs_load c.in_ok-script.script.nodes c.in_ok-script.script.clients c.in_ok-script.script.timeout c.args.stores.now.items c.open_stores.new.stores.items
    c.in_ok-open_stores.ensures.opened
