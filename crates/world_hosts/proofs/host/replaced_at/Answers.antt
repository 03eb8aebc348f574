use Rattle.std.proofs.Common.{ap, ◌∙◌, List}
use Rattle.ax_types.specs.declared.entries.Entry.{Entry}
use Rattle.world_hosts.specs.InConflict as conflicts
use Rattle.world_hosts.proofs.StepKeeps.{set_aside}
use Rattle.world_hosts.proofs.host.replaced_at.Goals as goal

pub returns : goal.returns
returns c =
    set_aside c.args.server.now.server c.args.input.now (record { term = c.term.result; vote = c.vote.result; cut_off = c.in_ok-in_conflict.field-0 }) c.term.ensures c.vote.ensures
    (c.in_ok-in_conflict.ensures ∙ ap (λ (log : List Entry). conflicts.tail_from log (conflicts.conflict_with log c.args.input.now)) c.log.ensures)
