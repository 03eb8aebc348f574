-- Numbers ascend: none below the first is found, and one that stands at an index stands there alone.
use Rattle.std.proofs.Common.{◌-◌, ◌<◌, length, rules}
use Rattle.cli_sequencer.proofs.Found.{position_below_first, position_at}
use Rattle.cli_sequencer.proofs.unanswered.index_of.Goals as goal

pub returns-then-number-first : goal.returns-then-number-first
returns-then-number-first c =
    position_below_first c.args.number c.number-first.result c.args.calls.now.items c.in_ok-front.field-0.now c.requires c.in_ok-front.ensures.lookup
    c.number-first.ensures c.if-number-first.true

pub returns-in-Some : goal.returns-in-Some
returns-in-Some c =
    let within : c.args.number - c.number-first.result < length c.args.calls.now.items = search rules in
    position_at c.args.number c.number.result c.args.calls.now.items (c.args.number - c.number-first.result) c.in-Some.call.now c.requires within
    c.in-Some.ensures.lookup c.number.ensures c.if-number.true
