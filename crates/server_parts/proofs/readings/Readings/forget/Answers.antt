-- What is not given stays.
use Rattle.std.proofs.Common.{rules, ap, ◌∙◌, List}
use Rattle.std.specs.Prelude.{not, filter}
use Rattle.std.proofs.lemmas.Fn.{filter_same}
use Rattle.spec_server.specs.Gates as gates
use Rattle.server_parts.proofs.ReadsGiven.{none_given}
use Rattle.server_parts.proofs.readings.Readings.forget.Goals as goal

pub returns-then-not-is_empty : goal.returns-then-not-is_empty
returns-then-not-is_empty c =
    filter_same _ (λ (w : gates.WaitingQuery). not (gates.is_given c.args.reads.now w.arrival)) _ (λ x b f' k. search rules) _ _ c.retain.ensures.filtered
    ∙ ap (λ (ws : List gates.WaitingQuery). filter (λ (w : gates.WaitingQuery). not (gates.is_given c.args.reads.now w.arrival)) ws) c.self.view_is

pub returns-else-not-is_empty : goal.returns-else-not-is_empty
returns-else-not-is_empty c = none_given c.args.self.now c.args.reads.now c.if-not-is_empty.ensures
