-- The stages are those of the definition.
use Rattle.server_parts.specs.StepAsks as asked
use Rattle.server_parts.proofs.Staged.{staged, given}
use Rattle.server_parts.proofs.parts.Parts.finish.Goals as goal

pub returns-clause-out : goal.returns-clause-out
returns-clause-out c =
    given c.args.self.now c.take_up.new.self c.catch_up.new.self c.hold.new.self c.let_go.new.self c.args.out (asked.asks_of c.args.asks) c.pass_on.new.packets
    c.catch_up.new.packets c.let_go.new.packets c.in_ok-acts.acts c.led_term.result c.in_ok-reach.reach c.in_ok-reach.ensures.after c.in_ok-acts.ensures.after c.in_ok-hold.ensures
    c.in_ok-let_go.ensures.after c.in_ok-pass_on.ensures c.in_ok-acts.ensures.packets c.in_ok-let_go.ensures.packets c.in_ok-acts.ensures.acts c.led_term.ensures c.in_ok-reach.ensures.reach

pub returns-clause-after : goal.returns-clause-after
returns-clause-after c =
    staged c.args.self.now c.take_up.new.self c.catch_up.new.self c.hold.new.self c.let_go.new.self c.args.out (asked.asks_of c.args.asks) c.in_ok-reach.ensures.after
    c.in_ok-acts.ensures.after c.in_ok-hold.ensures c.in_ok-let_go.ensures.after
