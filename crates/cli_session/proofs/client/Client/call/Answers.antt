-- The parts fit together with one more command.
use Rattle.std.proofs.Common.{◌+◌, ◌<◌, ◌^◌, sym, subst}
use Rattle.cli_session.specs.Numbered as numbered
use Rattle.cli_session.specs.CountedClients as counted
use Rattle.cli_session.proofs.Sound.{kept_makes_call}
use Rattle.cli_session.proofs.client.Client.call.Goals as goal

pub invariant_of-self-2 : goal.invariant_of-self-2
invariant_of-self-2 c =
    let room : c.self.inside.calls < 2 ^ 32 = subst (λ (s : counted.CountedClient). s.calls < 2 ^ 32) (sym c.self.view_is) c.requires.room in
    subst (λ (m : counted.MovedClient). numbered.FitTogether m (c.self.inside.calls + 1) c.self.inside.is_spent) (sym c.in_ok-out.ensures.after)
    (kept_makes_call c.self.inside.parts c.args.name.now c.args.op.now c.self.inside.calls c.self.inside.is_spent room c.self.invariant)
