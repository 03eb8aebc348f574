-- The parts fit together with one more number used up.
use Rattle.std.proofs.Common.{◌+◌, ◌<◌, ◌^◌, sym, subst}
use Rattle.cli_session.specs.Numbered as numbered
use Rattle.cli_session.specs.CountedClients as counted
use Rattle.cli_session.proofs.Sound.{kept_unsent}
use Rattle.cli_session.proofs.client.Client.unsent.Goals as goal

pub invariant_of-self : goal.invariant_of-self
invariant_of-self c =
    let room : c.self.inside.calls < 2 ^ 32 = subst (λ (s : counted.CountedClient). s.calls < 2 ^ 32) (sym c.self.view_is) c.requires.room in
    subst (λ (m : counted.MovedClient). numbered.FitTogether m (c.self.inside.calls + 1) c.self.inside.is_spent) (sym c.unsent-number.ensures.after)
    (kept_unsent c.self.inside.parts c.self.inside.calls c.self.inside.is_spent room c.self.invariant)
