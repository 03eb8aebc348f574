-- The new call has the greatest number.
use Rattle.std.proofs.Common.{ℕ, suc, sym, subst, ap, ◌∙◌}
use Rattle.spec_client.specs.Clients as clients
use Rattle.cli_sequencer.specs.Numbers as numbers
use Rattle.cli_session.specs.CountedClients as counted
use Rattle.cli_session.proofs.Numbers.{calls_below}
use Rattle.cli_session.proofs.parts.Parts.add_request.Goals as goal

pub called-requires-clause-number : goal.called-requires-clause-number
called-requires-clause-number c =
    subst (λ (k : ℕ). numbers.AreBelow k c.self.inside.sequencer.calls) (sym (ap (λ (r : clients.Request). r.number) c.request.view_is ∙ c.requires.number))
    (subst (λ (m : counted.MovedClient). numbers.AreBelow (suc c.args.self.now.client.calls) m.client.sequencer.calls) (sym c.self.view_is) (calls_below c.args.self.now.client c.requires.sound))
