-- The parts fit together after a payload.
use Rattle.std.proofs.Common.{◌≡◌, ◌<◌, ◌^◌, false, sym, subst}
use Rattle.cli_session.specs.CountedClients as counted
use Rattle.cli_session.proofs.Sound.{kept_received}
use Rattle.cli_session.proofs.client.Client.receive.Goals as goal

pub invariant_of-self-2 : goal.invariant_of-self-2
invariant_of-self-2 c =
    let room : c.self.inside.calls < 2 ^ 32 = subst (λ (s : counted.CountedClient). s.calls < 2 ^ 32) (sym c.self.view_is) c.requires.room in
    let whole : c.self.inside.is_spent ≡ false = subst (λ (s : counted.CountedClient). s.is_spent ≡ false) (sym c.self.view_is) c.requires.whole in
    kept_received c.self.inside.parts c.receive.new.self c.args.from c.args.payload.now c.self.inside.calls c.self.inside.is_spent room whole c.self.invariant
    c.in_ok-out.ensures.after c.receive.ensures.moves
