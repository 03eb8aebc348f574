-- The new call has the greatest number.
use Rattle.std.proofs.Common.{None, sym, subst}
use Rattle.spec_sequencer.specs.Sequencers as sequencers
use Rattle.cli_sequencer.specs.Numbers as numbers
use Rattle.cli_sequencer.proofs.Found.{AreAscending_push}
use Rattle.cli_sequencer.proofs.sequencer.Sequencer.called.Goals as goal

pub invariant_of-self-2 : goal.invariant_of-self-2
invariant_of-self-2 c =
    let below : numbers.AreBelow c.args.call.number c.self.inside.calls.items =
    subst (λ (q : sequencers.Sequencer). numbers.AreBelow c.args.call.number q.calls) (sym c.self.view_is) c.requires.number in
    rw c.in_ok-push_back.ensures.items
    (AreAscending_push c.self.inside.calls.items (record { number = c.args.call.number; seq = c.args.call.seq; level = c.args.call.level; got = None })
    c.self.invariant below)
