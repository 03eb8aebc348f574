-- What was there at first, and then the answers so far.
use Rattle.std.proofs.Common.{◌≡◌, ◌++◌}
use Rattle.cli_session.specs.GivingOut as giving
use Rattle.cli_session.proofs.answers.give_out.Given as goal

abbrev pub invariant-answers : goal.invariant-answers
invariant-answers l = (l.items.items ≡ l.initial.items.items ++ giving.given_out l.session l.yielded l.initial.requests.items)
    × (l.requests.items ≡ giving.requests_after l.yielded l.initial.requests.items)
