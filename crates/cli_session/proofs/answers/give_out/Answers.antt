-- One more answer goes to the first request that is left.
use Rattle.cli_session.proofs.Sent.{given_step}
use Rattle.cli_session.proofs.answers.give_out.Goals as goal

pub answers-preserved : goal.answers-preserved
answers-preserved c =
    given_step c.args.session c.reserve.new.self.items c.answers.items.items c.give_one.new.items.items c.answers.yielded c.in-Some.answer c.args.requests.now.items
    c.answers.requests.items c.give_one.new.requests.items c.answers.invariant.0 c.answers.invariant.1 c.in_ok-give_one.ensures.items c.in_ok-give_one.ensures.left
