-- What was given out is all that the release gives out.
use Rattle.cli_sequencer.proofs.Released.{gives_first_all, again_by}
use Rattle.spec_sequencer.specs.Sequencers as sequencers
use Rattle.std.proofs.Common.{◌≡◌, refl, arith}
use Rattle.cli_sequencer.proofs.sequencer.Sequencer.release.Goals as goal

pub returns-clause-ok : goal.returns-clause-ok
returns-clause-ok c =
    let items : c.from_vec.result ≡ (sequencers.release_of c.args.self.now).items = grind (arith, gives_first_all c.args.self.now c.given.self c.given.items.items) in
    let again : c.ask_again-again.result ≡ (sequencers.release_of c.args.self.now).again = grind (arith, again_by c.args.self.now c.given.self c.given.items.items) in
    rw (items, again) refl
