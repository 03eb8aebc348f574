use Rattle.law_faithful.proofs.Runs.{runs_are_faithful}
use Rattle.spec_run.specs.Run as runs
use Rattle.law_handed.proofs.Replies.{hand_once}
use Rattle.law_handed.proofs.runs_hand_once.Goals as goal

pub returns : goal.returns
returns c = λ nodes clients timeout steps.
    let r : runs.Ran = runs.run nodes clients timeout steps in
    hand_once timeout r.shown r.world.history (runs_are_faithful nodes clients timeout steps)
