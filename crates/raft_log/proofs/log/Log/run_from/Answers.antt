use Rattle.std.proofs.Common.{◌∙◌}
use Rattle.raft_log.proofs.Ranges.{run_within}
use Rattle.raft_log.proofs.log.Log.run_from.Goals as goal

pub returns : goal.returns
returns c =
    c.from_vec.ensures
    ∙ c.in_ok-run.ensures
    ∙ run_within c.args.self.now c.as_slice.result.now c.args.place c.min-start.result c.min.result
    (c.as_slice.ensures.value ∙ c.self.view_is)
    (cc)
    (cc)
