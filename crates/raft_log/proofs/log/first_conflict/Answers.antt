use Rattle.std.proofs.Common.{refl}
use Rattle.raft_log.proofs.Ranges.{no_more}
use Rattle.raft_log.proofs.log.first_conflict.Goals as goal

pub returns : goal.returns
returns c =
    no_more c.args.prev c.pairs.i c.min-i-end.result c.args.prev c.args.entries.now c.args.entries.now c.args.sent.now
    refl
    c.min-i-end.ensures
    c.pairs-test.false
    c.pairs.invariant
