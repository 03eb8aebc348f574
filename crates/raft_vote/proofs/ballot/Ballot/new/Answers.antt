use Rattle.raft_vote.proofs.Voted.{none_voted}
use Rattle.raft_vote.proofs.ballot.Ballot.new.Goals as goal

pub invariant_of-result : goal.invariant_of-result
invariant_of-result c = none_voted c.args.me c.args.nodes _ c.requires.member c.requires.within
