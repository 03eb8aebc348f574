use Rattle.raft_vote.proofs.Voted.{none_voted}
use Rattle.raft_vote.proofs.ballot.Ballot.see.Goals as goal

pub invariant_of-self : goal.invariant_of-self
invariant_of-self c = none_voted c.self.inside.me c.self.inside.nodes _ c.self.invariant.member c.self.invariant.within
