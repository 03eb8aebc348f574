use Rattle.raft_node.proofs.Rest.{popped_node}
use Rattle.raft_node.proofs.others.Others.pop.Goals as goal

pub returns-clause-some : goal.returns-clause-some
returns-clause-some c = popped_node c.new.result _ c.self.inside.me c.self.inside.nodes c.self.inside.next c.next_other-number.result c.args.self.now c.self.view_is c.next_other-number.ensures c.if-number-self.false c.new.ensures
