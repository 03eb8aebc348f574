use Rattle.server_node.proofs.server.ServerNode.elect.Goals as goal

pub returns-clause-out : goal.returns-clause-out
returns-clause-out c = rw (← c.self.view_is) c.in_ok-out.ensures.out
