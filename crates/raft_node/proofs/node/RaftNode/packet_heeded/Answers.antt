use Rattle.raft_node.proofs.node.RaftNode.packet_heeded.Goals as goal

pub returns-in-AppendReply-clause-did : goal.returns-in-AppendReply-clause-did
returns-in-AppendReply-clause-did c = rw (c.in-AppendReply.is, ← c.see-in-AppendReply.ensures) c.append_answered.ensures.did

pub returns-in-AppendReply-clause-after : goal.returns-in-AppendReply-clause-after
returns-in-AppendReply-clause-after c = rw (c.in-AppendReply.is, ← c.see-in-AppendReply.ensures) c.append_answered.ensures.after
