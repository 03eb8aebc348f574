-- One more batch is sent.
use Rattle.server_parts.proofs.BatchesSent.{sent_further}
use Rattle.server_parts.proofs.answers.send_batches.Goals as goal

pub batches-preserved : goal.batches-preserved
batches-preserved c =
    sent_further c.args.raft.now c.args.connections.now c.args.packets.now c.batches.packets c.send_batch.new.packets c.batches.yielded c.in-Some.told c.batches.invariant
    c.in_ok-send_batch.ensures
