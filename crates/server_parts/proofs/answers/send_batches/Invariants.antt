-- The batches so far are sent.
use Rattle.std.proofs.Common.{◌≡◌, ◌++◌}
use Rattle.spec_server.specs.ServerStep as server_steps
use Rattle.server_parts.proofs.answers.send_batches.Given as goal

abbrev pub invariant-batches : goal.invariant-batches
invariant-batches l = l.packets ≡ l.initial.packets ++ server_steps.batches_to l.raft l.connections l.yielded
