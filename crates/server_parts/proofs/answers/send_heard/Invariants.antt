-- The batches so far are sent.
use Rattle.std.proofs.Common.{◌≡◌, ◌++◌, map}
use Rattle.spec_server.specs.ServerStep as server_steps
use Rattle.server_parts.proofs.answers.send_heard.Given as goal

abbrev pub invariant-batches : goal.invariant-batches
invariant-batches l = l.packets ≡ l.initial.packets ++ map (λ b. server_steps.to_client l.raft l.client (server_steps.batch_payload l.session b)) l.yielded
