-- The queries so far are answered.
use Rattle.std.proofs.Common.{◌≡◌, ◌++◌, map}
use Rattle.spec_server.specs.ServerStep as server_steps
use Rattle.server_parts.proofs.answers.answer_queries.Given as goal

abbrev pub invariant-queries : goal.invariant-queries
invariant-queries l = l.packets ≡ l.initial.packets ++ map (server_steps.query_answer l.raft l.state.sessions) l.yielded
