-- What an input asks beside its part for the Raft node, and what a step makes of it once the Raft node has stepped.
use Rattle.std.specs.Prelude.{Option, Some, None, List, [], ◌∷◌, ◌++◌}
use Rattle.std.specs.Option.{option_map}
use Rattle.ax_types.specs.declared.ops.Level.{Level}
use Rattle.ax_types.specs.declared.ops.Level.TheVariants as level
use Rattle.ax_types.specs.declared.raft.RaftInput.TheVariants as input
use Rattle.ax_types.specs.declared.raft.Out.{Out}
use Rattle.ax_types.specs.declared.sessions.Held.{Held}
use Rattle.ax_types.specs.declared.sessions.ServerOut.{ServerOut}
use Rattle.spec_server.specs.Gates as gates
use Rattle.spec_server.specs.Servers as servers
use Rattle.spec_server.specs.ServerStep as server_steps
use Rattle.server_parts.specs.declared.requests.Hearing.{Hearing}
use Rattle.server_parts.specs.declared.requests.Asks.{Asks}

abbrev pub listed : {A : Type 0} → Option A → List A
listed None = []
listed (Some x) = x ∷ []

abbrev pub hearing_of : Hearing → servers.Hearing
hearing_of h = record { client = h.client; session = h.session; heard = h.heard }

-- the task without its input of the Raft node
abbrev pub asks_of : Asks → servers.Task
asks_of a = record {
  input = None;
  passed = listed a.passed;
  held = listed a.held;
  read = a.read;
  connect = option_map hearing_of a.connect;
  hearing = option_map hearing_of a.hearing;
}

abbrev pub no_asks : servers.Task
no_asks = servers.no_task

-- a step behind that of the Raft node, which gave this
abbrev pub stage_behind : servers.Server → Out → servers.Task → server_steps.Stage
stage_behind s o t = let cs = server_steps.with_connection s.connections t.connect in
    let readings = server_steps.with_reading s.readings s.raft.ballot.term t.read o.reached in
    record {
      raft = s.raft;
      out = o;
      connections = cs;
      progress = server_steps.applying_all s.raft cs s.state (server_steps.to_apply s.raft s.state);
      readings = server_steps.readings_after s.raft readings o.reads;
      gate = gates.with_all_held s.gate (t.held ++ gates.ready_held readings o.reads);
    }

abbrev pub query_task_at : Held → Level → servers.Task
query_task_at h level.Seq = record servers.no_task { held = h ∷ [] }
query_task_at h level.Lin = record (servers.raft_task input.Read) { read = Some h }

-- the task of a query that is not passed on
abbrev pub query_task : Held → servers.Task
query_task h = query_task_at h h.level

-- what a step gives for a task, and the server after it
abbrev pub out_for : servers.Server → servers.Task → ServerOut
out_for s t = server_steps.out_at (server_steps.stage s t) t

abbrev pub after_for : servers.Server → servers.Task → servers.Server
after_for s t = server_steps.server_at (server_steps.stage s t)
