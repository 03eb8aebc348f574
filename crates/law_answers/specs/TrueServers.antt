-- A server whose answers are true: its session state is that of a beginning of the committed entries, and the queries that wait in
-- it were called. `items` has the last first.
use Rattle.std.specs.Prelude.{◌≡◌, ◌≤◌, ℕ, false, Some, List, [], ◌∷◌, ◌++◌, length, take}
use Rattle.std.specs.List.{AllByRecursion}
use Rattle.ax_types.specs.declared.entries.Entry.{Entry}
use Rattle.ax_types.specs.declared.items.Item.{Item}
use Rattle.ax_types.specs.declared.items.Item.TheVariants as item
use Rattle.ax_types.specs.declared.ops.Level.{Level}
use Rattle.ax_types.specs.declared.ops.Query.{Query}
use Rattle.ax_types.specs.declared.ops.WindowCall.TheVariants as call
use Rattle.ax_types.specs.declared.sessions.Held.{Held}
use Rattle.spec_claims.specs.Transcript as transcripts
use Rattle.spec_claims.specs.Payloads as payloads
use Rattle.spec_node.specs.Node as raft_nodes
use Rattle.spec_sessions.specs.Sessions as sessions
use Rattle.spec_server.specs.Gates as gates
use Rattle.spec_server.specs.ServerStep as server_steps
use Rattle.spec_server.specs.Servers as servers
use Rattle.law_sessions.specs.Folds as folds

-- a session called the query, behind at most so many commands
pub record IsQueried (items : List Item) (s n : ℕ) (l : Level) (seq : ℕ) (name : List ℕ) (q : Query) : Type 0 where
  pub called : transcripts.StandsIn (item.Called s n (call.Query l name q)) items
  pub behind : transcripts.commands_below s n items ≤ seq

-- a query that the gate holds; a linearizable one waits for a place that is at least each commit above its arrival at a leader
pub record IsHeldTrue (items : List Item) (h : Held) : Type 0 where
  pub queried : IsQueried items h.session h.call h.level h.seq h.name h.query
  pub reached : payloads.IsReachedAt h.level items h.session h.call h.place (server_steps.reach_term h.reach) (server_steps.reach_arrival h.reach)

-- the query of a read reached this node in this term
pub record IsReachedIn (items : List Item) (node term arrival s n : ℕ) : Type 0 where
  pub later : List Item
  pub earlier : List Item
  pub there : items ≡ later ++ item.Reach node term arrival s n ∷ earlier

pub record IsReadTrue (items : List Item) (n : raft_nodes.Node) (w : gates.WaitingQuery) : Type 0 where
  pub queried : IsQueried items w.held.session w.held.call w.held.level w.held.seq w.held.name w.held.query
  pub reach : w.held.reach ≡ Some (n.ballot.term, w.arrival)
  pub reached : IsReachedIn items n.ballot.me n.ballot.term w.arrival w.held.session w.held.call

-- a session state has applied so many of the committed entries
pub record IsAppliedOf (timeout : ℕ) (committed : List Entry) (s : sessions.Sessions) : Type 0 where
  pub within : s.applied ≤ length committed
  pub state : s ≡ folds.sessions_after timeout (take s.applied committed)

pub record IsTrueServer (timeout : ℕ) (items : List Item) (committed : List Entry) (s : servers.Server) : Type 0 where
  pub applied : IsAppliedOf timeout committed s.state
  pub gate : AllByRecursion (IsHeldTrue items) s.gate
  pub readings : AllByRecursion (IsReadTrue items s.raft) s.readings
  pub idle : servers.leads s ≡ false → s.readings ≡ []
