-- What a server passes on: to and from its Raft node, to the leader, and into the log.
use Rattle.std.specs.Prelude.{◌≡◌, ℕ, Option, Some, None, List, ◌++◌}
use Rattle.std.specs.List.{AllByRecursion}
use Rattle.ax_types.specs.declared.entries.Body.{Body}
use Rattle.ax_types.specs.declared.entries.Body.TheVariants as body
use Rattle.ax_types.specs.declared.ids.End.{End}
use Rattle.ax_types.specs.declared.ids.End.TheVariants as end
use Rattle.ax_types.specs.declared.packets.Packet.{Packet}
use Rattle.ax_types.specs.declared.packets.Payload.{Payload}
use Rattle.ax_types.specs.declared.packets.Payload.TheVariants as payload
use Rattle.ax_types.specs.declared.raft.RaftInput.{RaftInput}
use Rattle.ax_types.specs.declared.raft.RaftInput.TheVariants as raft_input
use Rattle.ax_types.specs.declared.sessions.ServerInput.{ServerInput}
use Rattle.ax_types.specs.declared.sessions.ServerInput.TheVariants as input
use Rattle.spec_server.specs.Servers as servers
use Rattle.spec_server.specs.ServerStep as server_steps

abbrev pub IsToNode : End → Type 0
IsToNode (end.Node k) = Unit {0}
IsToNode (end.Client c) = ⊥

abbrev pub IsToClient : End → Type 0
IsToClient (end.Node k) = ⊥
IsToClient (end.Client c) = Unit {0}

-- the payload of an input
abbrev pub payload_brought : ServerInput → Option Payload
payload_brought (input.Packet clock p) = Some p.payload
payload_brought _ = None

-- the Raft node takes its input, and what it keeps and sends goes out unchanged; besides that go the request itself, to another
-- node, and what clients are told
pub record PassesOn (s : servers.Server) (i : ServerInput) : Type 0 where
  pub raft : (server_steps.server_after s i).raft ≡ server_steps.raft_after s.raft (servers.task s i).input
  pub saves : (server_steps.server_out s i).saves ≡ (server_steps.raft_out s.raft (servers.task s i).input).saves
  pub passed : List Packet
  pub told : List Packet
  pub packets : (server_steps.server_out s i).packets ≡ (server_steps.raft_out s.raft (servers.task s i).input).packets ++ (passed ++ told)
  pub raft_sends : AllByRecursion (λ p. IsToNode p.to) (server_steps.raft_out s.raft (servers.task s i).input).packets
  pub requests : AllByRecursion (λ p. IsToNode p.to × (Some p.payload ≡ payload_brought i)) passed
  pub clients : AllByRecursion (λ p. IsToClient p.to) told

abbrev pub ServersPassOn : Type 0
ServersPassOn = (s : servers.Server) (i : ServerInput) → PassesOn s i

-- the body that a request asks to append
abbrev pub body_of : Payload → Option Body
body_of (payload.Register c o) = Some (body.Register c o)
body_of (payload.Keep c session answered heard) = Some (body.Keep c session answered heard)
body_of (payload.Command c session seq name o) = Some (body.Command c session seq name o)
body_of (payload.Close c session) = Some (body.Close c session)
body_of _ = None

-- the body of the request that came, or the end of a session
abbrev pub IsRequestOf : ServerInput → Body → Type 0
IsRequestOf (input.Packet clock p) b = body_of p.payload ≡ Some b
IsRequestOf (input.Check clock) b = (session : ℕ) × (b ≡ body.Expire session)
IsRequestOf i b = ⊥

abbrev pub AppendsOf : ServerInput → Option RaftInput → Type 0
AppendsOf i (Some (raft_input.Append clock bodies)) = AllByRecursion (IsRequestOf i) bodies
AppendsOf i _ = Unit {0}

abbrev pub ServersAppendRequests : Type 0
ServersAppendRequests = (s : servers.Server) (i : ServerInput) → AppendsOf i (servers.task s i).input
