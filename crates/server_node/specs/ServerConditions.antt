-- When a server may be given an input.
use Rattle.std.specs.Prelude.{◌≡◌, ◌≢◌, ◌-◌, ◌^◌, ◌<◌, ◌≤◌, Bool, true, false}
use Rattle.ax_types.specs.declared.ids.End.{End}
use Rattle.ax_types.specs.declared.ids.End.TheVariants as end
use Rattle.ax_types.specs.declared.ops.Level.{Level}
use Rattle.ax_types.specs.declared.ops.Level.TheVariants as level
use Rattle.ax_types.specs.declared.packets.Payload.{Payload}
use Rattle.ax_types.specs.declared.packets.Payload.TheVariants as payload
use Rattle.ax_types.specs.declared.sessions.ServerInput.{ServerInput}
use Rattle.ax_types.specs.declared.sessions.ServerInput.TheVariants as asks
use Rattle.spec_server.specs.Servers as servers

-- a packet of Raft comes from another node of the cluster
abbrev pub IsOther : servers.Server → End → Type 0
IsOther s (end.Node k) = (k ≢ s.raft.ballot.me) × (k ≤ s.raft.ballot.nodes)
IsOther s (end.Client c) = Unit {0}

abbrev pub ComesFrom : servers.Server → End → Payload → Type 0
ComesFrom s «from» (payload.Vote term last last_term) = IsOther s «from»
ComesFrom s «from» (payload.VoteReply term given) = IsOther s «from»
ComesFrom s «from» (payload.Append term prev prev_term commit round entries) = IsOther s «from»
ComesFrom s «from» (payload.AppendReply term ok place round) = IsOther s «from»
ComesFrom s «from» _ = Unit {0}

-- a leader stands for no election, and only a leader beats and checks
abbrev pub MayStep : servers.Server → ServerInput → Type 0
MayStep s (asks.Elect clock) = (servers.leads s ≡ false) × (s.raft.ballot.term < 2 ^ 64 - 1)
MayStep s (asks.Beat clock) = servers.leads s ≡ true
MayStep s (asks.Check clock) = servers.leads s ≡ true
MayStep s (asks.Packet clock p) = ComesFrom s p.«from» p.payload

-- what only a leader carries out: what goes through the log, and linearizable queries
abbrev pub needs_leader_at : Level → Bool
needs_leader_at level.Seq = false
needs_leader_at level.Lin = true

abbrev pub needs_leader : Payload → Bool
needs_leader (payload.Register c opening) = true
needs_leader (payload.Keep c session answered heard) = true
needs_leader (payload.Command c session seq name o) = true
needs_leader (payload.Close c session) = true
needs_leader (payload.Query c session call l seen seq name q) = needs_leader_at l
needs_leader _ = false
