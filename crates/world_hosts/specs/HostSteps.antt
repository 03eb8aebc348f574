-- A step and a load of one node, in code.
use Rattle.std.specs.Prelude.{ℕ, ◌≡◌, ◌-◌, ◌^◌, ◌<◌, ◌≤◌, Bool, true, false, nat_lt, Option, Some, None, List, length, slice_get, if◌then◌else◌}
use Rattle.ax_types.specs.declared.entries.Entry.{Entry}
use Rattle.ax_types.specs.declared.entries.Loaded.{Loaded}
use Rattle.ax_types.specs.declared.raft.Saves.{Saves}
use Rattle.ax_types.specs.declared.sessions.ServerInput.{ServerInput}
use Rattle.ax_types.specs.declared.sessions.ServerInput.TheVariants as asks
use Rattle.ax_types.specs.declared.sessions.ServerOut.{ServerOut}
use Rattle.ax_types.specs.declared.steps.StepOutcome.{StepOutcome}
use Rattle.ax_types.specs.declared.steps.StepOutcome.TheVariants as outcome
use Rattle.store_journal.specs.StoreTold as stores
use Rattle.spec_node.specs.Node as raft_nodes
use Rattle.spec_node.specs.Saving as saving
use Rattle.spec_server.specs.Servers as servers
use Rattle.spec_server.specs.ServerStep as server_steps
use Rattle.spec_world.specs.Worlds as worlds
use Rattle.world_saves.specs.Replacing as replacing
use Rattle.world_saves.specs.declared.replaced.Replaced.{Replaced}
use Rattle.server_node.specs.ServerConditions as conditions
use Rattle.world_saves.specs.SaveChain as chains
use Rattle.world_saves.specs.declared.save_chain.SaveCall.{SaveCall}
use Rattle.world_hosts.specs.HostViews as views
use Rattle.world_hosts.specs.declared.host.Host.{Host}
use Rattle.world_hosts.specs.declared.host.Standing.{Standing}
use Rattle.world_hosts.specs.declared.host.Standing.TheVariants as standing
use Rattle.world_hosts.specs.declared.served.Served.{Served}
use Rattle.world_hosts.specs.declared.served.Served.TheVariants as serving

-- when a server may be given an input, whatever its term
abbrev pub FitsStep : servers.Server → ServerInput → Type 0
FitsStep s (asks.Elect clock) = servers.leads s ≡ false
FitsStep s (asks.Beat clock) = servers.leads s ≡ true
FitsStep s (asks.Check clock) = servers.leads s ≡ true
FitsStep s (asks.Packet clock p) = conditions.ComesFrom s p.«from» p.payload

abbrev pub MayBeServed : Standing → ServerInput → Type 0
MayBeServed (standing.Up s) i = (s.is_spent ≡ false) × FitsStep s.server i
MayBeServed (standing.Down kept es) i = ⊥

-- what a store tells that is to hold these, and some first ones of these entries
pub record HoldsWith (kept : Loaded) (es : List Entry) (content : Loaded) : Type 0 where
  pub added : ℕ
  pub within : added ≤ length es
  pub same : content ≡ saving.with_rest kept es added

abbrev pub HoldsStake : Loaded → List Entry → stores.Told → Type 0
HoldsStake kept es (stores.Content content) = HoldsWith kept es content
HoldsStake kept es _ = Unit {0}

pub record MatchesStore (s : Standing) (told : stores.Told) (needs_load : Bool) : Type 0 where
  pub content : HoldsStake (views.kept_for_sure s) (views.stake_of s) told
  pub loaded : views.stands_up s ≡ true → needs_load ≡ false

-- the server of a node that is up, and some server of one that is down
abbrev pub server_in : Standing → servers.Server
server_in s = views.server_of 0 0 0 s

-- a node that fell where the call after the first n failed
abbrev pub halted_host : Host → Loaded → List saving.Save → ℕ → Host
halted_host h kept calls n = record { clock = h.clock; standing = standing.Down (saving.kept_at_failure kept calls n) (saving.at_stake (slice_get calls n)) }

-- a node after a step of its server
abbrev pub served_host : Host → ServerInput → Host
served_host h i = record { clock = h.clock; standing = standing.Up (record { server = server_steps.server_after (server_in h.standing) i; is_spent = false }) }

abbrev pub ServesAs : Host → ServerInput → Host → Served → Type 0
ServesAs old i new (serving.Fine out) = (out ≡ server_steps.server_out (server_in old.standing) i) × (new ≡ served_host old i)
ServesAs old i new (serving.Failed saved) = let calls = saving.calls_of (server_steps.server_out (server_in old.standing) i).saves in
    (nat_lt saved (length calls) ≡ true) × (new ≡ halted_host old (views.kept_for_sure old.standing) calls saved)

-- a cut lies within a log
abbrev pub CutsLog : Option ℕ → List Entry → Type 0
CutsLog None log = Unit {0}
CutsLog (Some last) log = last ≤ length log

-- where a store call of a step failed its node falls
abbrev pub FallsAt : Host → Saves → Replaced → Host → SaveCall → Served → Type 0
FallsAt old saves r new call (serving.Fine out) = ⊥
FallsAt old saves r new call (serving.Failed saved) = (saved ≡ chains.saves_before call saves)
    × ((kept : Loaded) → replacing.LeadsTo kept saves r (views.kept_for_sure old.standing) → new ≡ halted_host old kept (saving.calls_of saves) (chains.saves_before call saves))

pub record Falls (old : Host) (saves : Saves) (r : Replaced) (new : Host) (before now : stores.Told) (served : Served) : Type 0 where
  pub call : SaveCall
  pub fails : chains.FailsAt saves call before now
  pub falls : FallsAt old saves r new call served

-- the saves of a step were kept, or one of its store calls failed
pub record KeepsAll (old : Host) (out : ServerOut) (new : Host) (before now : stores.Told) (needs_load : Bool) (answer : ServerOut) : Type 0 where
  pub given : answer ≡ out
  pub host : new ≡ old
  pub told : now ≡ chains.told_after before (saving.calls_of out.saves)
  pub loaded : needs_load ≡ false

abbrev pub KeepsOrFalls : Host → ServerOut → Replaced → Host → stores.Told → stores.Told → Bool → Served → Type 0
KeepsOrFalls old out r new before now needs_load (serving.Fine answer) = KeepsAll old out new before now needs_load answer
KeepsOrFalls old out r new before now needs_load (serving.Failed saved) = Falls old out.saves r new before now (serving.Failed saved)

-- what a step may replace is at hand, and it cuts within the log
pub record IsReplacedBy (s : servers.Server) (i : ServerInput) (r : Replaced) : Type 0 where
  pub leads : replacing.LeadsTo (raft_nodes.kept_of s.raft) (server_steps.server_out s i).saves r (raft_nodes.kept_of (server_steps.server_after s i).raft)
  pub within : CutsLog (server_steps.server_out s i).saves.cut s.raft.log

abbrev pub IsLastElection : servers.Server → ServerInput → Type 0
IsLastElection s (asks.Elect clock) = s.raft.ballot.term ≡ 2 ^ 64 - 1
IsLastElection s _ = ⊥

abbrev pub IsBelowLast : servers.Server → ServerInput → Type 0
IsBelowLast s (asks.Elect clock) = s.raft.ballot.term < 2 ^ 64 - 1
IsBelowLast s _ = Unit {0}

abbrev pub if_loadable : Loaded → Option Loaded
if_loadable content = if worlds.is_loadable content then Some content else None

-- what a load gives, by what the store tells
abbrev pub LoadGives : stores.Told → Option Loaded → Type 0
LoadGives (stores.Content content) None = Unit {0}
LoadGives (stores.Content content) (Some loaded) = (loaded ≡ content) × (worlds.is_loadable content ≡ true)
LoadGives (stores.Bad at) None = Unit {0}
LoadGives (stores.Bad at) (Some loaded) = ⊥
LoadGives stores.Untold loaded = Unit {0}

abbrev pub ReadyIfLoaded : Option Loaded → Bool → Type 0
ReadyIfLoaded None needs_load = Unit {0}
ReadyIfLoaded (Some loaded) needs_load = needs_load ≡ false

-- a load of node k of so many
abbrev pub loaded_host : ℕ → ℕ → ℕ → Host → Loaded → Host
loaded_host nodes timeout k h content = record { clock = h.clock; standing = standing.Up (record { server = servers.server_from k nodes timeout content; is_spent = false }) }

abbrev pub TellsContent : stores.Told → Standing → Loaded → ℕ → Type 0
TellsContent (stores.Content c) s content added = (added ≤ length (views.stake_of s)) × ((content ≡ saving.with_rest (views.kept_for_sure s) (views.stake_of s) added) × (worlds.is_loadable content ≡ true))
TellsContent (stores.Bad at) s content added = ⊥
TellsContent stores.Untold s content added = Unit {0}

-- where the store tells something, what was loaded is what the node keeps, with so many of the entries at stake
pub record LoadedAs (nodes timeout k : ℕ) (told : stores.Told) (old new : Host) (added : ℕ) : Type 0 where
  pub content : Loaded
  pub host : new ≡ loaded_host nodes timeout k old content
  pub same : TellsContent told old.standing content added

abbrev pub LoadsAs : ℕ → ℕ → ℕ → stores.Told → Host → Host → StepOutcome → Type 0
LoadsAs nodes timeout k told old new outcome.Fine = ⊥
LoadsAs nodes timeout k told old new (outcome.Failed saved) = (saved ≡ 0) × (new ≡ old)
LoadsAs nodes timeout k told old new (outcome.Loaded added) = LoadedAs nodes timeout k told old new added
