-- What a server tells clients in a step is true of the items and of the committed entries after it. `items` has the last first.
use Rattle.std.specs.Prelude.{◌≡◌, ◌≤◌, ℕ, false, Some, List, [], ◌∷◌, ◌++◌, length, take, reverse}
use Rattle.std.specs.List.{AllByRecursion}
use Rattle.ax_types.specs.declared.entries.Entry.{Entry}
use Rattle.ax_types.specs.declared.entries.Loaded.{Loaded}
use Rattle.ax_types.specs.declared.ids.End.{End}
use Rattle.ax_types.specs.declared.ids.End.TheVariants as end
use Rattle.ax_types.specs.declared.items.Item.{Item}
use Rattle.ax_types.specs.declared.items.Item.TheVariants as item
use Rattle.ax_types.specs.declared.packets.Packet.{Packet}
use Rattle.ax_types.specs.declared.packets.Payload.{Payload}
use Rattle.ax_types.specs.declared.packets.Payload.TheVariants as payload
use Rattle.ax_types.specs.declared.sessions.ServerInput.{ServerInput}
use Rattle.ax_types.specs.declared.sessions.ServerInput.TheVariants as input
use Rattle.spec_book.specs.History as histories
use Rattle.spec_claims.specs.Transcript as transcripts
use Rattle.spec_claims.specs.Payloads as payloads
use Rattle.spec_node.specs.Node as raft_nodes
use Rattle.spec_server.specs.Gates as gates
use Rattle.spec_server.specs.Servers as servers
use Rattle.spec_server.specs.ServerStep as server_steps
use Rattle.spec_run.specs.KeptStores as kept_stores
use Rattle.law_told.specs.Truth as truths
use Rattle.law_sessions.specs.Folds as folds
use Rattle.law_answers.specs.TrueServers as true_servers

-- what a packet tells a client is true
abbrev pub IsTrueTo : List Item → histories.History → End → Payload → Type 0
IsTrueTo items h (end.Node k) p = Unit {0}
IsTrueTo items h (end.Client c) p = payloads.IsTruePayload items h c p

abbrev pub AreTruePackets : List Item → histories.History → List Packet → Type 0
AreTruePackets items h packets = AllByRecursion (λ p. IsTrueTo items h p.to p.payload) packets

-- whatever node applies entries behind others, and whoever is connected to it: what it sends is true of the acts of all
pub record EntriesAnswerTruly (timeout : ℕ) (done es : List Entry) (items : List Item) (n : raft_nodes.Node) (cs : List gates.Connection) : Type 0 where
  pub state : (server_steps.applying_all n cs (folds.sessions_after timeout done) es).state ≡ folds.sessions_after timeout (done ++ es)
  pub acts : kept_stores.acts_of timeout (done ++ es) ≡ kept_stores.acts_of timeout done ++ (server_steps.applying_all n cs (folds.sessions_after timeout done) es).acts
  pub packets : AreTruePackets items (kept_stores.acts_of timeout (done ++ es)) (server_steps.applying_all n cs (folds.sessions_after timeout done) es).packets

abbrev pub AnswersOfEntries : Type 0
AnswersOfEntries = (timeout : ℕ) (done es : List Entry) (items : List Item) (n : raft_nodes.Node) (cs : List gates.Connection) → EntriesAnswerTruly timeout done es items n cs

-- an election is begun by a node that does not lead; a query that comes was called
abbrev pub IsQueryMade : List Item → Payload → Type 0
IsQueryMade items (payload.Query c s n l seen seq name q) = true_servers.IsQueried items s n l seq name q
IsQueryMade items _ = Unit {0}

abbrev pub IsRightInput : List Item → servers.Server → ServerInput → Type 0
IsRightInput items s (input.Elect clock) = servers.leads s ≡ false
IsRightInput items s (input.Packet clock p) = IsQueryMade items p.payload
IsRightInput items s _ = Unit {0}

-- a log holds what is committed, up to its commit
pub record IsCommittedLog (committed : List Entry) (n : raft_nodes.Node) : Type 0 where
  pub within : n.commit ≤ length committed
  pub same : take n.commit n.log ≡ take n.commit committed

-- the place of a read that is ready is at least each commit above its arrival at this node in this term
abbrev pub IsReadCovered : List Item → ℕ → ℕ → ℕ × ℕ → Type 0
IsReadCovered items node term r = (s n : ℕ) (later earlier : List Item) → items ≡ later ++ item.Reach node term r.0 s n ∷ earlier → transcripts.greatest_commit earlier ≤ r.1

-- what is known of a step: of its input, of the log, of the reads that are ready, and that its own reach is among the items
pub record IsInformed (items : List Item) (committed : List Entry) (s : servers.Server) (i : ServerInput) : Type 0 where
  pub right : IsRightInput items s i
  pub log : IsCommittedLog committed (server_steps.server_after s i).raft
  pub reads : AllByRecursion (IsReadCovered items (server_steps.server_after s i).raft.ballot.me (server_steps.server_after s i).raft.ballot.term) (server_steps.raft_out s.raft (servers.task s i).input).reads
  pub reach : (x : Item) → (server_steps.server_out s i).reach ≡ Some x → transcripts.StandsIn x items

-- then all that it tells clients is true, and its answers stay so
pub record IsTrueStep (timeout : ℕ) (items : List Item) (committed : List Entry) (s : servers.Server) (i : ServerInput) : Type 0 where
  pub server : true_servers.IsTrueServer timeout items committed (server_steps.server_after s i)
  pub packets : AreTruePackets items (kept_stores.acts_of timeout committed) (server_steps.server_out s i).packets

abbrev pub ServersSendTruth : Type 0
ServersSendTruth = (timeout : ℕ) (items : List Item) (committed : List Entry) (s : servers.Server) (i : ServerInput) → true_servers.IsTrueServer timeout items committed s → IsInformed items committed s i
    → IsTrueStep timeout items committed s i

-- a server that starts
abbrev pub ServersStart : Type 0
ServersStart = (timeout : ℕ) (items : List Item) (committed : List Entry) (me nodes : ℕ) (kept : Loaded) → true_servers.IsTrueServer timeout items committed (servers.server_from me nodes timeout kept)

-- a server that takes no step, as the items and what is committed grow at their ends
abbrev pub ServersLast : Type 0
ServersLast = (timeout : ℕ) (early later : List Item) (committed more : List Entry) (s : servers.Server) → truths.AreCallsNumbered (early ++ later)
    → true_servers.IsTrueServer timeout (reverse early) committed s → true_servers.IsTrueServer timeout (reverse (early ++ later)) (committed ++ more) s

-- what is asked of a step can be
abbrev pub FirstStepMayBeMade : Type 0
FirstStepMayBeMade = (me nodes timeout clock : ℕ) → IsInformed [] [] (servers.new_server me nodes timeout) (input.Beat clock)
