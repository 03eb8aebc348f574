-- What is committed in a run: the history is its acts, and each server has applied a beginning of it.
use Rattle.std.specs.Prelude.{ℕ, ◌≡◌, ◌≤◌, true, Some, List, ◌++◌, length, take}
use Rattle.ax_types.specs.Places as lists
use Rattle.ax_types.specs.declared.entries.Entry.{Entry}
use Rattle.ax_types.specs.declared.steps.KeptStep.{KeptStep}
use Rattle.spec_claims.specs.Once as once
use Rattle.spec_world.specs.Worlds as worlds
use Rattle.spec_run.specs.Run as runs
use Rattle.spec_run.specs.KeptStores as kept_stores
use Rattle.law_agreement.specs.Agreement as agreements
use Rattle.law_sessions.specs.Folds as folds
use Rattle.law_hosts.specs.Ledger as ledgers

-- a server has applied what is committed up to its commit
pub record HasApplied (timeout : ℕ) (committed : List Entry) (h : worlds.Host) : Type 0 where
  pub within : h.server.raft.commit ≤ length committed
  pub state : h.server.state ≡ folds.sessions_after timeout (take h.server.raft.commit committed)

abbrev pub ServersHaveApplied : Type 0
ServersHaveApplied = (nodes clients timeout : ℕ) (steps : List KeptStep) (k : ℕ) (h : worlds.Host) → lists.at_place (runs.run nodes clients timeout steps).world.hosts k ≡ Some h
    → HasApplied timeout (ledgers.ledger_of nodes clients timeout steps).committed h

abbrev pub HistoryIsOfCommitted : Type 0
HistoryIsOfCommitted = (nodes clients timeout : ℕ) (steps : List KeptStep)
    → (runs.run nodes clients timeout steps).world.history ≡ kept_stores.acts_of timeout (ledgers.ledger_of nodes clients timeout steps).committed

-- a log holds what is committed up to a commit
pub record HoldsCommitted (committed log : List Entry) (commit : ℕ) : Type 0 where
  pub long : commit ≤ length log
  pub within : commit ≤ length committed
  pub same : take commit log ≡ take commit committed

abbrev pub LogsHoldCommitted : Type 0
LogsHoldCommitted = (nodes clients timeout : ℕ) (steps : List KeptStep) (k : ℕ) (h : worlds.Host) → lists.at_place (runs.run nodes clients timeout steps).world.hosts k ≡ Some h → h.is_up ≡ true
    → HoldsCommitted (ledgers.ledger_of nodes clients timeout steps).committed h.server.raft.log h.server.raft.commit

-- what is committed stays, and its times never fall
abbrev pub CommittedStays : Type 0
CommittedStays = (nodes clients timeout : ℕ) (steps later : List KeptStep)
    → once.Begins (ledgers.ledger_of nodes clients timeout steps).committed (ledgers.ledger_of nodes clients timeout (steps ++ later)).committed

abbrev pub CommittedTimesRise : Type 0
CommittedTimesRise = (nodes clients timeout : ℕ) (steps : List KeptStep) → agreements.Rises (ledgers.ledger_of nodes clients timeout steps).committed
