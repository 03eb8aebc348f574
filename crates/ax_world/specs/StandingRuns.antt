-- The headline after each step: what stands by a run that steps led to from empty stores.
use Rattle.std.specs.Prelude.{ℕ, ◌≡◌, ◌≤◌, List, ◌++◌, map, take}
use Rattle.ax_types.specs.declared.entries.Loaded.{Loaded}
use Rattle.spec_book.specs.History as histories
use Rattle.spec_claims.specs.Transcript as transcripts
use Rattle.spec_claims.specs.Faithful as faithful
use Rattle.spec_claims.specs.Handed as handed
use Rattle.spec_run.specs.Run as runs
use Rattle.spec_race.specs.Race as races
use Rattle.store_journal.specs.StoreTold as stores
use Rattle.world_hosts.specs.StoresMatch as matching
use Rattle.law_headline.specs.Headline as headlines
use Rattle.law_race.specs.LeftOpen as left_open
use Rattle.ax_world.specs.OpenWorlds as open_worlds

-- steps led here from a cluster with empty stores: world, history and transcript are the definitions' run of the kept steps
pub record IsReachedRun (nodes clients timeout : ℕ) (w : open_worlds.OpenWorld) : Type 0 where
  pub some : 1 ≤ nodes
  pub run : headlines.IsWorldRun nodes clients timeout w.kept w.world w.transcript

-- each kept step with its items
abbrev pub shown_by : ℕ → ℕ → ℕ → open_worlds.OpenWorld → List transcripts.Shown
shown_by nodes clients timeout w = (runs.run nodes clients timeout w.kept).shown

-- the stores of the nodes tell contents that keep the history: more than half of them hold each of its places, and the newest log of
-- any majority begins with it
pub record StoresKeep (nodes timeout : ℕ) (history : histories.History) (states : List matching.StoreState) : Type 0 where
  pub contents : List Loaded
  pub told : take nodes (map (λ (s : matching.StoreState). s.told) states) ≡ map stores.Content contents
  pub stand : headlines.StoresStand timeout history contents

-- a race may end here: with the calls of its session that have no outcome told as unanswered, all is still faithful and hands out once
pub record MayEndRace (timeout session : ℕ) (shown : List transcripts.Shown) (history : histories.History) : Type 0 where
  pub faithful : left_open.StaysFaithful timeout session shown history
  pub handed : handed.IsHanded (transcripts.transcript shown ++ races.unanswered_items session (transcripts.transcript shown)) history

-- what was shown so far is faithful to its history and hands out once, and the stores keep the history
pub record StandsSoFar (nodes clients timeout : ℕ) (w : open_worlds.OpenWorld) (states : List matching.StoreState) : Type 0 where
  pub reached : IsReachedRun nodes clients timeout w
  pub faithful : faithful.IsFaithful timeout (shown_by nodes clients timeout w) w.world.history
  pub handed : handed.IsHanded w.transcript w.world.history
  pub stores : StoresKeep nodes timeout w.world.history states
  pub races : (session : ℕ) → MayEndRace timeout session (shown_by nodes clients timeout w) w.world.history

-- where steps led to a run, they lead on to one that stands
abbrev pub LeadsToStanding : open_worlds.OpenWorld → open_worlds.OpenWorld → List matching.StoreState → Type 0
LeadsToStanding before after states = (nodes clients timeout : ℕ) → IsReachedRun nodes clients timeout before → StandsSoFar nodes clients timeout after states
