-- The stores of a world: each that tells its content tells what its node keeps, and that of a node that is up is loaded.
use Rattle.std.specs.Prelude.{ℕ, ◌≡◌, ◌≢◌, Bool, true, false, Option, Some, None, List, [], ◌∷◌, length, map}
use Rattle.ax_types.specs.Places as lists
use Rattle.ax_types.specs.declared.sessions.ServerInput.{ServerInput}
use Rattle.store_journal.specs.StoreTold as stores
use Rattle.spec_node.specs.Saving as saving
use Rattle.spec_server.specs.ServerStep as server_steps
use Rattle.spec_world.specs.Worlds as worlds
use Rattle.spec_run.specs.KeptStores as kept_stores
use Rattle.world_saves.specs.SaveChain as chains

-- what a store tells, and whether it is in need of a load
pub record StoreState : Type 0 where
  pub told : stores.Told
  pub needs_load : Bool

abbrev pub store_state_of : {S : Type 0} → (S → stores.Told) → (S → Bool) → S → StoreState
store_state_of told needs_load s = record { told = told s; needs_load = needs_load s }

abbrev pub store_states_of : {S : Type 0} → (S → stores.Told) → (S → Bool) → List S → List StoreState
store_states_of told needs_load xs = map (store_state_of told needs_load) xs

-- what a store tells is what its node keeps, where it tells its content
abbrev pub HasContent : worlds.Host → stores.Told → Type 0
HasContent h (stores.Content content) = kept_stores.IsContent h content
HasContent h _ = Unit {0}

pub record StoreMatches (h : worlds.Host) (s : StoreState) : Type 0 where
  pub content : HasContent h s.told
  pub loaded : h.is_up ≡ true → s.needs_load ≡ false

-- each node has its store, and there may be more stores
abbrev pub StoresMatch : List worlds.Host → List StoreState → Type 0
StoresMatch [] states = Unit {0}
StoresMatch (h ∷ hosts) [] = ⊥
StoresMatch (h ∷ hosts) (s ∷ states) = StoreMatches h s × StoresMatch hosts states

-- all stores but one are as before
pub record OthersStay (k : ℕ) {S : Type 0} (before now : List S) : Type 0 where
  pub size : length now ≡ length before
  pub each : (j : ℕ) → j ≢ k → lists.at_place now j ≡ lists.at_place before j

-- the store of a node that made a part of the store calls of a step
abbrev pub KeepsPart : Option worlds.Host → ServerInput → Option StoreState → Option StoreState → Type 0
KeepsPart (Some h) i (Some before) (Some now) = chains.IsSomeOf (saving.calls_of (server_steps.server_out h.server i).saves) before.told now.told
KeepsPart _ _ _ _ = ⊥

-- what a store tells stays
abbrev pub ToldStays : Option StoreState → Option StoreState → Type 0
ToldStays (Some before) (Some now) = now.told ≡ before.told
ToldStays _ _ = ⊥

-- a store that tells its content
abbrev pub Tells : stores.Told → Type 0
Tells (stores.Content content) = Unit {0}
Tells _ = ⊥

abbrev pub IsTelling : Option StoreState → Type 0
IsTelling (Some s) = Tells s.told
IsTelling None = ⊥

abbrev pub AreTelling : List StoreState → Type 0
AreTelling [] = Unit {0}
AreTelling (s ∷ states) = Tells s.told × AreTelling states
