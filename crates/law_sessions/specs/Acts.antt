-- The acts that the session state makes of the entries of a log.
use Rattle.std.specs.Prelude.{◌≡◌, ◌<◌, ℕ, Option, Some, None, List, [], ◌∷◌, ◌++◌, length, map}
use Rattle.ax_types.specs.Places as lists
use Rattle.ax_types.specs.declared.entries.Act.{Act}
use Rattle.ax_types.specs.declared.entries.Body.{Body}
use Rattle.ax_types.specs.declared.entries.Body.TheVariants as body
use Rattle.ax_types.specs.declared.entries.Entry.{Entry}
use Rattle.ax_types.specs.declared.ops.Op.{Op}
use Rattle.spec_book.specs.History as histories
use Rattle.spec_claims.specs.Once as once
use Rattle.spec_run.specs.KeptStores as kept_stores
use Rattle.law_agreement.specs.Agreement as agreements

-- where times never fall, the acts are a lawful history
abbrev pub ActsAreLawful : Type 0
ActsAreLawful = (timeout : ℕ) (es : List Entry) → agreements.Rises es → histories.IsLawful timeout (kept_stores.acts_of timeout es)

-- each act stands at its entry's place, with its entry's time, and asks for no other thing than its entry
abbrev pub IsActOf : Option Entry → ℕ × Act → Type 0
IsActOf None a = ⊥
IsActOf (Some e) a = (a.0 ≡ e.time) × kept_stores.IsBodyOf a.1 e.body

pub record AreOfEntries (es : List Entry) (h : histories.History) : Type 0 where
  pub long : length h ≡ length es
  pub each : (p : ℕ) (a : ℕ × Act) → lists.at_place h p ≡ Some a → IsActOf (lists.at_place es p) a

abbrev pub ActsAreOfEntries : Type 0
ActsAreOfEntries = (timeout : ℕ) (es : List Entry) → AreOfEntries es (kept_stores.acts_of timeout es)

-- the acts of more entries begin with the acts of fewer
abbrev pub ActsGrow : Type 0
ActsGrow = (timeout : ℕ) (es more : List Entry) → once.Begins (kept_stores.acts_of timeout es) (kept_stores.acts_of timeout (es ++ more))

-- the entry is the session's command with this sequence, name and operation
abbrev pub IsCommandBody : ℕ → ℕ → List ℕ × Op → Body → Type 0
IsCommandBody s seq c (body.Command client t k name o) = (t ≡ s) × (k ≡ seq) × (c ≡ (name, o))
IsCommandBody s seq c _ = ⊥

abbrev pub IsCommandAt : ℕ → ℕ → List ℕ × Op → Option Entry → Type 0
IsCommandAt s seq c None = ⊥
IsCommandAt s seq c (Some e) = IsCommandBody s seq c e.body

-- the places of some acts rise, from one on
abbrev pub AreRising : ℕ → List (ℕ × (List ℕ × Op)) → Type 0
AreRising p [] = Unit {0}
AreRising p (d ∷ ds) = (p < d.0) × AreRising d.0 ds

-- of the acts of a session at resources the k-th is of its command with sequence k, at a place of its own
pub record TakeEffectOnce (es : List Entry) (h : histories.History) (s : ℕ) : Type 0 where
  pub numbered : (k : ℕ) (d : ℕ × (List ℕ × Op)) → lists.at_place (histories.dos h s) k ≡ Some d → IsCommandAt s k d.1 (lists.at_place es d.0)
  pub rising : AreRising 0 (histories.dos h s)

abbrev pub CommandsTakeEffectOnce : Type 0
CommandsTakeEffectOnce = (timeout : ℕ) (es : List Entry) (s : ℕ) → TakeEffectOnce es (kept_stores.acts_of timeout es) s

-- where each entry of a session with sequence k asks for the k-th of these commands, the acts of the session are a beginning of them
abbrev pub AreRequested : List (List ℕ × Op) → ℕ → List Entry → Type 0
AreRequested cs s es = (p k : ℕ) (c : List ℕ × Op) → IsCommandAt s k c (lists.at_place es p) → lists.at_place cs k ≡ Some c

abbrev pub ActsBeginCommands : Type 0
ActsBeginCommands = (timeout : ℕ) (es : List Entry) (s : ℕ) (cs : List (List ℕ × Op)) → AreRequested cs s es
    → once.Begins (map (λ d. d.1) (histories.dos (kept_stores.acts_of timeout es) s)) cs
