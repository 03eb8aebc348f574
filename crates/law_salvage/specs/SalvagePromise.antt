-- A salvage of what a run left: its good stores are as the run left them, the others may be lost.
use Rattle.std.specs.Prelude.{ℕ, suc, ◌≡◌, IsTrue, List, [], ◌∷◌}
use Rattle.ax_types.specs.declared.entries.Act.{Act}
use Rattle.ax_types.specs.declared.entries.Loaded.{Loaded}
use Rattle.ax_types.specs.declared.findings.Found.{Found}
use Rattle.ax_types.specs.declared.findings.Found.TheVariants as found
use Rattle.spec_run.specs.KeptStores as kept_stores
use Rattle.spec_salvage.specs.Salvage as salvages

-- a store that is good is that of its node, with what the run left in it
abbrev pub IsAsLeft : ℕ → Loaded → Found → Type 0
IsAsLeft node content (found.Good n c) = (n ≡ node) × (c ≡ content)
IsAsLeft node content f = Unit {0}

abbrev pub AreAsLeft : ℕ → List Loaded → List Found → Type 0
AreAsLeft node [] [] = Unit {0}
AreAsLeft node [] (f ∷ fs) = ⊥
AreAsLeft node (c ∷ contents) [] = ⊥
AreAsLeft node (c ∷ contents) (f ∷ fs) = IsAsLeft node c f × AreAsLeft (suc node) contents fs

abbrev pub SalvageBeginsWithHistory : Type 0
SalvageBeginsWithHistory = (contents : List Loaded) (history : List (ℕ × Act)) (timeout : ℕ) (fs : List Found)
    → kept_stores.IsLeft contents history timeout → AreAsLeft 1 contents fs → IsTrue (salvages.has_majority fs)
    → kept_stores.BeginsLog history timeout (kept_stores.newest (salvages.goods fs))
