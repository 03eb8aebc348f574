-- What a program that makes the steps of a run keeps, what stands by it, and what is said of the report of a script.
use Rattle.std.specs.Prelude.{ℕ, ◌≡◌, ◌≤◌, ◌⊎◌, true, None, List, [], ◌∷◌, ◌++◌, length}
use Rattle.ax_types.specs.declared.entries.Act.{Act}
use Rattle.ax_types.specs.declared.entries.Loaded.{Loaded}
use Rattle.ax_types.specs.declared.items.Item.{Item}
use Rattle.ax_types.specs.declared.scripts.RunEnd.{RunEnd}
use Rattle.ax_types.specs.declared.scripts.Script.{Script}
use Rattle.ax_types.specs.declared.steps.KeptStep.{KeptStep}
use Rattle.spec_claims.specs.Transcript as transcripts
use Rattle.spec_claims.specs.Faithful as faithful
use Rattle.spec_claims.specs.Handed as handed
use Rattle.spec_world.specs.Worlds as worlds
use Rattle.spec_world.specs.Moves as moves
use Rattle.spec_run.specs.Run as runs
use Rattle.spec_run.specs.KeptStores as kept_stores
use Rattle.law_run.specs.InHand as in_hand

-- the kept steps lead from empty stores to this world and show these items, and the stores may have fared so in each
pub record IsWorldRun (nodes clients timeout : ℕ) (kept : List KeptStep) (w : worlds.World) (items : List Item) : Type 0 where
  pub fared : runs.may_run (worlds.new_world nodes clients timeout) kept ≡ true
  pub leads : (runs.run nodes clients timeout kept).world ≡ w
  pub shows : transcripts.transcript (runs.run nodes clients timeout kept).shown ≡ items

abbrev pub RunsBegin : Type 0
RunsBegin = (nodes clients timeout : ℕ) → IsWorldRun nodes clients timeout [] (worlds.new_world nodes clients timeout) []

abbrev pub RunsGoOn : Type 0
RunsGoOn = (nodes clients timeout : ℕ) (kept : List KeptStep) (w : worlds.World) (items : List Item) (k : KeptStep)
    → IsWorldRun nodes clients timeout kept w items → moves.may_fare w k ≡ true
    → IsWorldRun nodes clients timeout (kept ++ k ∷ []) (moves.moved w k).world (items ++ (moves.moved w k).items)

-- some stores keep a history
pub record StoresStand (timeout : ℕ) (history : List (ℕ × Act)) (contents : List Loaded) : Type 0 where
  pub kept : kept_stores.IsKept contents history
  pub left : kept_stores.IsLeft contents history timeout

-- what stands by a run of these steps
pub record RunStandsBy (nodes clients timeout : ℕ) (kept : List KeptStep) (w : worlds.World) (items : List Item) : Type 0 where
  pub faithful : faithful.IsFaithful timeout (runs.run nodes clients timeout kept).shown w.history
  pub handed : handed.IsHanded items w.history
  pub stores : (contents : List Loaded) → 1 ≤ nodes → kept_stores.AreContents w.hosts contents → StoresStand timeout w.history contents

abbrev pub RunsStand : Type 0
RunsStand = (nodes clients timeout : ℕ) (kept : List KeptStep) (w : worlds.World) (items : List Item)
    → IsWorldRun nodes clients timeout kept w items → RunStandsBy nodes clients timeout kept w items

-- where a run led to one world, it goes on to another, and that stands
abbrev pub GoesOnTo : List KeptStep → worlds.World → List Item → List KeptStep → worlds.World → List Item → Type 0
GoesOnTo kept w items later v more = (nodes clients timeout : ℕ) → IsWorldRun nodes clients timeout kept w items → IsWorldRun nodes clients timeout later v more × RunStandsBy nodes clients timeout later v more

abbrev pub StepsStand : Type 0
StepsStand = (kept : List KeptStep) (w : worlds.World) (items : List Item) (k : KeptStep)
    → moves.may_fare w k ≡ true → GoesOnTo kept w items (kept ++ k ∷ []) (moves.moved w k).world (items ++ (moves.moved w k).items)

-- the world before a script
abbrev pub world_before : Script → worlds.World
world_before s = worlds.new_world s.nodes s.clients s.timeout

-- what is left to do of a script
abbrev pub works_in : Script → List runs.Work
works_in s = runs.works_of s.lines

-- the kept steps are the script's, all of them or as many as a run may have; they lead to this world, show these items, and end so
pub record IsScriptRun (s : Script) (kept : List KeptStep) (w : worlds.World) (items : List Item) (end : RunEnd) : Type 0 where
  pub run : IsWorldRun s.nodes s.clients s.timeout kept w items
  pub unfolds : runs.Unfolds (world_before s) (works_in s) kept
  pub ends : runs.end_at (runs.left_after (world_before s) (works_in s) kept) ≡ end

abbrev pub ScriptsEnd : Type 0
ScriptsEnd = (s : Script) (rest : List runs.Work) (kept : List KeptStep) (w : worlds.World) (items : List Item) (r : runs.Ran)
    → IsWorldRun s.nodes s.clients s.timeout kept w items → in_hand.IsInHand (world_before s) (works_in s) kept r rest → length kept ≤ runs.most_steps
    → (runs.next_of w rest ≡ None) ⊎ (length kept ≡ runs.most_steps) → IsScriptRun s kept w items (runs.end_at (runs.next_of w rest))

-- how a report is written: as its text, or as JSON
abbrev pub ReportForm : Type 0
ReportForm = List Item → List (ℕ × Act) → RunEnd → List ℕ

-- the text is the report of a script's run, which left its stores so
pub record ReportsScript (form : ReportForm) (s : Script) (contents : List Loaded) (text : List ℕ) (end : RunEnd) : Type 0 where
  pub kept : List KeptStep
  pub world : worlds.World
  pub items : List Item
  pub run : IsScriptRun s kept world items end
  pub stores : kept_stores.AreContents world.hosts contents
  pub reported : text ≡ form items world.history end

-- the headline: what a text reports is faithful to one history, and hands out once; and the stores keep that history
pub record IsHeadline (form : ReportForm) (timeout : ℕ) (contents : List Loaded) (text : List ℕ) (end : RunEnd) : Type 0 where
  pub shown : List transcripts.Shown
  pub history : List (ℕ × Act)
  pub reported : text ≡ form (transcripts.transcript shown) history end
  pub faithful : faithful.IsFaithful timeout shown history
  pub handed : handed.IsHanded (transcripts.transcript shown) history
  pub stores : StoresStand timeout history contents

abbrev pub ReportsStand : Type 0
ReportsStand = (form : ReportForm) (s : Script) (contents : List Loaded) (text : List ℕ) (end : RunEnd)
    → 1 ≤ s.nodes → ReportsScript form s contents text end → IsHeadline form s.timeout contents text end
