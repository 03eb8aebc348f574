-- What the readers of lines and scripts answer, as the definitions say it.
use Rattle.std.specs.Prelude.{ℕ, ◌≡◌, ◌==◌, ⊤, List, [], Option, Some, None, Result, Ok, Err, option_map}
use Rattle.std.specs.List.{slice_split}
use Rattle.std.specs.Borrow.{Bor}
use Rattle.ax_types.specs.declared.scripts.Script.{Script}
use Rattle.ax_types.specs.declared.statuses.Why.{Why}
use Rattle.spec_script.specs.Scripts as script_scripts
use Rattle.script_text.specs.declared.drafts.Draft.{Draft}
use Rattle.script_text.specs.declared.scripts.LineRefused.{LineRefused}
use Rattle.script_text.specs.declared.scripts.LineRefused.TheVariants as line
use Rattle.script_text.specs.declared.scripts.Place.{Place}
use Rattle.script_text.specs.declared.scripts.ScriptRefused.{ScriptRefused}
use Rattle.script_text.specs.declared.scripts.ScriptRefused.TheVariants as script
use Rattle.script_text.specs.Drafts as drafts

abbrev pub place_behind : Place → script_scripts.LinePosition
place_behind p = record { race = p.race; number = p.number; is_last = p.is_last; is_past = p.is_past }

-- the lines of the bytes, if there are any
abbrev pub lines_in : Option (Bor (List ℕ)) → List (List ℕ)
lines_in None = []
lines_in (Some bytes) = slice_split (λ b. b == 10) bytes.now

-- the answer is what is meant; want of memory says nothing
abbrev pub LineAnswers : Result (Option script_scripts.Draft) Why → Result (Option Draft) LineRefused → Type 0
LineAnswers meant (Ok read) = meant ≡ Ok (option_map drafts.draft_of read)
LineAnswers meant (Err (line.Why reason)) = meant ≡ Err reason
LineAnswers meant (Err line.NoMemory) = ⊤

-- the same, where the draft is changed in place
abbrev pub LaterAnswers : {U : Type 0} → Result (Option script_scripts.Draft) Why → Result U LineRefused → Draft → Type 0
LaterAnswers meant (Ok _) d = meant ≡ Ok (Some (drafts.draft_of d))
LaterAnswers meant (Err (line.Why reason)) d = meant ≡ Err reason
LaterAnswers meant (Err line.NoMemory) d = ⊤

abbrev pub refusal_at : ℕ → LineRefused → ScriptRefused
refusal_at number (line.Why reason) = script.Refused number reason
refusal_at number line.NoMemory = script.NoMemory

-- the script, or the first refused line and the first reason for it; want of memory says nothing
abbrev pub ReadsAs : Result Script script_scripts.Refusal → Result Script ScriptRefused → Type 0
ReadsAs meant (Ok read) = meant ≡ Ok read
ReadsAs meant (Err (script.Refused number reason)) = meant ≡ Err (record { line = number; why = reason })
ReadsAs meant (Err script.NoMemory) = ⊤
