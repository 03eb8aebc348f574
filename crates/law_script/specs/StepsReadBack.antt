-- The laws of scripts.
use Rattle.std.specs.Prelude.{ℕ, ◌≡◌, ◌≤◌, ◌<◌, ◌^◌, ◌↔◌, Some}
use Rattle.std.specs.Fmt.{decimal}
use Rattle.ax_types.specs.declared.steps.Step.{Step}
use Rattle.spec_text.specs.Words as words
use Rattle.spec_script.specs.StepLines as step_lines
use Rattle.law_script.specs.StepForms as step_forms

-- a word is read as a number exactly where it is that number in decimal
abbrev pub NumberIsDecimal : Type 0
NumberIsDecimal = (w : words.Word) (n : ℕ) → n < 2 ^ 64 → (words.number_of w ≡ Some n) ↔ (w ≡ decimal n)

-- the text of a step is read as that step
abbrev pub StepIsReadBack : Type 0
StepIsReadBack = (nodes clients : ℕ) (s : Step) → nodes ≤ 9 → clients ≤ 16 → step_forms.IsStep nodes clients s
    → step_lines.step_of nodes clients (words.words_of (step_lines.step_text s)) ≡ Some s
