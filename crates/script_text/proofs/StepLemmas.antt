-- What words of other numbers than a line's are.
use Rattle.std.proofs.Common.{◌≡◌, ℕ, ◌<◌, List, [], ◌∷◌, length, refl, arith}
use Rattle.std.specs.Prelude.{None}
use Rattle.spec_text.specs.Words as text_words
use Rattle.spec_script.specs.Scripts as scripts
use Rattle.spec_script.specs.StepLines as step_lines

-- fewer than two words are no step of a call
pub short_call_step : (clients : ℕ) (ws : List text_words.Word) → length ws < 2 → step_lines.call_step_of clients ws ≡ None
short_call_step clients [] h = refl
short_call_step clients (a ∷ []) h = refl
short_call_step clients (a ∷ b ∷ ws) h = absurd (omega arith)

-- fewer than two words are no calls of a caller
pub short_caller : (number : ℕ) (ws : List text_words.Word) (d : scripts.Draft) → length ws < 2 → scripts.after_caller number ws d ≡ None
short_caller number [] d h = refl
short_caller number (a ∷ []) d h = refl
short_caller number (a ∷ b ∷ ws) d h = absurd (omega arith)
