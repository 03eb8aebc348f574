-- Fewer than three words are no call.
use Rattle.std.proofs.Common.{◌≡◌, ◌<◌, List, [], ◌∷◌, length, refl, arith}
use Rattle.std.specs.Prelude.{None}
use Rattle.ax_types.specs.declared.ops.Level.{Level}
use Rattle.spec_text.specs.Words as text_words
use Rattle.spec_text.specs.OperationWords as operation_words

pub short_command : (ws : List text_words.Word) → length ws < 3 → operation_words.command_call_of ws ≡ None
short_command [] h = refl
short_command (a ∷ []) h = refl
short_command (a ∷ b ∷ []) h = refl
short_command (a ∷ b ∷ c ∷ ws) h = absurd (omega arith)

pub short_query : (l : Level) (ws : List text_words.Word) → length ws < 3 → operation_words.query_call_of l ws ≡ None
short_query l [] h = refl
short_query l (a ∷ []) h = refl
short_query l (a ∷ b ∷ []) h = refl
short_query l (a ∷ b ∷ c ∷ ws) h = absurd (omega arith)
