-- The words behind references.
use Rattle.std.specs.Prelude.{List, map}
use Rattle.std.specs.Borrow.{Bor}
use Rattle.spec_text.specs.Words as text_words

abbrev pub words_behind : List (Bor text_words.Word) → List text_words.Word
words_behind = map (λ w. w.now)
