-- The words of a line, split in one way and the other.
use Rattle.std.proofs.Common.{◌≡◌, ℕ, Bool, true, false, cond, nat_eq, List, [], ◌∷◌, refl, ap, ◌∙◌}
use Rattle.std.specs.Prelude.{◌==◌}
use Rattle.std.specs.List.{onto_first, slice_split}
use Rattle.spec_text.specs.Words as text_words
use Rattle.law_report.proofs.Words.{IsLine, first, others, pieces}

onto : (x : ℕ) (b : Bool) (f : List ℕ) (o parts : List (List ℕ)) → parts ≡ f ∷ o
    → cond b ([] ∷ parts) (onto_first x parts) ≡ cond b [] (x ∷ f) ∷ cond b (f ∷ o) o
onto x true f o parts e = ap (λ ps. [] ∷ ps) e
onto x false f o parts e = ap (onto_first x) e

pub slice_split-pieces : (c : ℕ) (xs : List ℕ) → slice_split (λ b. b == c) xs ≡ pieces c xs
slice_split-pieces c [] = refl
slice_split-pieces c (x ∷ xs) = onto x (nat_eq x c) (first c xs) (others c xs) (slice_split (λ b. b == c) xs) (slice_split-pieces c xs)

-- a line has the words that it is made of
pub words-line : {t : List ℕ} {ws : List text_words.Word} → IsLine t ws → text_words.words_of t ≡ ws
words-line {t} {ws} h = slice_split-pieces 32 t ∙ h.words
