-- A text of lines is split into them, and a value is read back from its line.
use Rattle.std.proofs.Common.{◌≡◌, ℕ, Bool, true, false, slice_index_or, List, [], ◌∷◌, ◌++◌, map, drop, refl, sym, ap, ◌∙◌, append_assoc}
use Rattle.spec_report.specs.Items as items
use Rattle.std.specs.List.{AllByRecursion}
use Rattle.law_report.proofs.Words.{pieces, pieces-join, pieces-lacks, above, above-lacks, IsLine}

-- values with one line are one value, where each is read back from the words of its line
pub one_value : {T : Type 0} (back : List (List ℕ) → T) (x y : T) {s t : List ℕ} {us vs : List (List ℕ)} → IsLine s us → IsLine t vs → back us ≡ x → back vs ≡ y → s ≡ t → x ≡ y
one_value back x y h k b c e = sym b ∙ (ap back (sym h.words ∙ (ap (pieces 32) e ∙ k.words)) ∙ c)

-- each line has no newline
abbrev pub AreLines : List (List ℕ) → Type 0
AreLines ls = AllByRecursion (λ l. above 31 l ≡ true) ls

-- lines are the pieces of their text
pub pieces-lines : (ls : List (List ℕ)) (rest : List ℕ) → AreLines ls → pieces 10 (items.lines_text ls ++ rest) ≡ ls ++ pieces 10 rest
pieces-lines [] rest h = refl
pieces-lines (l ∷ ls) rest h =
    ap (pieces 10) (append_assoc l (10 ∷ items.lines_text ls) rest)
    ∙ (pieces-join 10 l (items.lines_text ls ++ rest)
    ∙ (λ i. pieces-lacks 10 l (above-lacks 31 10 refl l h.0) i ++ pieces-lines ls rest h.1 i))

-- a list of lists, and what stands in front and behind
pub same_first : {T : Type 0} (d x y : T) (xs ys : List T) → x ∷ xs ≡ y ∷ ys → x ≡ y
same_first d x y xs ys e = ap (λ zs. slice_index_or zs 0 d) e

pub same_rest : {T : Type 0} (x y : T) (xs ys : List T) → x ∷ xs ≡ y ∷ ys → xs ≡ ys
same_rest x y xs ys e = ap (λ zs. drop 1 zs) e

-- equal lines of lists of values are of equal values
pub one_list : {T : Type 0} (P : T → Type 0) (line : T → List ℕ) → ((x y : T) → P x → P y → line x ≡ line y → x ≡ y)
    → (xs ys : List T) → AllByRecursion P xs → AllByRecursion P ys → map line xs ≡ map line ys → xs ≡ ys
one_list P line same [] [] h k e = refl
one_list P line same [] (y ∷ ys) h k e = cc
one_list P line same (x ∷ xs) [] h k e = cc
one_list P line same (x ∷ xs) (y ∷ ys) h k e =
    λ i. same x y h.0 k.0 (same_first (line x) (line x) (line y) (map line xs) (map line ys) e) i
    ∷ one_list P line same xs ys h.1 k.1 (same_rest (line x) (line y) (map line xs) (map line ys) e) i

-- a test fails at each line
abbrev pub NoneIs : (List ℕ → Bool) → List (List ℕ) → Type 0
NoneIs p ls = AllByRecursion (λ l. p l ≡ false) ls

-- a test holds at the first line
abbrev pub opens : (List ℕ → Bool) → List (List ℕ) → Bool
opens p [] = false
opens p (l ∷ ls) = p l

-- a list is cut at the first line at which the test holds
pub one_cut : (p : List ℕ → Bool) (us vs rs ss : List (List ℕ)) → NoneIs p us → NoneIs p vs → opens p rs ≡ true → opens p ss ≡ true
    → us ++ rs ≡ vs ++ ss → (us ≡ vs) × (rs ≡ ss)
one_cut p [] [] rs ss h k r s e = (refl, e)
one_cut p [] (v ∷ vs) rs ss h k r s e = absurd (differ (sym r ∙ (ap (opens p) e ∙ k.0)))
  where
    differ : true ≡ false → ⊥
    differ f = cc
one_cut p (u ∷ us) [] rs ss h k r s e = absurd (differ (sym s ∙ (ap (opens p) (sym e) ∙ h.0)))
  where
    differ : true ≡ false → ⊥
    differ f = cc
one_cut p (u ∷ us) (v ∷ vs) rs ss h k r s e =
    let rest = one_cut p us vs rs ss h.1 k.1 r s (same_rest u v (us ++ rs) (vs ++ ss) e) in
    ((λ i. same_first u u v (us ++ rs) (vs ++ ss) e i ∷ rest.0 i), rest.1)

-- what stands behind equal lines
pub same_behind : (ls rs ss : List (List ℕ)) → ls ++ rs ≡ ls ++ ss → rs ≡ ss
same_behind [] rs ss e = e
same_behind (l ∷ ls) rs ss e = same_behind ls rs ss (same_rest l l (ls ++ rs) (ls ++ ss) e)
