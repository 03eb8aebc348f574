-- The lines of bytes: where the first one ends, and how many there are.
use Rattle.std.proofs.Common.{◌≡◌, ℕ, ◌+◌, ◌≤◌, ◌<◌, Bool, true, false, cond, List, [], ◌∷◌, length, take, drop, refl, ap, sym, ◌∙◌, arith, subst, nat_lt}
use Rattle.std.specs.Prelude.{if◌then◌else◌, Option, Result, Ok, Err, Some, None, ◌==◌}
use Rattle.std.specs.List.{position, position_or_len, onto_first, slice_split}
use Rattle.std.proofs.lemmas.Bool.Decides.{nat_tests}
use Rattle.std.proofs.lemmas.List.Splits.{slice_split_first, slice_split_none}
use Rattle.std.proofs.lemmas.List.Sums.{fails_before_first}
use Rattle.ax_types.specs.declared.statuses.Why.{Why}
use Rattle.ax_types.specs.declared.statuses.Why.TheVariants as why
use Rattle.spec_text.specs.Words as text_words
use Rattle.spec_script.specs.Scripts as scripts

-- whether the byte is a newline
abbrev pub newline : ℕ → Bool
newline b = b == 10

found : (n m at : ℕ) → cond (nat_lt n m) (Some n) None ≡ Some at → (n ≡ at) × (n < m)
found n m at h = grind (arith, nat_tests)

missed : (n m : ℕ) → cond (nat_lt n m) (Some n) None ≡ None → m ≤ n
missed n m h = grind (arith, nat_tests)

-- the first line ends before the first newline
pub split_at_newline : (bs : List ℕ) (at : ℕ) → position newline bs ≡ Some at → slice_split newline bs ≡ take at bs ∷ slice_split newline (drop (at + 1) bs)
split_at_newline bs at h =
    let f = found (position_or_len newline bs) (length bs) at h in
    subst (λ (n : ℕ). slice_split newline bs ≡ take n bs ∷ slice_split newline (drop (n + 1) bs)) f.0
    (slice_split_first newline bs 0 f.1)

-- without a newline there is one line
pub split_without_newline : (bs : List ℕ) → position newline bs ≡ None → slice_split newline bs ≡ bs ∷ []
split_without_newline bs h =
    let beyond : length bs ≤ position_or_len newline bs = missed (position_or_len newline bs) (length bs) h in
    slice_split_none newline bs (λ k d l. fails_before_first newline bs k d (omega arith))

some_line : (b : ℕ) (parts : List (List ℕ)) → scripts.is_empty (onto_first b parts) ≡ false
some_line b [] = refl
some_line b (part ∷ parts) = refl

-- there is always a line
pub is_empty-split : (bs : List ℕ) → scripts.is_empty (slice_split newline bs) ≡ false
is_empty-split [] = refl
is_empty-split (b ∷ bs) = elim (newline b) as (λ v. scripts.is_empty (cond v ([] ∷ slice_split newline bs) (onto_first b (slice_split newline bs))) ≡ false) [
  | true ↦ refl
  | false ↦ some_line b (slice_split newline bs)
]

two_lines : (parts : List (List ℕ)) → scripts.is_empty parts ≡ false → scripts.holds_last_byte ([] ∷ parts) ≡ false
two_lines [] h = cc
two_lines (part ∷ parts) h = refl

longer : (b : ℕ) (parts : List (List ℕ)) → scripts.holds_last_byte (onto_first b parts) ≡ false
longer b [] = refl
longer b (part ∷ parts) = refl

-- no byte is left where the lines have none
pub holds_last_byte-split : (bs : List ℕ) → scripts.holds_last_byte (slice_split newline bs) ≡ (length bs == 0)
holds_last_byte-split [] = refl
holds_last_byte-split (b ∷ bs) =
    let more : (length (b ∷ bs) == 0) ≡ false = grind (arith, nat_tests) in
    elim (newline b) as (λ v. scripts.holds_last_byte (cond v ([] ∷ slice_split newline bs) (onto_first b (slice_split newline bs))) ≡ false) [
      | true ↦ two_lines (slice_split newline bs) (is_empty-split bs)
      | false ↦ longer b (slice_split newline bs)
    ] ∙ sym more

-- all bytes are judged where they are not too many
pub judged_bytes-all : (bs : List ℕ) → length bs ≤ 1048576 → scripts.judged_bytes bs ≡ bs
unfolding scripts.is_too_long scripts.longest_script
judged_bytes-all bs h =
    let few : nat_lt 1048576 (length bs) ≡ false = grind (arith, nat_tests) in
    ap (λ v. scripts.bytes_up_to_limit v bs) few

pub judged_bytes-first : (bs : List ℕ) → 1048576 < length bs → scripts.judged_bytes bs ≡ take 1048577 bs
unfolding scripts.is_too_long scripts.longest_script
judged_bytes-first bs h =
    let many : nat_lt 1048576 (length bs) ≡ true = grind (arith, nat_tests) in
    ap (λ v. scripts.bytes_up_to_limit v bs) many

pub is_too_long-is : (bs : List ℕ) → scripts.is_too_long bs ≡ nat_lt 1048576 (length bs)
unfolding scripts.is_too_long scripts.longest_script
is_too_long-is bs = refl

limited : (o : Option Why) (d : scripts.Draft) → scripts.unless_refused o (Ok (Some d)) ≡ Ok None → ⊥
limited None d h = cc
limited (Some reason) d h = cc

read : (p : scripts.LinePosition) (l : List ℕ) (o : Option scripts.Draft) → scripts.after_cluster p l o ≡ Ok None → ⊥
read p l None h = cc
read p l (Some d) h = limited (scripts.in_limits p.is_past l) (scripts.at_line p.number d) h

last : (skipped is_last : Bool) (skip words : Result (Option scripts.Draft) Why) → is_last ≡ true → (words ≡ Ok None → ⊥)
    → (if skipped then (if is_last then Err why.Cluster else skip) else words) ≡ Ok None → ⊥
last true true skip words e f h = cc
last true false skip words e f h = cc
last false is_last skip words e f h = f h

-- the cluster line is not due behind the last line
pub after_first-last : (p : scripts.LinePosition) (l : List ℕ) → p.is_last ≡ true → scripts.after_first p l ≡ Ok None → ⊥
after_first-last p l e h =
    last (scripts.is_skipped l) p.is_last (scripts.unless_refused (scripts.in_limits p.is_past l) (Ok None)) (scripts.after_cluster p l (scripts.cluster_draft (text_words.words_of l))) e
    (read p l (scripts.cluster_draft (text_words.words_of l))) h
