-- The turns of a walk are those of the history.
use Rattle.std.proofs.Common.{◌≡◌, ℕ, zero, suc, ◌+◌, ◌≤◌, List, [], ◌∷◌, ◌++◌, Option, Some, None, length, slice_get, refl, sym, ap, ap₂, ◌∙◌, arith, append_assoc, append-nil}
use Rattle.std.proofs.lemmas.List.{length-append}
use Rattle.ax_types.specs.Places as lists
use Rattle.ax_types.specs.declared.entries.Act.{Act}
use Rattle.ax_types.specs.declared.replies.Turn.{Turn}
use Rattle.spec_book.specs.Book as books
use Rattle.spec_book.specs.History as histories
use Rattle.law_told.proofs.Growth.{book_next, turn_grown, turn_next}
use Rattle.law_audit_tables.specs.Turns as turns
use Rattle.law_audit_tables.specs.TablesFound as laws

none_past : (g : histories.History) (k : ℕ) → histories.turn_of (g ++ []) (suc (length g + k)) ≡ None
none_past g k = ap (histories.turn_there (g ++ []) (suc (length g + k))) (ap (λ h. slice_get h (length g + k)) (append-nil g) ∙ past g k)
  where
    past : (xs : histories.History) (j : ℕ) → slice_get xs (length xs + j) ≡ None
    past [] j = refl
    past (x ∷ xs) j = let e : suc (length xs) + j ≡ suc (length xs + j) = omega arith in ap (slice_get (x ∷ xs)) e ∙ past xs j

turns_from : (g acts : histories.History) (k : ℕ) → slice_get (turns.turns_after (length g) (histories.book_after 0 [] g) acts) k ≡ histories.turn_of (g ++ acts) (suc (length g + k))
turns_from g [] k = sym (none_past g k)
turns_from g (a ∷ acts) zero =
    let b : books.Book = histories.book_after 0 [] g in
    let place : suc (length g + 0) ≡ suc (length g) = omega arith in
    let next : length g + 1 ≡ suc (length g) = omega arith in
    let grown : suc (length g) ≤ length (g ++ a ∷ []) = (let l = length-append g (a ∷ []) in omega arith) in
    ap (λ n. Some (books.acted b n a.0 a.1).turn) next
    ∙ sym (ap (histories.turn_of (g ++ a ∷ acts)) place
    ∙ ap (λ h. histories.turn_of h (suc (length g))) (sym (append_assoc g (a ∷ []) acts))
    ∙ turn_grown (g ++ a ∷ []) acts (suc (length g)) grown
    ∙ turn_next g a)
turns_from g (a ∷ acts) (suc k) =
    let b : books.Book = histories.book_after 0 [] g in
    let next : length g + 1 ≡ suc (length g) = omega arith in
    let size : suc (length g) ≡ length (g ++ a ∷ []) = (let l = length-append g (a ∷ []) in omega arith) in
    let place : suc (length (g ++ a ∷ []) + k) ≡ suc (length g + suc k) = (let l = length-append g (a ∷ []) in omega arith) in
    ap (λ n. slice_get (turns.turns_after n (books.acted b n a.0 a.1).state acts) k) next
    ∙ ap₂ (λ (n : ℕ) (c : books.Book). slice_get (turns.turns_after n c acts) k) size (sym (book_next g a))
    ∙ turns_from (g ++ a ∷ []) acts k
    ∙ ap₂ (λ (h : histories.History) (n : ℕ). histories.turn_of h n) (append_assoc g (a ∷ []) acts) place

pub turns_are_given : laws.TurnsAreGiven
turns_are_given h zero = refl
turns_are_given h (suc k) = turns_from [] h k ∙ ap (λ n. histories.turn_of h (suc n)) zeroth
  where
    zeroth : 0 + k ≡ k
    zeroth = omega arith
