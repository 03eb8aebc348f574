-- What is told of a history at a place stays so as the history grows.
use Rattle.std.proofs.Common.{◌≡◌, ℕ, zero, suc, ◌+◌, ◌-◌, ◌≤◌, Bool, true, false, not, ◌&&◌, nat_le, List, [], ◌∷◌, ◌++◌, Option, Some, None, length, take, refl, sym, ap, ap₂, ◌∙◌, arith, append-nil, append_assoc, leb-true}
use Rattle.std.specs.List.{list_any}
use Rattle.std.proofs.lemmas.List.{take-append-le}
use Rattle.ax_types.specs.Places as lists
use Rattle.ax_types.specs.declared.entries.Act.{Act}
use Rattle.ax_types.specs.declared.replies.Event.{Event}
use Rattle.spec_book.specs.Book as books
use Rattle.spec_book.specs.History as histories
use Rattle.law_told.proofs.Lists.{at_within, at_end, take_all}

-- the book
pub book_split : (done : ℕ) (book : books.Book) (h r : histories.History) → histories.book_after done book (h ++ r) ≡ histories.book_after (done + length h) (histories.book_after done book h) r
book_split done book [] r = let e : done ≡ done + 0 = omega arith in ap (λ n. histories.book_after n book r) e
book_split done book (a ∷ h) r =
    let b : books.Book = (books.acted book (done + 1) a.0 a.1).state in
    let e : done + 1 + length h ≡ done + suc (length h) = omega arith in
    book_split (done + 1) b h r ∙ ap (λ n. histories.book_after n (histories.book_after (done + 1) b h) r) e

pub book_grown : (h r : histories.History) (p : ℕ) → p ≤ length h → histories.book_at (h ++ r) p ≡ histories.book_at h p
book_grown h r p l = ap (histories.book_after 0 []) (take-append-le p h r l)

-- the book at the end
pub book_end : (h : histories.History) → histories.book_at h (length h) ≡ histories.book_after 0 [] h
book_end h = ap (histories.book_after 0 []) (take_all h)

pub book_next : (h : histories.History) (a : ℕ × Act) → histories.book_after 0 [] (h ++ a ∷ []) ≡ (books.acted (histories.book_after 0 [] h) (suc (length h)) a.0 a.1).state
book_next h a =
    let e : 0 + length h + 1 ≡ suc (length h) = omega arith in
    book_split 0 [] h (a ∷ []) ∙ ap (λ n. (books.acted (histories.book_after 0 [] h) n a.0 a.1).state) e

-- what an act gives
there_same : (g h : histories.History) (p : ℕ) (x : Option (ℕ × Act)) → histories.book_at g (p - 1) ≡ histories.book_at h (p - 1) → histories.turn_there g p x ≡ histories.turn_there h p x
there_same g h p None e = refl
there_same g h p (Some a) e = ap (λ b. Some (books.acted b p a.0 a.1).turn) e

pub turn_grown : (h r : histories.History) (p : ℕ) → p ≤ length h → histories.turn_of (h ++ r) p ≡ histories.turn_of h p
turn_grown h r p l =
    ap (histories.turn_there (h ++ r) p) (at_within h r p l) ∙ there_same (h ++ r) h p (lists.at_place h p) (book_grown h r (p - 1) (omega arith))

pub turn_next : (h : histories.History) (a : ℕ × Act) → histories.turn_of (h ++ a ∷ []) (suc (length h)) ≡ Some (books.acted (histories.book_after 0 [] h) (suc (length h)) a.0 a.1).turn
turn_next h a =
    let e : suc (length h) - 1 ≡ length h = omega arith in
    let b : histories.book_at (h ++ a ∷ []) (suc (length h) - 1) ≡ histories.book_after 0 [] h = ap (histories.book_at (h ++ a ∷ [])) e ∙ book_grown h (a ∷ []) (length h) (omega arith) ∙ book_end h in
    ap (histories.turn_there (h ++ a ∷ []) (suc (length h))) (at_end h a []) ∙ ap (λ k. Some (books.acted k (suc (length h)) a.0 a.1).turn) b

-- what is told
pub told_grown : (h r : histories.History) (p s : ℕ) → p ≤ length h → histories.told_at (h ++ r) p s ≡ histories.told_at h p s
told_grown h r p s l = ap (histories.told_of s) (turn_grown h r p l)

pub heard_grown : (h r : histories.History) (s p : ℕ) → p ≤ length h → histories.heard_upto (h ++ r) s p ≡ histories.heard_upto h s p
heard_grown h r s zero l = refl
heard_grown h r s (suc p) l = ap₂ (histories.heard_too (suc p)) (told_grown h r (suc p) s l) (heard_grown h r s p (omega arith))

pub last_grown : (h r : histories.History) (s p : ℕ) → p ≤ length h → histories.last_told (h ++ r) s p ≡ histories.last_told h s p
last_grown h r s p l = ap histories.last_place (heard_grown h r s p l)

length_more : {X : Type 0} (xs : List X) (x : X) → length (xs ++ x ∷ []) ≡ suc (length xs)
length_more [] x = refl
length_more (y ∷ xs) x = ap (λ n. suc n) (length_more xs x)

pub events_next : (h : histories.History) (a : ℕ × Act) (s : ℕ) → histories.events (h ++ a ∷ []) s ≡ histories.heard_too (suc (length h)) (histories.events_for s (books.acted (histories.book_after 0 [] h) (suc (length h)) a.0 a.1).turn.told) (histories.events h s)
events_next h a s =
    ap (histories.heard_upto (h ++ a ∷ []) s) (length_more h a)
    ∙ ap₂ (histories.heard_too (suc (length h))) (ap (histories.told_of s) (turn_next h a)) (heard_grown h (a ∷ []) s (length h) (omega arith))

-- events are added at the end
too_more : (p : ℕ) (es : List Event) (xs : List histories.Heard) → (ys : List histories.Heard) × (histories.heard_too p es xs ≡ xs ++ ys)
too_more p [] xs = ([], sym (append-nil xs))
too_more p (e ∷ es) xs = ((record { place = p; prev = histories.last_place xs; events = e ∷ es }) ∷ [], refl)

pub heard_more : (h : histories.History) (s p q : ℕ) → (ys : List histories.Heard) × (histories.heard_upto h s (q + p) ≡ histories.heard_upto h s p ++ ys)
heard_more h s p zero = let e : 0 + p ≡ p = omega arith in ([], ap (histories.heard_upto h s) e ∙ sym (append-nil (histories.heard_upto h s p)))
heard_more h s p (suc q) =
    let e : suc q + p ≡ suc (q + p) = omega arith in
    let m = heard_more h s p q in
    let t = too_more (suc (q + p)) (histories.told_at h (suc (q + p)) s) (histories.heard_upto h s (q + p)) in (
      m.0 ++ t.0,
      ap (histories.heard_upto h s) e ∙ t.1 ∙ ap (λ xs. xs ++ t.0) m.1 ∙ append_assoc (histories.heard_upto h s p) m.0 t.0,
    )

pub events_grown : (h r : histories.History) (s : ℕ) → (ys : List histories.Heard) × (histories.events (h ++ r) s ≡ histories.events h s ++ ys)
events_grown h r s =
    let m = heard_more (h ++ r) s (length h) (length (h ++ r) - length h) in
    let l = Rattle.std.proofs.lemmas.List.length-append h r in
    let e : length (h ++ r) - length h + length h ≡ length (h ++ r) = omega arith in
    (m.0, ap (histories.heard_upto (h ++ r) s) (sym e) ∙ m.1 ∙ ap (λ xs. xs ++ m.0) (heard_grown h r s (length h) (omega arith)))

-- whether a session is live
and_false : (b : Bool) → (b && false) ≡ false
and_false true = refl
and_false false = refl

pub live_grown : (h r : histories.History) (p s : ℕ) → p ≤ length h → histories.is_live (h ++ r) p s ≡ histories.is_live h p s
live_grown h r p s l = go (nat_le s p) refl
  where
    t : take p (h ++ r) ≡ take p h
    t = take-append-le p h r l

    go : (b : Bool) → nat_le s p ≡ b → (histories.is_open (lists.at_place (h ++ r) s) && b && not (list_any (λ a. histories.ends s a.1) (take p (h ++ r)))) ≡ (histories.is_open (lists.at_place h s) && b && not (list_any (λ a. histories.ends s a.1) (take p h)))
    go true e = let k : s ≤ p = leb-true s p e in ap₂ (λ x y. histories.is_open x && true && not (list_any (λ a. histories.ends s a.1) y)) (at_within h r s (omega arith)) t
    go false e = rw (and_false (histories.is_open (lists.at_place (h ++ r) s)), and_false (histories.is_open (lists.at_place h s))) refl
