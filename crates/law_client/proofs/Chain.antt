-- What a session is told, place by place: a chain, each link of which names the place of the one before.
use Rattle.std.proofs.Common.{◌≡◌, ℕ, zero, suc, ◌<◌, ◌≤◌, List, [], ◌∷◌, ◌++◌, refl, ap, sym, subst, inl, inr, arith, length, ⊎_elim}
use Rattle.std.specs.Prelude.{◌⊎◌}
use Rattle.std.specs.List.{AllByRecursion}
use Rattle.std.proofs.Common.{eq-or-lt_of_le}
use Rattle.ax_types.specs.declared.replies.Event.{Event}
use Rattle.spec_book.specs.History as histories
use Rattle.spec_claims.specs.Payloads.{IsHeardIn}

-- the place of the last link, or of what was before
abbrev pub end_of : ℕ → List histories.Heard → ℕ
end_of p [] = p
end_of p (x ∷ xs) = end_of x.place xs

abbrev pub IsChain : ℕ → List histories.Heard → Type 0
IsChain p [] = Unit {0}
IsChain p (x ∷ xs) = (x.prev ≡ p) × (p < x.place) × IsChain x.place xs

last_from : (x : histories.Heard) (xs : List histories.Heard) → histories.last_place (x ∷ xs) ≡ end_of x.place xs
last_from x [] = refl
last_from x (y ∷ xs) = last_from y xs

pub last_end : (xs : List histories.Heard) → histories.last_place xs ≡ end_of 0 xs
last_end [] = refl
last_end (x ∷ xs) = last_from x xs

pub end_more : (p : ℕ) (xs : List histories.Heard) (y : histories.Heard) → end_of p (xs ++ y ∷ []) ≡ y.place
end_more p [] y = refl
end_more p (x ∷ xs) y = end_more x.place xs y

pub chain_more : (p : ℕ) (xs : List histories.Heard) (y : histories.Heard) → IsChain p xs → y.prev ≡ end_of p xs → end_of p xs < y.place → IsChain p (xs ++ y ∷ [])
chain_more p [] y c e l = (e, l, tt)
chain_more p (x ∷ xs) y c e l = (c.0, c.1, chain_more x.place xs y c.2 e l)

too_chain : (p : ℕ) (es : List Event) (xs : List histories.Heard) → IsChain 0 xs → end_of 0 xs < p → IsChain 0 (histories.heard_too p es xs) × (end_of 0 (histories.heard_too p es xs) ≤ p)
too_chain p [] xs c l = (c, omega (arith, l))
too_chain p (e ∷ es) xs c l =
    let y : histories.Heard = record { place = p; prev = histories.last_place xs; events = e ∷ es } in
    (chain_more 0 xs y c (last_end xs) l, omega (arith, end_more 0 xs y))

pub heard_chain : (h : histories.History) (s n : ℕ) → IsChain 0 (histories.heard_upto h s n) × (end_of 0 (histories.heard_upto h s n) ≤ n)
heard_chain h s zero = (tt, omega arith)
heard_chain h s (suc n) =
    let c : IsChain 0 (histories.heard_upto h s n) × (end_of 0 (histories.heard_upto h s n) ≤ n) = heard_chain h s n in
    let l : end_of 0 (histories.heard_upto h s n) < suc n = omega (arith, c.1) in
    too_chain (suc n) (histories.told_at h (suc n) s) (histories.heard_upto h s n) c.0 l

pub in_front : (x : histories.Heard) (xs ys : List histories.Heard) → IsHeardIn x xs → IsHeardIn x (xs ++ ys)
in_front x [] ys a = absurd a
in_front x (z ∷ xs) ys (inl e) = inl e
in_front x (z ∷ xs) ys (inr a) = inr (in_front x xs ys a)

pub in_either : (x : histories.Heard) (xs ys : List histories.Heard) → IsHeardIn x (xs ++ ys) → IsHeardIn x xs ⊎ IsHeardIn x ys
in_either x [] ys a = inr a
in_either x (z ∷ xs) ys (inl e) = inl (inl e)
in_either x (z ∷ xs) ys (inr a) = ⊎_elim (λ b. inl (inr b)) (λ b. inr b) (in_either x xs ys a)

too_keeps : (x : histories.Heard) (p : ℕ) (es : List Event) (xs : List histories.Heard) → IsHeardIn x xs → IsHeardIn x (histories.heard_too p es xs)
too_keeps x p [] xs a = a
too_keeps x p (e ∷ es) xs a = in_front x xs ((record { place = p; prev = histories.last_place xs; events = e ∷ es }) ∷ []) a

pub alone : (x y : histories.Heard) → IsHeardIn x (y ∷ []) → y ≡ x
alone x y (inl e) = e
alone x y (inr a) = absurd a

too_old : (x : histories.Heard) (p : ℕ) (es : List Event) (xs : List histories.Heard) → IsHeardIn x (histories.heard_too p es xs) → (p ≡ x.place) ⊎ IsHeardIn x xs
too_old x p [] xs a = inr a
too_old x p (e ∷ es) xs a =
    let y : histories.Heard = record { place = p; prev = histories.last_place xs; events = e ∷ es } in
    ⊎_elim (λ b. inr b) (λ b. inl (ap (λ z. z.place) (alone x y b))) (in_either x xs (y ∷ []) a)

upto_grows : (h : histories.History) (s : ℕ) (x : histories.Heard) (n m : ℕ) → n ≤ m → IsHeardIn x (histories.heard_upto h s n) → IsHeardIn x (histories.heard_upto h s m)
upto_grows h s x n zero l a = let e : n ≡ zero = omega (arith, l) in subst (λ k. IsHeardIn x (histories.heard_upto h s k)) e a
upto_grows h s x n (suc m) l a =
    ⊎_elim (λ e. subst (λ k. IsHeardIn x (histories.heard_upto h s k)) e a)
    (λ f. let g : n ≤ m = omega (arith, f) in too_keeps x (suc m) (histories.told_at h (suc m) s) (histories.heard_upto h s m) (upto_grows h s x n m g a))
    (eq-or-lt_of_le l)

pub upto_place : (h : histories.History) (s : ℕ) (x : histories.Heard) (p n : ℕ) → IsHeardIn x (histories.heard_upto h s n) → x.place ≤ p → IsHeardIn x (histories.heard_upto h s p)
upto_place h s x p zero a l = absurd a
upto_place h s x p (suc n) a l =
    ⊎_elim (λ e. let g : suc n ≤ p = omega (arith, e, l) in upto_grows h s x (suc n) p g a) (λ b. upto_place h s x p n b l)
    (too_old x (suc n) (histories.told_at h (suc n) s) (histories.heard_upto h s n) a)

rises : (p : ℕ) (xs : List histories.Heard) → IsChain p xs → p ≤ end_of p xs
rises p [] c = omega arith
rises p (x ∷ xs) c = let r : x.place ≤ end_of x.place xs = rises x.place xs c.2 in omega (arith, c.1, r)

pub within : (p : ℕ) (xs : List histories.Heard) (x : histories.Heard) → IsChain p xs → IsHeardIn x xs → (p < x.place) × (x.place ≤ end_of p xs)
within p [] x c a = absurd a
within p (y ∷ xs) x c (inl e) =
    let r : y.place ≤ end_of y.place xs = rises y.place xs c.2 in
    let f : y.place ≡ x.place = ap (λ z. z.place) e in
    let l : p < y.place = c.1 in
    (omega (arith, l, f), omega (arith, r, f))
within p (y ∷ xs) x c (inr a) =
    let w : (y.place < x.place) × (x.place ≤ end_of y.place xs) = within y.place xs x c.2 a in
    let l : p < y.place = c.1 in
    let m : y.place < x.place = w.0 in
    (omega (arith, l, m), w.1)

prev_within : (p : ℕ) (xs : List histories.Heard) (x : histories.Heard) → IsChain p xs → IsHeardIn x xs → p ≤ x.prev
prev_within p [] x c a = absurd a
prev_within p (y ∷ xs) x c (inl e) = let f : y.prev ≡ x.prev = ap (λ z. z.prev) e in let g : y.prev ≡ p = c.0 in omega (arith, f, g)
prev_within p (y ∷ xs) x c (inr a) = let w : y.place ≤ x.prev = prev_within y.place xs x c.2 a in let l : p < y.place = c.1 in omega (arith, w, l)

-- a link that names what was heard last, and stands above it, is the next one
pub next_one : (p : ℕ) (told rest : List histories.Heard) (x : histories.Heard) → IsChain p (told ++ rest) → IsHeardIn x (told ++ rest) → x.prev ≡ end_of p told → end_of p told < x.place
    → (more : List histories.Heard) × (rest ≡ x ∷ more)
next_one p [] [] x c a same up = absurd a
next_one p [] (y ∷ ys) x c (inl e) same up = (ys, ap (λ z. z ∷ ys) e)
next_one p [] (y ∷ ys) x c (inr a) same up =
    let w : y.place ≤ x.prev = prev_within y.place ys x c.2 a in
    let l : p < y.place = c.1 in
    absurd (omega (arith, w, l, same))
next_one p (y ∷ told) rest x c (inl e) same up =
    let f : y.place ≡ x.place = ap (λ z. z.place) e in
    let r : y.place ≤ end_of y.place told = front_rises y.place told rest c.2 in
    absurd (omega (arith, f, r, up))
  where
    front_rises : (q : ℕ) (xs ys : List histories.Heard) → IsChain q (xs ++ ys) → q ≤ end_of q xs
    front_rises q [] ys d = omega arith
    front_rises q (z ∷ xs) ys d = let s : z.place ≤ end_of z.place xs = front_rises z.place xs ys d.2 in let l : q < z.place = d.1 in omega (arith, l, s)
next_one p (y ∷ told) rest x c (inr a) same up = next_one y.place told rest x c.2 a same up

-- what stands at or below the last one that was heard was heard
pub all_heard : (p : ℕ) (told rest : List histories.Heard) (x : histories.Heard) → IsChain p (told ++ rest) → IsHeardIn x (told ++ rest) → x.place ≤ end_of p told → IsHeardIn x told
all_heard p [] rest x c a l = let w : (p < x.place) × (x.place ≤ end_of p rest) = within p rest x c a in let m : p < x.place = w.0 in absurd (omega (arith, m, l))
all_heard p (y ∷ told) rest x c (inl e) l = inl e
all_heard p (y ∷ told) rest x c (inr a) l = inr (all_heard y.place told rest x c.2 a l)

-- all that is told up to a place is told up to the last one there
pub covers : (h : histories.History) (s p : ℕ) (x : histories.Heard) → IsHeardIn x (histories.events h s) → x.place ≤ p → x.place ≤ histories.last_told h s p
covers h s p x a l =
    let w : (0 < x.place) × (x.place ≤ end_of 0 (histories.heard_upto h s p)) = within 0 (histories.heard_upto h s p) x (heard_chain h s p).0 (upto_place h s x p (length h) a l) in
    let m : x.place ≤ end_of 0 (histories.heard_upto h s p) = w.1 in
    subst (λ q. x.place ≤ q) (sym (last_end (histories.heard_upto h s p))) m

pub all_in : (P : histories.Heard → Type 0) (xs : List histories.Heard) → ((x : histories.Heard) → IsHeardIn x xs → P x) → AllByRecursion P xs
all_in P [] f = tt
all_in P (x ∷ xs) f = (f x (inl refl), all_in P xs (λ y a. f y (inr a)))
