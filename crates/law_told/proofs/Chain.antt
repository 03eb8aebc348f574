-- The batches of a session are a chain.
use Rattle.std.proofs.Common.{◌≡◌, ℕ, zero, suc, ◌+◌, ◌-◌, ◌≤◌, ◌<◌, List, [], ◌∷◌, ◌++◌, length, refl, sym, ap, ◌∙◌, arith}
use Rattle.std.specs.List.{AllByRecursion}
use Rattle.ax_types.specs.declared.replies.Event.{Event}
use Rattle.spec_book.specs.History as histories
use Rattle.law_told.specs.ToldEvents as laws
use Rattle.law_told.proofs.Lists.{all_append}

-- the last place, or this one
abbrev pub last_from : ℕ → List histories.Heard → ℕ
last_from prev [] = prev
last_from prev (x ∷ xs) = last_from x.place xs

last_behind : (x : histories.Heard) (xs : List histories.Heard) → histories.last_place (x ∷ xs) ≡ last_from x.place xs
last_behind x [] = refl
last_behind x (y ∷ xs) = last_behind y xs

pub last_is : (xs : List histories.Heard) → histories.last_place xs ≡ last_from 0 xs
last_is [] = refl
last_is (x ∷ xs) = last_behind x xs

last_added : (prev : ℕ) (xs : List histories.Heard) (x : histories.Heard) → last_from prev (xs ++ x ∷ []) ≡ x.place
last_added prev [] x = refl
last_added prev (y ∷ xs) x = last_added y.place xs x

chain_added : (prev : ℕ) (xs : List histories.Heard) (x : histories.Heard) → laws.IsChain prev xs → x.prev ≡ last_from prev xs → last_from prev xs < x.place → laws.IsChain prev (xs ++ x ∷ [])
chain_added prev [] x c e l = (e, l, tt)
chain_added prev (y ∷ xs) x c e l = (c.0, c.1, chain_added y.place xs x c.2 e l)

record Chained (p : ℕ) (xs : List histories.Heard) : Type 0 where
  chain : laws.IsChain 0 xs
  within : histories.last_place xs ≤ p

too_chained : (p : ℕ) (es : List Event) (xs : List histories.Heard) → Chained p xs → Chained (suc p) (histories.heard_too (suc p) es xs)
too_chained p [] xs c = record { chain = c.chain; within = let l = c.within in omega arith }
too_chained p (e ∷ es) xs c =
    let x : histories.Heard = record { place = suc p; prev = histories.last_place xs; events = e ∷ es } in
    let l = c.within in
    let k = last_is xs in
    record {
      chain = chain_added 0 xs x c.chain k (omega arith);
      within = let m : histories.last_place (xs ++ x ∷ []) ≡ suc p = last_is (xs ++ x ∷ []) ∙ last_added 0 xs x in omega arith;
    }

heard_chained : (h : histories.History) (s p : ℕ) → Chained p (histories.heard_upto h s p)
heard_chained h s zero = record { chain = tt; within = omega arith }
heard_chained h s (suc p) = too_chained p (histories.told_at h (suc p) s) (histories.heard_upto h s p) (heard_chained h s p)

-- the last place at which a session was told anything is never beyond the place that is asked for, and never falls
pub last_within : (h : histories.History) (s p : ℕ) → histories.last_told h s p ≤ p
last_within h s p = (heard_chained h s p).within

too_last : (p : ℕ) (es : List Event) (xs : List histories.Heard) → histories.last_place xs ≤ p → histories.last_place xs ≤ histories.last_place (histories.heard_too (suc p) es xs)
too_last p [] xs l = omega arith
too_last p (e ∷ es) xs l =
    let x : histories.Heard = record { place = suc p; prev = histories.last_place xs; events = e ∷ es } in
    let m : histories.last_place (xs ++ x ∷ []) ≡ suc p = last_is (xs ++ x ∷ []) ∙ last_added 0 xs x in
    omega arith

last_rises : (h : histories.History) (s p q : ℕ) → histories.last_told h s p ≤ histories.last_told h s (q + p)
last_rises h s p zero = let z : p ≡ 0 + p = omega arith in let e = ap (histories.last_told h s) z in omega arith
last_rises h s p (suc q) =
    let z : suc (q + p) ≡ suc q + p = omega arith in
    let e = ap (histories.last_told h s) z in
    let a = last_rises h s p q in
    let b : histories.last_told h s (q + p) ≤ histories.last_told h s (suc (q + p)) = too_last (q + p) (histories.told_at h (suc (q + p)) s) (histories.heard_upto h s (q + p)) (last_within h s (q + p)) in
    omega arith

-- of the events up to a place none stands beyond the last that is told
abbrev IsUpto : histories.History → ℕ → ℕ → histories.Heard → Type 0
IsUpto h s p e = e.place ≤ p → e.place ≤ histories.last_told h s p

too_upto : (h : histories.History) (s p m : ℕ) (es : List Event) → es ≡ histories.told_at h (suc m) s → AllByRecursion (IsUpto h s p) (histories.heard_upto h s m) → AllByRecursion (IsUpto h s p) (histories.heard_too (suc m) es (histories.heard_upto h s m))
too_upto h s p m [] is a = a
too_upto h s p m (e ∷ es) is a =
    let xs : List histories.Heard = histories.heard_upto h s m in
    let x : histories.Heard = record { place = suc m; prev = histories.last_place xs; events = e ∷ es } in
    let here : histories.last_told h s (suc m) ≡ suc m = ap (λ ts. histories.last_place (histories.heard_too (suc m) ts xs)) (sym is) ∙ last_is (xs ++ x ∷ []) ∙ last_added 0 xs x in
    let below : IsUpto h s p x = λ l.
    let r = last_rises h s (suc m) (p - suc m) in
    let z : p - suc m + suc m ≡ p = omega arith in
    let k = ap (histories.last_told h s) z in
    omega arith in
    all_append (IsUpto h s p) xs (x ∷ []) a (below, tt)

upto : (h : histories.History) (s p m : ℕ) → AllByRecursion (IsUpto h s p) (histories.heard_upto h s m)
upto h s p zero = tt
upto h s p (suc m) = too_upto h s p m (histories.told_at h (suc m) s) refl (upto h s p m)

pub events_chain : laws.EventsChain
events_chain h s = record {
  chain = (heard_chained h s (length h)).chain;
  last = λ p. upto h s p (length h);
}
