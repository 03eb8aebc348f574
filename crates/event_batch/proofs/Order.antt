-- Batches whose places rise: the heard ones stand at the front.
use Rattle.std.proofs.Common.{◌≡◌, ℕ, zero, suc, ◌+◌, ◌<◌, ◌≤◌, ◌∙◌, refl, sym, ap, arith, Bool, true, false, List, [], ◌∷◌, ◌++◌, length, drop, take, min, get_or}
use Rattle.std.proofs.lemmas.List.{take_min, drop-take, take_more, drop-append-le, length-take}
use Rattle.std.proofs.Math.Nat.{min_comm}
use Rattle.std.specs.Prelude.{filter}
use Rattle.std.specs.List.{slice_index_or}
use Rattle.std.specs.List.Sorted.{IsNonDecreasingBy}
use Rattle.ax_types.specs.declared.entries.Batch.{Batch}
use Rattle.event_batch.specs.BatchOrder as batch_order

-- one more batch, at a later place
pub Rise-push : (above last place : ℕ) (bs : List Batch) (b : Batch) → batch_order.Rise above last bs → last < b.place → b.place ≡ place → batch_order.Rise above place (bs ++ b ∷ [])
Rise-push above last place [] b r lt e = (omega arith, omega arith)
Rise-push above last place (x ∷ bs) b r lt e = (r.0, Rise-push x.place last place bs b r.1 lt e)

-- the rest of the batches
pub Rise-weaker : (above lower last : ℕ) (bs : List Batch) → lower ≤ above → batch_order.Rise above last bs → batch_order.Rise lower last bs
Rise-weaker above lower last [] le r = omega arith
Rise-weaker above lower last (x ∷ bs) le r = (omega arith, r.1)

pub Rise-drop : (above last n : ℕ) (bs : List Batch) → batch_order.Rise above last bs → batch_order.Rise above last (drop n bs)
Rise-drop above last zero bs r = r
Rise-drop above last (suc n) [] r = r
Rise-drop above last (suc n) (x ∷ bs) r = Rise-weaker x.place above last (drop n bs) (omega arith) (Rise-drop x.place last n bs r.1)

-- every later place is above
above_first : (above last : ℕ) (bs : List Batch) (j : ℕ) (d : Batch) → batch_order.Rise above last bs → j < length bs → above < (slice_index_or bs j d).place
above_first above last [] j d r lt = absurd (omega arith)
above_first above last (x ∷ bs) zero d r lt = r.0
above_first above last (x ∷ bs) (suc j) d r lt = let more : x.place < (slice_index_or bs j d).place = above_first x.place last bs j d r.1 (omega arith) in let first : above < x.place = r.0 in omega arith

pub rising : (above last : ℕ) (bs : List Batch) → batch_order.Rise above last bs → IsNonDecreasingBy (λ (b : Batch). b.place) bs
rising above last bs r = λ i j d le lt. by_place above bs r i j le lt d
  where
    by_place : (above : ℕ) (bs : List Batch) → batch_order.Rise above last bs → (i j : ℕ) → i ≤ j → j < length bs → (d : Batch) → (slice_index_or bs i d).place ≤ (slice_index_or bs j d).place
    by_place above [] r i j le lt d = absurd (omega arith)
    by_place above (x ∷ bs) r zero zero le lt d = omega arith
    by_place above (x ∷ bs) r zero (suc j) le lt d = let more : x.place < (slice_index_or bs j d).place = above_first x.place last bs j d r.1 (omega arith) in omega arith
    by_place above (x ∷ bs) r (suc i) zero le lt d = absurd (omega arith)
    by_place above (x ∷ bs) r (suc i) (suc j) le lt d = by_place x.place bs r.1 i j (omega arith) (omega arith) d

-- what a filter keeps of a list of which the first ones fail the test and the others pass
pub filter-from : {X : Type 0} (p : X → Bool) (n : ℕ) (xs : List X) → ((k : ℕ) (d : X) → k < n → k < length xs → p (slice_index_or xs k d) ≡ false)
    → ((k : ℕ) (d : X) → n ≤ k → k < length xs → p (slice_index_or xs k d) ≡ true) → filter p xs ≡ drop n xs
filter-from p zero [] fail pass = refl
filter-from p (suc n) [] fail pass = refl
filter-from {X} p zero (x ∷ xs) fail pass =
    rw (pass 0 x (omega arith) (omega arith)) (ap (λ (ys : List X). x ∷ ys) (filter-from p zero xs (λ k d lt _. absurd (omega arith)) (λ k d le lt. pass (suc k) d (omega arith) (omega arith))))
filter-from p (suc n) (x ∷ xs) fail pass =
    rw (fail 0 x (omega arith) (omega arith)) (filter-from p n xs (λ k d lt within. fail (suc k) d (omega arith) (omega arith)) (λ k d le lt. pass (suc k) d (omega arith) (omega arith)))

-- a window of at most n items, copied item by item
pub window : {X : Type 0} (start end n : ℕ) (xs : List X) → end ≡ min (length xs) (start + n) → drop start (take end xs) ≡ take n (drop start xs)
window start end n xs e =
    let whole : take end xs ≡ take (start + n) xs = ap (λ k. take k xs) (e ∙ min_comm (length xs) (start + n)) ∙ take_min (start + n) xs in
    rw whole (drop-take start n xs)

pub window-more : {X : Type 0} (start index : ℕ) (xs : List X) (d : X) → start ≤ index → index < length xs
    → drop start (take index xs) ++ get_or xs index d ∷ [] ≡ drop start (take (index + 1) xs)
window-more {X} start index xs d le lt =
    let long : start ≤ length (take index xs) = rw length-take (omega arith) in
    rw (take_more xs index d lt) (sym (drop-append-le start (take index xs) (get_or xs index d ∷ []) long))

pub window-filter : {X : Type 0} (n start end index : ℕ) (p : X → Bool) (xs ys : List X) → filter p xs ≡ drop start xs → end ≡ min (length xs) (start + n)
    → index ≡ end → ys ≡ drop start (take index xs) → ys ≡ take n (filter p xs)
window-filter {X} n start end index p xs ys front e same gives =
    gives ∙ (ap (λ k. drop start (take k xs)) same ∙ (window start end n xs e ∙ ap (λ (zs : List X). take n zs) (sym front)))
