-- Outboxes by where they stand: their sessions ascend.
use Rattle.std.proofs.Common.{◌≡◌, ℕ, zero, suc, ◌+◌, ◌<◌, ◌≤◌, ◌∙◌, refl, sym, ap, subst, arith, Bool, true, false, not, cond, nat_eq, nat_lt, List, [], ◌∷◌, ◌++◌, length, get_or, take, drop, map, filter, position, slice_get, Option, Some, None}
use Rattle.std.specs.Prelude.{find, if◌then◌else◌}
use Rattle.std.specs.List.{AllByRecursion, position_or_len, remove}
use Rattle.std.specs.List.Sorted.{IsNonDecreasingBy}
use Rattle.std.proofs.lemmas.Bool.{ltb-true, ltb-false}
use Rattle.std.proofs.lemmas.Bool.Decides.{nat_tests}
use Rattle.std.proofs.lemmas.List.Folds.{find_at}
use Rattle.std.proofs.lemmas.List.Quantifiers.{position-Some}
use Rattle.std.proofs.lemmas.Option.{slice_get_past, slice_get_read}
use Rattle.std.proofs.Math.ListN.{set}
use Rattle.spec_sessions.specs.Outboxes as outboxes
use Rattle.sess_state.specs.BoxOrder as box_order

-- whether an outbox is of a session
abbrev pub is_of : ℕ → outboxes.Outbox → Bool
is_of session o = nat_eq o.session session

pub above_apart : (n m : ℕ) → n < m → nat_eq m n ≡ false
above_apart n m less = grind (arith, nat_tests)

pub below_apart : (n m : ℕ) → m < n → nat_eq m n ≡ false
below_apart n m less = grind (arith, nat_tests)

pub same_number : (n m : ℕ) → m ≡ n → nat_eq m n ≡ true
same_number n m same = grind (arith, nat_tests)

pub number_same : (n m : ℕ) → nat_eq m n ≡ true → m ≡ n
number_same n m same = grind (arith, nat_tests)

pub apart_above : (n m : ℕ) → n ≤ m → nat_eq m n ≡ false → n < m
apart_above n m le apart = grind (arith, nat_tests)

-- the rest of an ascending list ascends
pub Ascend-rest : (n : ℕ) (boxes : List outboxes.Outbox) → box_order.AscendAbove n boxes → box_order.Ascend boxes
Ascend-rest n [] above = tt
Ascend-rest n (o ∷ boxes) above = above.1

pub AscendAbove-lower : (m n : ℕ) (boxes : List outboxes.Outbox) → m ≤ n → box_order.AscendAbove n boxes → box_order.AscendAbove m boxes
AscendAbove-lower m n [] le above = tt
AscendAbove-lower m n (o ∷ boxes) le above = (let first : n < o.session = above.0 in omega arith, above.1)

-- an outbox has a session above those before it
AscendAbove-at : (n : ℕ) (boxes : List outboxes.Outbox) (i : ℕ) (d : outboxes.Outbox) → box_order.AscendAbove n boxes → i < length boxes → n < (get_or boxes i d).session
AscendAbove-at n [] i d above at = absurd (omega arith)
AscendAbove-at n (o ∷ boxes) zero d above at = above.0
AscendAbove-at n (o ∷ boxes) (suc i) d above at =
    let inner : i < length boxes = omega arith in
    let rest : o.session < (get_or boxes i d).session = AscendAbove-at o.session boxes i d above.1 inner in
    let less : n < o.session = above.0 in
    omega arith

-- sessions do not fall along an ascending list
pub sessions_rise : (boxes : List outboxes.Outbox) → box_order.Ascend boxes → IsNonDecreasingBy (λ (o : outboxes.Outbox). o.session) boxes
sessions_rise [] ascend i j d le lt = absurd (omega arith)
sessions_rise (o ∷ boxes) ascend zero zero d le lt = omega arith
sessions_rise (o ∷ boxes) ascend zero (suc j) d le lt = let more : o.session < (get_or boxes j d).session = AscendAbove-at o.session boxes j d ascend (omega arith) in omega arith
sessions_rise (o ∷ boxes) ascend (suc i) zero d le lt = absurd (omega arith)
sessions_rise (o ∷ boxes) ascend (suc i) (suc j) d le lt = sessions_rise boxes (Ascend-rest o.session boxes ascend) i j d (omega arith) (omega arith)

-- where an outbox of a session stands, by its index
position_or_len-at : (n : ℕ) (boxes : List outboxes.Outbox) (i : ℕ) (d : outboxes.Outbox) → box_order.Ascend boxes → i < length boxes
    → (get_or boxes i d).session ≡ n → position_or_len (is_of n) boxes ≡ i
position_or_len-at n [] i d ascend at is = absurd (omega arith)
position_or_len-at n (o ∷ boxes) zero d ascend at is = rw (same_number n o.session is) refl
position_or_len-at n (o ∷ boxes) (suc i) d ascend at is =
    let inner : i < length boxes = omega arith in
    let less : o.session < (get_or boxes i d).session = AscendAbove-at o.session boxes i d ascend inner in
    let below : o.session < n = omega arith in
    let rest : position_or_len (is_of n) boxes ≡ i = position_or_len-at n boxes i d (Ascend-rest o.session boxes ascend) inner is in
    let one_more : 1 + position_or_len (is_of n) boxes ≡ suc i = omega arith in
    rw (below_apart n o.session below) one_more

pub position_at : (n : ℕ) (boxes : List outboxes.Outbox) (i : ℕ) (o : outboxes.Outbox) → box_order.Ascend boxes → slice_get boxes i ≡ Some o
    → nat_eq o.session n ≡ true → position (is_of n) boxes ≡ Some i
position_at n boxes i o ascend there same = by_place i boxes there ascend
  where
    by_place : (i : ℕ) (boxes : List outboxes.Outbox) → slice_get boxes i ≡ Some o → box_order.Ascend boxes → position (is_of n) boxes ≡ Some i
    by_place i boxes there ascend =
        let at = read i boxes there in
        let here : position_or_len (is_of n) boxes ≡ i = position_or_len-at n boxes i o ascend at.0 (ap (λ (b : outboxes.Outbox). b.session) at.1 ∙ number_same n o.session same) in
        let within : nat_lt i (length boxes) ≡ true = (let lt : i < length boxes = at.0 in grind (arith, nat_tests)) in
        rw (here, within) refl
      where
        read : (i : ℕ) (boxes : List outboxes.Outbox) → slice_get boxes i ≡ Some o → (i < length boxes) × (get_or boxes i o ≡ o)
        read i [] e = cc
        read zero (b ∷ boxes) e = (omega arith, cc)
        read (suc i) (b ∷ boxes) e = let more = read i boxes e in (omega (arith, more.0), more.1)

pub position_where : (n i : ℕ) (boxes : List outboxes.Outbox) → box_order.Ascend boxes → box_order.is_box_of n (slice_get boxes i) ≡ true → position (is_of n) boxes ≡ Some i
position_where n i boxes ascend there = by_box (slice_get boxes i) refl there
  where
    by_box : (x : Option outboxes.Outbox) → slice_get boxes i ≡ x → box_order.is_box_of n x ≡ true → position (is_of n) boxes ≡ Some i
    by_box None e same = cc
    by_box (Some o) e same = position_at n boxes i o ascend e same

-- no outbox is of a session, where those up to an index have lower ones, and the next has another, not lower one
position_or_len-above : (n : ℕ) (boxes : List outboxes.Outbox) → box_order.AscendAbove n boxes → position_or_len (is_of n) boxes ≡ length boxes
position_or_len-above n [] above = refl
position_or_len-above n (o ∷ boxes) above =
    let first : n < o.session = above.0 in
    let rest : position_or_len (is_of n) boxes ≡ length boxes = position_or_len-above n boxes (AscendAbove-lower n o.session boxes (omega arith) above.1) in
    let one_more : 1 + position_or_len (is_of n) boxes ≡ length (o ∷ boxes) = omega arith in
    rw (above_apart n o.session above.0) one_more

position_or_len-none : (n i : ℕ) (boxes : List outboxes.Outbox) → box_order.Ascend boxes
    → ((k : ℕ) (d : outboxes.Outbox) → k < i → k < length boxes → (get_or boxes k d).session < n)
    → ((k : ℕ) (d : outboxes.Outbox) → i ≤ k → k < length boxes → n ≤ (get_or boxes k d).session)
    → box_order.is_box_of n (slice_get boxes i) ≡ false → position_or_len (is_of n) boxes ≡ length boxes
position_or_len-none n i [] ascend lower higher apart = refl
position_or_len-none n zero (o ∷ boxes) ascend lower higher apart =
    let le : n ≤ o.session = higher 0 o (omega arith) (omega arith) in
    position_or_len-above n (o ∷ boxes) (apart_above n o.session le apart, ascend)
position_or_len-none n (suc i) (o ∷ boxes) ascend lower higher apart =
    let less : o.session < n = lower 0 o (omega arith) (omega arith) in
    let rest : position_or_len (is_of n) boxes ≡ length boxes =
    position_or_len-none n i boxes (Ascend-rest o.session boxes ascend) (λ k d lt within. lower (suc k) d (omega arith) (omega arith))
    (λ k d le within. higher (suc k) d (omega arith) (omega arith)) apart in
    let one_more : 1 + position_or_len (is_of n) boxes ≡ length (o ∷ boxes) = omega arith in
    rw (below_apart n o.session less) one_more

pub position_none : (n i : ℕ) (boxes : List outboxes.Outbox) → box_order.Ascend boxes
    → ((k : ℕ) (d : outboxes.Outbox) → k < i → k < length boxes → (get_or boxes k d).session < n)
    → ((k : ℕ) (d : outboxes.Outbox) → i ≤ k → k < length boxes → n ≤ (get_or boxes k d).session)
    → box_order.is_box_of n (slice_get boxes i) ≡ false → position (is_of n) boxes ≡ None
position_none n i boxes ascend lower higher apart =
    let none : position_or_len (is_of n) boxes ≡ length boxes = position_or_len-none n i boxes ascend lower higher apart in
    let past : nat_lt (length boxes) (length boxes) ≡ false = grind (arith, nat_tests) in
    rw (none, past) refl

-- what `position` says of the place
position-is : (p : outboxes.Outbox → Bool) (boxes : List outboxes.Outbox) (i : ℕ) → position p boxes ≡ Some i → (i < length boxes) × (position_or_len p boxes ≡ i)
position-is p boxes i is = by_test (nat_lt (position_or_len p boxes) (length boxes)) refl is
  where
    by_test : (b : Bool) → nat_lt (position_or_len p boxes) (length boxes) ≡ b → cond b (Some (position_or_len p boxes)) None ≡ Some i → (i < length boxes) × (position_or_len p boxes ≡ i)
    by_test true e at =
        let same : position_or_len p boxes ≡ i = cc in
        let less : position_or_len p boxes < length boxes = ltb-true _ _ e in
        (omega arith, same)
    by_test false e at = absurd (cc)

position-past : (p : outboxes.Outbox → Bool) (boxes : List outboxes.Outbox) → position p boxes ≡ None → length boxes ≤ position_or_len p boxes
position-past p boxes is = by_test (nat_lt (position_or_len p boxes) (length boxes)) refl is
  where
    by_test : (b : Bool) → nat_lt (position_or_len p boxes) (length boxes) ≡ b → cond b (Some (position_or_len p boxes)) None ≡ None → length boxes ≤ position_or_len p boxes
    by_test true e at = absurd (cc)
    by_test false e at = ltb-false _ _ e

pub box_at : (n : ℕ) (boxes : List outboxes.Outbox) (i : ℕ) → position (is_of n) boxes ≡ Some i → outboxes.outbox_of boxes n ≡ slice_get boxes i
box_at n boxes i is = find_at (is_of n) boxes ∙ ap (slice_get boxes) (position-is (is_of n) boxes i is).1

pub no_box : (n : ℕ) (boxes : List outboxes.Outbox) → position (is_of n) boxes ≡ None → outboxes.outbox_of boxes n ≡ None
no_box n boxes is = find_at (is_of n) boxes ∙ slice_get_past boxes (position_or_len (is_of n) boxes) (position-past (is_of n) boxes is)

-- the outbox at the place that was found is of the session
pub session_at : (n : ℕ) (boxes : List outboxes.Outbox) (i : ℕ) (d : outboxes.Outbox) → position (is_of n) boxes ≡ Some i → (get_or boxes i d).session ≡ n
session_at n boxes i d is = number_same n (get_or boxes i d).session (position-Some (is_of n) boxes i d is).1

-- a change of the outbox of a session is one where it stands
apart-changed : (f : outboxes.Outbox → outboxes.Outbox) (n : ℕ) (o : outboxes.Outbox) → nat_eq o.session n ≡ false → (if nat_eq o.session n then f o else o) ≡ o
apart-changed f n o apart = rw apart refl

pub change-above : (f : outboxes.Outbox → outboxes.Outbox) (n : ℕ) (boxes : List outboxes.Outbox) → box_order.AscendAbove n boxes → outboxes.change_outbox f n boxes ≡ boxes
change-above f n [] above = refl
change-above f n (o ∷ boxes) above =
    let first : n < o.session = above.0 in
    rw (above_apart n o.session above.0) (ap (λ (bs : List outboxes.Outbox). o ∷ bs) (change-above f n boxes (AscendAbove-lower n o.session boxes (omega arith) above.1)))

change-at : (f : outboxes.Outbox → outboxes.Outbox) (n : ℕ) (boxes : List outboxes.Outbox) (i : ℕ) (d : outboxes.Outbox) → box_order.Ascend boxes → i < length boxes
    → (get_or boxes i d).session ≡ n → outboxes.change_outbox f n boxes ≡ set boxes i (f (get_or boxes i d))
change-at f n [] i d ascend at is = absurd (omega arith)
change-at f n (o ∷ boxes) zero d ascend at is =
    let above : box_order.AscendAbove n boxes = subst (λ (m : ℕ). box_order.AscendAbove m boxes) is ascend in
    rw (same_number n o.session is) (ap (λ (bs : List outboxes.Outbox). f o ∷ bs) (change-above f n boxes above))
change-at f n (o ∷ boxes) (suc i) d ascend at is =
    let inner : i < length boxes = omega arith in
    let less : o.session < (get_or boxes i d).session = AscendAbove-at o.session boxes i d ascend inner in
    let below : o.session < n = omega arith in
    rw (below_apart n o.session below) (ap (λ (bs : List outboxes.Outbox). o ∷ bs) (change-at f n boxes i d (Ascend-rest o.session boxes ascend) inner is))

pub change_found : (f : outboxes.Outbox → outboxes.Outbox) (n : ℕ) (boxes : List outboxes.Outbox) (i : ℕ) (d : outboxes.Outbox) → box_order.Ascend boxes
    → position (is_of n) boxes ≡ Some i → outboxes.change_outbox f n boxes ≡ set boxes i (f (get_or boxes i d))
change_found f n boxes i d ascend is = change-at f n boxes i d ascend (position-Some (is_of n) boxes i d is).0 (session_at n boxes i d is)

change-past : (f : outboxes.Outbox → outboxes.Outbox) (n : ℕ) (boxes : List outboxes.Outbox) → length boxes ≤ position_or_len (is_of n) boxes → outboxes.change_outbox f n boxes ≡ boxes
change-past f n [] at = refl
change-past f n (o ∷ boxes) at = by_test (nat_eq o.session n) refl at (change-past f n boxes)
  where
    by_test : (b : Bool) → nat_eq o.session n ≡ b → length (o ∷ boxes) ≤ cond (not b) (1 + position_or_len (is_of n) boxes) 0
        → (length boxes ≤ position_or_len (is_of n) boxes → outboxes.change_outbox f n boxes ≡ boxes) → outboxes.change_outbox f n (o ∷ boxes) ≡ o ∷ boxes
    by_test true e le rest = absurd (omega arith)
    by_test false e le rest = rw (apart-changed f n o e) (ap (λ (bs : List outboxes.Outbox). o ∷ bs) (rest (omega arith)))

pub change_none : (f : outboxes.Outbox → outboxes.Outbox) (n : ℕ) (boxes : List outboxes.Outbox) → position (is_of n) boxes ≡ None → outboxes.change_outbox f n boxes ≡ boxes
change_none f n boxes is = change-past f n boxes (position-past (is_of n) boxes is)

-- letting go the outbox of a session takes out the one where it stands
without-above : (n : ℕ) (boxes : List outboxes.Outbox) → box_order.AscendAbove n boxes → outboxes.without_outbox boxes n ≡ boxes
without-above n [] above = refl
without-above n (o ∷ boxes) above =
    let first : n < o.session = above.0 in
    rw (above_apart n o.session above.0) (ap (λ (bs : List outboxes.Outbox). o ∷ bs) (without-above n boxes (AscendAbove-lower n o.session boxes (omega arith) above.1)))

without-at : (n : ℕ) (boxes : List outboxes.Outbox) (i : ℕ) (d : outboxes.Outbox) → box_order.Ascend boxes → i < length boxes
    → (get_or boxes i d).session ≡ n → outboxes.without_outbox boxes n ≡ remove boxes i
without-at n [] i d ascend at is = absurd (omega arith)
without-at n (o ∷ boxes) zero d ascend at is =
    let above : box_order.AscendAbove n boxes = subst (λ (m : ℕ). box_order.AscendAbove m boxes) is ascend in
    rw (same_number n o.session is) (without-above n boxes above)
without-at n (o ∷ boxes) (suc i) d ascend at is =
    let inner : i < length boxes = omega arith in
    let less : o.session < (get_or boxes i d).session = AscendAbove-at o.session boxes i d ascend inner in
    let below : o.session < n = omega arith in
    rw (below_apart n o.session below) (ap (λ (bs : List outboxes.Outbox). o ∷ bs) (without-at n boxes i d (Ascend-rest o.session boxes ascend) inner is))

pub without_found : (n : ℕ) (boxes : List outboxes.Outbox) (i : ℕ) (d : outboxes.Outbox) → box_order.Ascend boxes
    → position (is_of n) boxes ≡ Some i → outboxes.without_outbox boxes n ≡ remove boxes i
without_found n boxes i d ascend is = without-at n boxes i d ascend (position-Some (is_of n) boxes i d is).0 (session_at n boxes i d is)

without-past : (n : ℕ) (boxes : List outboxes.Outbox) → length boxes ≤ position_or_len (is_of n) boxes → outboxes.without_outbox boxes n ≡ boxes
without-past n [] at = refl
without-past n (o ∷ boxes) at = by_test (nat_eq o.session n) refl at (without-past n boxes)
  where
    by_test : (b : Bool) → nat_eq o.session n ≡ b → length (o ∷ boxes) ≤ cond (not b) (1 + position_or_len (is_of n) boxes) 0
        → (length boxes ≤ position_or_len (is_of n) boxes → outboxes.without_outbox boxes n ≡ boxes) → outboxes.without_outbox (o ∷ boxes) n ≡ o ∷ boxes
    by_test true e le rest = absurd (omega arith)
    by_test false e le rest = rw e (ap (λ (bs : List outboxes.Outbox). o ∷ bs) (rest (omega arith)))

pub without_none : (n : ℕ) (boxes : List outboxes.Outbox) → position (is_of n) boxes ≡ None → outboxes.without_outbox boxes n ≡ boxes
without_none n boxes is = without-past n boxes (position-past (is_of n) boxes is)

-- sessions ascend after a change of one outbox, after one more, and after one less
AscendAbove-set : (n : ℕ) (boxes : List outboxes.Outbox) (i : ℕ) (d o : outboxes.Outbox) → o.session ≡ (get_or boxes i d).session → i < length boxes
    → box_order.AscendAbove n boxes → box_order.AscendAbove n (set boxes i o)
AscendAbove-set n [] i d o same at above = absurd (omega arith)
AscendAbove-set n (b ∷ boxes) zero d o same at above = (rw same above.0, subst (λ (m : ℕ). box_order.AscendAbove m boxes) (sym same) above.1)
AscendAbove-set n (b ∷ boxes) (suc i) d o same at above = (above.0, AscendAbove-set b.session boxes i d o same (omega arith) above.1)

pub Ascend-set : (boxes : List outboxes.Outbox) (i : ℕ) (d o : outboxes.Outbox) → o.session ≡ (get_or boxes i d).session → i < length boxes
    → box_order.Ascend boxes → box_order.Ascend (set boxes i o)
Ascend-set [] i d o same at ascend = absurd (omega arith)
Ascend-set (b ∷ boxes) zero d o same at ascend = subst (λ (m : ℕ). box_order.AscendAbove m boxes) (sym same) ascend
Ascend-set (b ∷ boxes) (suc i) d o same at ascend = AscendAbove-set b.session boxes i d o same (omega arith) ascend

AscendAbove-push : (n : ℕ) (boxes : List outboxes.Outbox) (o : outboxes.Outbox) → n < o.session → AllByRecursion (λ b. b.session < o.session) boxes
    → box_order.AscendAbove n boxes → box_order.AscendAbove n (boxes ++ o ∷ [])
AscendAbove-push n [] o less below above = (less, tt)
AscendAbove-push n (b ∷ boxes) o less below above = (above.0, AscendAbove-push b.session boxes o below.0 below.1 above.1)

pub Ascend-push : (boxes : List outboxes.Outbox) (o : outboxes.Outbox) → AllByRecursion (λ b. b.session < o.session) boxes
    → box_order.Ascend boxes → box_order.Ascend (boxes ++ o ∷ [])
Ascend-push [] o below ascend = tt
Ascend-push (b ∷ boxes) o below ascend = AscendAbove-push b.session boxes o below.0 below.1 ascend

AscendAbove-remove : (n : ℕ) (boxes : List outboxes.Outbox) (i : ℕ) → box_order.AscendAbove n boxes → box_order.AscendAbove n (remove boxes i)
AscendAbove-remove n [] zero above = tt
AscendAbove-remove n [] (suc i) above = tt
AscendAbove-remove n (b ∷ boxes) zero above = let first : n < b.session = above.0 in AscendAbove-lower n b.session boxes (omega arith) above.1
AscendAbove-remove n (b ∷ boxes) (suc i) above = (above.0, AscendAbove-remove b.session boxes i above.1)

pub Ascend-remove : (boxes : List outboxes.Outbox) (i : ℕ) → box_order.Ascend boxes → box_order.Ascend (remove boxes i)
Ascend-remove [] zero ascend = tt
Ascend-remove [] (suc i) ascend = tt
Ascend-remove (b ∷ boxes) zero ascend = Ascend-rest b.session boxes ascend
Ascend-remove (b ∷ boxes) (suc i) ascend = AscendAbove-remove b.session boxes i ascend

-- what was found at the place, what changing it there makes of all, and that sessions ascend then
pub found_there : (n : ℕ) (boxes : List outboxes.Outbox) (i : ℕ) (o : outboxes.Outbox) → position (is_of n) boxes ≡ Some i → o ≡ get_or boxes i o → outboxes.outbox_of boxes n ≡ Some o
found_there n boxes i o is there = box_at n boxes i is ∙ slice_get_read boxes (length boxes) i o refl (position-Some (is_of n) boxes i o is).0 there

pub changed_there : (f : outboxes.Outbox → outboxes.Outbox) (n : ℕ) (boxes : List outboxes.Outbox) (i : ℕ) (o w : outboxes.Outbox) → box_order.Ascend boxes
    → position (is_of n) boxes ≡ Some i → o ≡ get_or boxes i o → w ≡ f o → set boxes i w ≡ outboxes.change_outbox f n boxes
changed_there f n boxes i o w ascend is there made =
    ap (λ (b : outboxes.Outbox). set boxes i b) (made ∙ ap f there) ∙ sym (change_found f n boxes i o ascend is)

pub ascend_there : (n : ℕ) (boxes : List outboxes.Outbox) (i : ℕ) (o w : outboxes.Outbox) → box_order.Ascend boxes → position (is_of n) boxes ≡ Some i → o ≡ get_or boxes i o
    → w.session ≡ o.session → box_order.Ascend (set boxes i w)
ascend_there n boxes i o w ascend is there same =
    Ascend-set boxes i o w (same ∙ ap (λ (b : outboxes.Outbox). b.session) there) (position-Some (is_of n) boxes i o is).0 ascend
