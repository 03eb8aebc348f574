-- Calls by their numbers, which ascend.
use Rattle.std.proofs.Common.{◌≡◌, ℕ, zero, suc, ◌+◌, ◌<◌, ◌≤◌, Bool, true, false, nat_eq, nat_lt, cond, List, [], ◌∷◌, ◌++◌, length, get_or, map, Option, Some, None, position, slice_get, refl, sym, ap, ◌∙◌, subst, arith}
use Rattle.std.specs.Prelude.{if◌then◌else◌, find, ◌&&◌, not, is_some}
use Rattle.std.specs.List.{position_or_len}
use Rattle.std.proofs.lemmas.Bool.{ltb-true, ltb-false}
use Rattle.std.proofs.lemmas.Bool.Decides.{nat_tests}
use Rattle.std.proofs.lemmas.List.Folds.{find_at}
use Rattle.std.proofs.lemmas.List.Quantifiers.{position-Some}
use Rattle.std.proofs.lemmas.Option.{slice_get_past}
use Rattle.std.proofs.Math.ListN.{set}
use Rattle.ax_types.specs.declared.ops.Level.{Level}
use Rattle.ax_types.specs.declared.sessions.Got.{Got}
use Rattle.spec_sequencer.specs.Sequencers as sequencers
use Rattle.spec_client.specs.Clients as clients
use Rattle.spec_client.specs.Receipts as receipts
use Rattle.cli_sequencer.specs.Numbers as numbers

-- whether a call has this number
abbrev pub has_number : ℕ → sequencers.Unanswered → Bool
has_number n u = nat_eq u.number n

-- the rest of an ascending list ascends
pub AreAscending-rest : (n : ℕ) (us : List sequencers.Unanswered) → numbers.AreAbove n us → numbers.AreAscending us
AreAscending-rest n [] above = tt
AreAscending-rest n (u ∷ us) above = above.1

-- one more call with a greater number
AreAbove-push : (n : ℕ) (us : List sequencers.Unanswered) (u : sequencers.Unanswered) → n < u.number → numbers.AreAbove n us → numbers.AreBelow u.number us
    → numbers.AreAbove n (us ++ u ∷ [])
AreAbove-push n [] u less above below = (less, tt)
AreAbove-push n (v ∷ us) u less above below = (above.0, AreAbove-push v.number us u below.0 above.1 below.1)

pub AreAscending_push : (us : List sequencers.Unanswered) (u : sequencers.Unanswered) → numbers.AreAscending us → numbers.AreBelow u.number us
    → numbers.AreAscending (us ++ u ∷ [])
AreAscending_push [] u ascending below = tt
AreAscending_push (v ∷ us) u ascending below = AreAbove-push v.number us u below.0 ascending below.1

-- a call at an index has a number above those before it
AreAbove-at : (n : ℕ) (us : List sequencers.Unanswered) (i : ℕ) (d : sequencers.Unanswered) → numbers.AreAbove n us → i < length us → n < (get_or us i d).number
AreAbove-at n [] i d above at = absurd (omega arith)
AreAbove-at n (u ∷ us) zero d above at = above.0
AreAbove-at n (u ∷ us) (suc i) d above at =
    let inner : i < length us = omega arith in
    let rest : u.number < (get_or us i d).number = AreAbove-at u.number us i d above.1 inner in
    let less : n < u.number = above.0 in
    omega arith

above_apart : (n m : ℕ) → n < m → nat_eq m n ≡ false
above_apart n m less = grind (arith, nat_tests)

below_apart : (n m : ℕ) → m < n → nat_eq m n ≡ false
below_apart n m less = grind (arith, nat_tests)

same_number : (n m : ℕ) → m ≡ n → nat_eq m n ≡ true
same_number n m same = grind (arith, nat_tests)

-- where a call with a number stands, by its index
pub position_or_len-at : (n : ℕ) (us : List sequencers.Unanswered) (i : ℕ) (d : sequencers.Unanswered) → numbers.AreAscending us → i < length us
    → (get_or us i d).number ≡ n → position_or_len (has_number n) us ≡ i
position_or_len-at n [] i d ascending at is = absurd (omega arith)
position_or_len-at n (u ∷ us) zero d ascending at is = rw (same_number n u.number is) refl
position_or_len-at n (u ∷ us) (suc i) d ascending at is =
    let inner : i < length us = omega arith in
    let less : u.number < (get_or us i d).number = AreAbove-at u.number us i d ascending inner in
    let below : u.number < n = omega arith in
    let rest : position_or_len (has_number n) us ≡ i = position_or_len-at n us i d (AreAscending-rest u.number us ascending) inner is in
    let one_more : 1 + position_or_len (has_number n) us ≡ suc i = omega arith in
    rw (below_apart n u.number below) one_more

pub position_at : (n k : ℕ) (us : List sequencers.Unanswered) (i : ℕ) (u : sequencers.Unanswered) → numbers.AreAscending us → i < length us
    → u ≡ get_or us i u → k ≡ u.number → k ≡ n → Some i ≡ position (has_number n) us
position_at n k us i u ascending at is own same =
    let number : (get_or us i u).number ≡ n = ap (λ (v : sequencers.Unanswered). v.number) (sym is) ∙ sym own ∙ same in
    let here : position_or_len (has_number n) us ≡ i = position_or_len-at n us i u ascending at number in
    let within : nat_lt i (length us) ≡ true = grind (arith, nat_tests) in
    rw (here, within) refl

-- no call above a number has it
position_or_len-above : (n : ℕ) (us : List sequencers.Unanswered) → numbers.AreAbove n us → position_or_len (has_number n) us ≡ length us
position_or_len-above n [] above = refl
position_or_len-above n (u ∷ us) above =
    let rest : position_or_len (has_number n) us ≡ length us = position_or_len-above n us (AreAbove-lower n u.number us above.0 above.1) in
    let one_more : 1 + position_or_len (has_number n) us ≡ length (u ∷ us) = omega arith in
    rw (above_apart n u.number above.0) one_more
  where
    AreAbove-lower : (m k : ℕ) (vs : List sequencers.Unanswered) → m < k → numbers.AreAbove k vs → numbers.AreAbove m vs
    AreAbove-lower m k [] less above = tt
    AreAbove-lower m k (v ∷ vs) less above = (let next : k < v.number = above.0 in omega arith, above.1)

pub position_below_first : (n k : ℕ) (us : List sequencers.Unanswered) (u : sequencers.Unanswered) → numbers.AreAscending us
    → u ≡ get_or us 0 u → k ≡ u.number → n < k → None ≡ position (has_number n) us
position_below_first n k [] u ascending is own less = refl
position_below_first n k (v ∷ us) u ascending is own less =
    let number : k ≡ v.number = own ∙ ap (λ (w : sequencers.Unanswered). w.number) is in
    let below : n < v.number = omega arith in
    let none : position_or_len (has_number n) (v ∷ us) ≡ length (v ∷ us) = position_or_len-above n (v ∷ us) (below, ascending) in
    let past : nat_lt (length (v ∷ us)) (length (v ∷ us)) ≡ false = grind (arith, nat_tests) in
    rw (none, past) refl

-- what `position` says of the place
pub position-is : (p : sequencers.Unanswered → Bool) (us : List sequencers.Unanswered) (i : ℕ) → position p us ≡ Some i → (i < length us) × (position_or_len p us ≡ i)
position-is p us i is = by_test (nat_lt (position_or_len p us) (length us)) refl is
  where
    by_test : (b : Bool) → nat_lt (position_or_len p us) (length us) ≡ b → cond b (Some (position_or_len p us)) None ≡ Some i → (i < length us) × (position_or_len p us ≡ i)
    by_test true e at =
        let same : position_or_len p us ≡ i = cc in
        let less : position_or_len p us < length us = ltb-true _ _ e in
        (omega arith, same)
    by_test false e at = absurd (cc)

pub position-none : (p : sequencers.Unanswered → Bool) (us : List sequencers.Unanswered) → position p us ≡ None → length us ≤ position_or_len p us
position-none p us is = by_test (nat_lt (position_or_len p us) (length us)) refl is
  where
    by_test : (b : Bool) → nat_lt (position_or_len p us) (length us) ≡ b → cond b (Some (position_or_len p us)) None ≡ None → length us ≤ position_or_len p us
    by_test true e at = absurd (cc)
    by_test false e at = ltb-false _ _ e

-- the call at the place that `position` gives is the one that `find` gives
pub find_at_position : (p : sequencers.Unanswered → Bool) (us : List sequencers.Unanswered) (i : ℕ) → position p us ≡ Some i → find p us ≡ slice_get us i
find_at_position p us i is = find_at p us ∙ ap (slice_get us) (position-is p us i is).1

pub find_no_position : (p : sequencers.Unanswered → Bool) (us : List sequencers.Unanswered) → position p us ≡ None → find p us ≡ None
find_no_position p us is = find_at p us ∙ slice_get_past us (position_or_len p us) (position-none p us is)

-- the query with a number and a level is the call with the number, where it has the level
abbrev pub at_level : Level → Option sequencers.Unanswered → Option sequencers.Unanswered
at_level l None = None
at_level l (Some u) = if receipts.has_level l u.level then Some u else None

no_query : (n : ℕ) (l : Level) (us : List sequencers.Unanswered) → numbers.AreAbove n us → receipts.asked_query us n l ≡ None
no_query n l [] above = refl
no_query n l (u ∷ us) above = rw (above_apart n u.number above.0) (no_query n l us (lower n u.number us above.0 above.1))
  where
    lower : (m k : ℕ) (vs : List sequencers.Unanswered) → m < k → numbers.AreAbove k vs → numbers.AreAbove m vs
    lower m k [] less above = tt
    lower m k (v ∷ vs) less above = (let next : k < v.number = above.0 in omega arith, above.1)

pub asked_query_by_number : (n : ℕ) (l : Level) (us : List sequencers.Unanswered) → numbers.AreAscending us
    → receipts.asked_query us n l ≡ at_level l (find (has_number n) us)
asked_query_by_number n l [] ascending = refl
asked_query_by_number n l (u ∷ us) ascending = by_test (nat_eq u.number n) refl (asked_query_by_number n l us (AreAscending-rest u.number us ascending))
  where
    by_level : (b : Bool) → cond b (Some u) None ≡ (if b then Some u else None)
    by_level true = refl
    by_level false = refl

    by_test : (b : Bool) → nat_eq u.number n ≡ b → receipts.asked_query us n l ≡ at_level l (find (has_number n) us)
        → cond (b && receipts.has_level l u.level) (Some u) (receipts.asked_query us n l) ≡ at_level l (cond b (Some u) (find (has_number n) us))
    by_test true e rest =
        let same : u.number ≡ n = grind (arith, nat_tests) in
        let above : numbers.AreAbove n us = subst (λ (m : ℕ). numbers.AreAbove m us) same ascending in
        rw (no_query n l us above) (by_level (receipts.has_level l u.level))
    by_test false e rest = rest

-- whether a call lacks an answer, by the call with the number
abbrev pub lacks_at : Option sequencers.Unanswered → Bool
lacks_at None = false
lacks_at (Some u) = not (is_some u.got)

pub lacks_answer_by_number : (us : List sequencers.Unanswered) (n : ℕ) → clients.lacks_answer us n ≡ lacks_at (find (has_number n) us)
lacks_answer_by_number [] n = refl
lacks_answer_by_number (u ∷ us) n = by_test (nat_eq u.number n) (lacks_answer_by_number us n)
  where
    by_test : (b : Bool) → clients.lacks_answer us n ≡ lacks_at (find (has_number n) us) → (if b then not (is_some u.got) else clients.lacks_answer us n) ≡ lacks_at (cond b (Some u) (find (has_number n) us))
    by_test true rest = refl
    by_test false rest = rest

-- an answer changes the call with its number alone
get_answer-apart : (n : ℕ) (g : Got) (u : sequencers.Unanswered) → nat_eq u.number n ≡ false → sequencers.get_answer n g u ≡ u
get_answer-apart n g u apart = rw apart refl

get_answer-number : (n : ℕ) (g : Got) (u : sequencers.Unanswered) → (sequencers.get_answer n g u).number ≡ u.number
get_answer-number n g u = by_test (nat_eq u.number n)
  where
    by_test : (b : Bool) → (let v : sequencers.Unanswered = if b then record u { got = Some (sequencers.first_got u.got g) } else u in v.number) ≡ u.number
    by_test true = refl
    by_test false = refl

answers-above : (n : ℕ) (g : Got) (us : List sequencers.Unanswered) → numbers.AreAbove n us → map (sequencers.get_answer n g) us ≡ us
answers-above n g [] above = refl
answers-above n g (u ∷ us) above =
    rw (get_answer-apart n g u (above_apart n u.number above.0), answers-above n g us (lower n u.number us above.0 above.1)) refl
  where
    lower : (m k : ℕ) (vs : List sequencers.Unanswered) → m < k → numbers.AreAbove k vs → numbers.AreAbove m vs
    lower m k [] less above = tt
    lower m k (v ∷ vs) less above = (let next : k < v.number = above.0 in omega arith, above.1)

-- the call with the number gets it, where it stands
answers-at : (n : ℕ) (g : Got) (us : List sequencers.Unanswered) (i : ℕ) (d : sequencers.Unanswered) → numbers.AreAscending us → i < length us → (get_or us i d).number ≡ n
    → map (sequencers.get_answer n g) us ≡ set us i (record (get_or us i d) { got = Some (sequencers.first_got (get_or us i d).got g) })
answers-at n g [] i d ascending at is = absurd (omega arith)
answers-at n g (u ∷ us) zero d ascending at is =
    let above : numbers.AreAbove n us = subst (λ (m : ℕ). numbers.AreAbove m us) is ascending in
    rw (same_number n u.number is, answers-above n g us above) refl
answers-at n g (u ∷ us) (suc i) d ascending at is =
    let inner : i < length us = omega arith in
    let less : u.number < (get_or us i d).number = AreAbove-at u.number us i d ascending inner in
    let below : u.number < n = omega arith in
    rw (get_answer-apart n g u (below_apart n u.number below), answers-at n g us i d (AreAscending-rest u.number us ascending) inner is) refl

number_at : (n : ℕ) (us : List sequencers.Unanswered) (i : ℕ) (d : sequencers.Unanswered) → position (has_number n) us ≡ Some i → (get_or us i d).number ≡ n
number_at n us i d is =
    let test : has_number n (get_or us i d) ≡ true = (position-Some (has_number n) us i d is).1 in
    grind (arith, nat_tests)

-- where a call with the number stands, its answer changes it there
pub answers_found : (n : ℕ) (g : Got) (us : List sequencers.Unanswered) (i : ℕ) (d : sequencers.Unanswered) → numbers.AreAscending us → position (has_number n) us ≡ Some i
    → map (sequencers.get_answer n g) us ≡ set us i (record (get_or us i d) { got = Some (sequencers.first_got (get_or us i d).got g) })
answers_found n g us i d ascending is = answers-at n g us i d ascending (position-Some (has_number n) us i d is).0 (number_at n us i d is)

answers-absent : (n : ℕ) (g : Got) (us : List sequencers.Unanswered) → length us ≤ position_or_len (has_number n) us → map (sequencers.get_answer n g) us ≡ us
answers-absent n g [] at = refl
answers-absent n g (u ∷ us) at = by_test (nat_eq u.number n) refl at (answers-absent n g us)
  where
    by_test : (b : Bool) → nat_eq u.number n ≡ b → length (u ∷ us) ≤ cond (not b) (1 + position_or_len (has_number n) us) 0
        → (length us ≤ position_or_len (has_number n) us → map (sequencers.get_answer n g) us ≡ us) → map (sequencers.get_answer n g) (u ∷ us) ≡ u ∷ us
    by_test true e le rest = absurd (omega arith)
    by_test false e le rest = rw (get_answer-apart n g u e, rest (omega arith)) refl

pub answers_none : (n : ℕ) (g : Got) (us : List sequencers.Unanswered) → position (has_number n) us ≡ None → map (sequencers.get_answer n g) us ≡ us
answers_none n g us is = answers-absent n g us (position-none (has_number n) us is)

-- numbers ascend after an answer
AreAbove-answers : (m n : ℕ) (g : Got) (us : List sequencers.Unanswered) → numbers.AreAbove m us → numbers.AreAbove m (map (sequencers.get_answer n g) us)
AreAbove-answers m n g [] above = tt
AreAbove-answers m n g (u ∷ us) above = rw (get_answer-number n g u) (above.0, AreAbove-answers u.number n g us above.1)

pub AreAscending_answers : (n : ℕ) (g : Got) (us : List sequencers.Unanswered) → numbers.AreAscending us → numbers.AreAscending (map (sequencers.get_answer n g) us)
AreAscending_answers n g [] ascending = tt
AreAscending_answers n g (u ∷ us) ascending = rw (get_answer-number n g u) (AreAbove-answers u.number n g us ascending)
