-- The queue of a name, along a history: takes follow offers in order, and a poll that finds none has seen as many of both.
use Rattle.std.proofs.Common.{◌≡◌, ℕ, zero, suc, ◌+◌, ◌≤◌, ◌<◌, cond, nat_lt, List, [], ◌∷◌, ◌++◌, Some, refl, sym, ap, ◌∙◌, subst, arith, map, flat_map, slice_get, append_assoc}
use Rattle.std.specs.List.{AllByRecursion}
use Rattle.std.proofs.lemmas.List.{map-append}
use Rattle.std.proofs.lemmas.Bool.{lt-ltb, le-ltb}
use Rattle.std.proofs.lemmas.List.Sums.{sum_by-cons}
use Rattle.spec_book.specs.Book as books
use Rattle.spec_book.specs.History as histories
use Rattle.spec_claims.specs.Handed as handed
use Rattle.law_history.specs.QueuePromise as queue_promise
use Rattle.law_history.proofs.Effects.{queue_of, Effect, Offers, Takes, FindsNone, Leaves, act_effect}

abbrev Placed : Type 0
Placed = List (ℕ × List ℕ)

-- what holds of each, and follows from what holds of each
all_since : {X : Type 0} (P R : X → Type 0) → ((x : X) → P x → R x) → (xs : List X) → AllByRecursion P xs → AllByRecursion R xs
all_since P R f [] h = tt
all_since P R f (x ∷ xs) h = (f x h.0, all_since P R f xs h.1)

all_push : {X : Type 0} (P : X → Type 0) (xs : List X) (x : X) → AllByRecursion P xs → P x → AllByRecursion P (xs ++ x ∷ [])
all_push P [] x h k = (k, tt)
all_push P (y ∷ xs) x h k = (h.0, all_push P xs x h.1 k)

-- the takes are those of the first offers, in order, each offered below its take
abbrev IsServed : Placed → Placed → Type 0
IsServed [] os = Unit {0}
IsServed (t ∷ ts) [] = ⊥
IsServed (t ∷ ts) (o ∷ os) = (o.1 ≡ t.1) × (o.0 < t.0) × IsServed ts os

-- texts that are in the queue, each with its place, below p
record IsWaiting (p : ℕ) (q : Placed) (texts : List (List ℕ)) : Type 0 where
  same : map (λ x. x.1) q ≡ texts
  below : AllByRecursion (λ x. x.0 < p) q

waiting_same : (p : ℕ) (q : Placed) (before after : List (List ℕ)) → IsWaiting p q before → after ≡ before → IsWaiting (p + 1) q after
waiting_same p q before after w e = record {
  same = w.same ∙ sym e;
  below = all_since (λ x. x.0 < p) (λ x. x.0 < p + 1) (λ x h. omega arith) q w.below;
}

waiting_more : (p : ℕ) (q : Placed) (before after : List (List ℕ)) (v : List ℕ) → IsWaiting p q before → after ≡ before ++ v ∷ [] → IsWaiting (p + 1) (q ++ (p, v) ∷ []) after
waiting_more p q before after v w e = record {
  same = map-append (λ x. x.1) q ((p, v) ∷ []) ∙ ap (λ ts. ts ++ v ∷ []) w.same ∙ sym e;
  below = all_push (λ x. x.0 < p + 1) q (p, v) (all_since (λ x. x.0 < p) (λ x. x.0 < p + 1) (λ x h. omega arith) q w.below) (omega arith);
}

-- the first of those that wait is taken
record IsFirst (p : ℕ) (v : List ℕ) (q : Placed) (after : List (List ℕ)) : Type 0 where
  first : ℕ × List ℕ
  rest : Placed
  is : q ≡ first ∷ rest
  text : first.1 ≡ v
  place : first.0 < p
  left : IsWaiting (p + 1) rest after

waiting_first : (p : ℕ) (q : Placed) (before after : List (List ℕ)) (v : List ℕ) → IsWaiting p q before → before ≡ v ∷ after → IsFirst p v q after
waiting_first p [] before after v w e = let h = w.same in absurd (cc (h, e))
waiting_first p (x ∷ q) before after v w e =
    let h = w.same in
    let t : map (λ y. y.1) q ≡ after = cc (h, e) in
    record {
      first = x;
      rest = q;
      is = refl;
      text = cc (h, e);
      place = w.below.0;
      left = record { same = t; below = all_since (λ y. y.0 < p) (λ y. y.0 < p + 1) (λ y k. omega arith) q w.below.1 };
    }

waiting_none : (p : ℕ) (q : Placed) (before : List (List ℕ)) → IsWaiting p q before → before ≡ [] → q ≡ []
waiting_none p [] before w e = refl
waiting_none p (x ∷ q) before w e = let h = w.same in absurd (cc (h, e))

-- one more act in front
served_more : (p : ℕ) (o t : Placed) (e : List ℕ) (before after : List (List ℕ)) (os ts q : Placed) → Effect p o t e before after → IsWaiting p q before
    → ((r : Placed) → IsWaiting (p + 1) r after → IsServed ts (r ++ os)) → IsServed (t ++ ts) (q ++ (o ++ os))
served_more p o t e before after os ts q (Offers v eo et ee ea) w next =
    rw (eo, et) (subst (IsServed ts) (append_assoc q ((p, v) ∷ []) os) (next (q ++ (p, v) ∷ []) (waiting_more p q before after v w ea)))
served_more p o t e before after os ts q (Takes v eo et ee eb) w next =
    let f : IsFirst p v q after = waiting_first p q before after v w eb in
    rw (eo, et, f.is) (f.text, f.place, next f.rest f.left)
served_more p o t e before after os ts q (FindsNone eo et ee eb ea) w next =
    rw (eo, et) (next q (waiting_same p q before after w (ea ∙ sym eb)))
served_more p o t e before after os ts q (Leaves eo et ee ea) w next =
    rw (eo, et) (next q (waiting_same p q before after w ea))

served : (name : List ℕ) (done : ℕ) (book : books.Book) (acts : histories.History) (q : Placed) → IsWaiting (done + 1) q (queue_of book name)
    → IsServed (flat_map (handed.polled name) (handed.replied_after done book acts)) (q ++ flat_map (handed.offered name) (handed.replied_after done book acts))
served name done book [] q w = tt
served name done book (a ∷ acts) q w =
    served_more (done + 1) _ _ _ _ _ _ _ q (act_effect name book (done + 1) a.0 a.1) w
    (λ r x. served name (done + 1) (books.acted book (done + 1) a.0 a.1).state acts r x)

get_served : (ts os : Placed) (k p : ℕ) (v : List ℕ) → IsServed ts os → slice_get ts k ≡ Some (p, v) → (q : ℕ) × (slice_get os k ≡ Some (q, v)) × (q < p)
get_served [] os k p v h e = absurd (cc)
get_served (t ∷ ts) [] k p v h e = absurd h
get_served (t ∷ ts) (o ∷ os) zero p v h e =
    let f : t ≡ (p, v) = cc in
    let g : o.1 ≡ v = h.0 ∙ ap (λ x. x.1) f in
    let l : o.0 < p = subst (λ x. o.0 < x.0) f h.1 in
    (o.0, ap (λ x. Some (o.0, x)) g, l)
get_served (t ∷ ts) (o ∷ os) (suc k) p v h e = get_served ts os k p v h.2 e

pub hand_in_order : queue_promise.QueuesHandInOrder
hand_in_order h name zero p v e = absurd (cc)
hand_in_order h name (suc k) p v e =
    get_served (flat_map (handed.polled name) (handed.replied_after 0 [] h)) (flat_map (handed.offered name) (handed.replied_after 0 [] h)) k p v
    (served name 0 [] h [] (record { same = refl; below = tt })) e

-- what stands at places from p on
abbrev AreFrom : ℕ → Placed → Type 0
AreFrom p xs = AllByRecursion (λ x. p ≤ x.0) xs

from_less : (p : ℕ) (xs : Placed) → AreFrom (p + 1) xs → AreFrom p xs
from_less p xs h = all_since (λ x. p + 1 ≤ x.0) (λ x. p ≤ x.0) (λ x k. omega arith) xs h

offers_from_more : (p : ℕ) (o t : Placed) (e : List ℕ) (before after : List (List ℕ)) (os : Placed) → Effect p o t e before after → AreFrom (p + 1) os → AreFrom p (o ++ os)
offers_from_more p o t e before after os (Offers v eo et ee ea) h = rw eo (omega arith, from_less p os h)
offers_from_more p o t e before after os (Takes v eo et ee eb) h = rw eo (from_less p os h)
offers_from_more p o t e before after os (FindsNone eo et ee eb ea) h = rw eo (from_less p os h)
offers_from_more p o t e before after os (Leaves eo et ee ea) h = rw eo (from_less p os h)

takes_from_more : (p : ℕ) (o t : Placed) (e : List ℕ) (before after : List (List ℕ)) (ts : Placed) → Effect p o t e before after → AreFrom (p + 1) ts → AreFrom p (t ++ ts)
takes_from_more p o t e before after ts (Offers v eo et ee ea) h = rw et (from_less p ts h)
takes_from_more p o t e before after ts (Takes v eo et ee eb) h = rw et (omega arith, from_less p ts h)
takes_from_more p o t e before after ts (FindsNone eo et ee eb ea) h = rw et (from_less p ts h)
takes_from_more p o t e before after ts (Leaves eo et ee ea) h = rw et (from_less p ts h)

offers_from : (name : List ℕ) (done : ℕ) (book : books.Book) (acts : histories.History) → AreFrom (done + 1) (flat_map (handed.offered name) (handed.replied_after done book acts))
offers_from name done book [] = tt
offers_from name done book (a ∷ acts) =
    offers_from_more (done + 1) _ _ _ _ _ _ (act_effect name book (done + 1) a.0 a.1) (offers_from name (done + 1) (books.acted book (done + 1) a.0 a.1).state acts)

takes_from : (name : List ℕ) (done : ℕ) (book : books.Book) (acts : histories.History) → AreFrom (done + 1) (flat_map (handed.polled name) (handed.replied_after done book acts))
takes_from name done book [] = tt
takes_from name done book (a ∷ acts) =
    takes_from_more (done + 1) _ _ _ _ _ _ (act_effect name book (done + 1) a.0 a.1) (takes_from name (done + 1) (books.acted book (done + 1) a.0 a.1).state acts)

-- how many stand below a place
before-cons : (p : ℕ) (x : ℕ × List ℕ) (xs : Placed) → handed.before p (x ∷ xs) ≡ cond (nat_lt x.0 p) 1 0 + handed.before p xs
before-cons p x xs = sum_by-cons (λ y. cond (nat_lt y.0 p) 1 0) x xs

before_one : (p : ℕ) (x : ℕ × List ℕ) (xs : Placed) → x.0 < p → handed.before p (x ∷ xs) ≡ 1 + handed.before p xs
before_one p x xs l = before-cons p x xs ∙ ap (λ b. cond b 1 0 + handed.before p xs) (lt-ltb x.0 p l)

before_none : (p : ℕ) (xs : Placed) → AreFrom p xs → handed.before p xs ≡ 0
before_none p [] h = refl
before_none p (x ∷ xs) h =
    before-cons p x xs ∙ ap (λ b. cond b 1 0 + handed.before p xs) (le-ltb x.0 p h.0) ∙ (let k : handed.before p xs ≡ 0 = before_none p xs h.1 in omega arith)

-- as many were taken as offered, at a place from p on
abbrev IsEven : ℕ → Placed → Placed → ℕ → Type 0
IsEven p ts os q = (p ≤ q) × (handed.before q ts ≡ handed.before q os)

even_more : (p : ℕ) (o t : Placed) (e : List ℕ) (before after : List (List ℕ)) (os ts q : Placed) (es : List ℕ) → Effect p o t e before after
    → IsWaiting p q before → AreFrom (p + 1) os → AreFrom (p + 1) ts
    → ((r : Placed) → IsWaiting (p + 1) r after → AllByRecursion (IsEven (p + 1) ts (r ++ os)) es)
    → AllByRecursion (IsEven p (t ++ ts) (q ++ (o ++ os))) (e ++ es)
even_more p o t e b after os ts q es (Offers v eo et ee ea) w fo ft next =
    rw (eo, et, ee)
    (all_since (IsEven (p + 1) ts ((q ++ (p, v) ∷ []) ++ os)) (IsEven p ts (q ++ ((p, v) ∷ os)))
    (λ x h. (omega arith, h.1 ∙ ap (handed.before x) (append_assoc q ((p, v) ∷ []) os))) es
    (next (q ++ (p, v) ∷ []) (waiting_more p q b after v w ea)))
even_more p o t e b after os ts q es (Takes v eo et ee eb) w fo ft next =
    let f : IsFirst p v q after = waiting_first p q b after v w eb in
    rw (eo, et, ee, f.is)
    (all_since (IsEven (p + 1) ts (f.rest ++ os)) (IsEven p ((p, v) ∷ ts) (f.first ∷ f.rest ++ os))
    (λ x h.
    let l : p < x = omega arith in
    (omega arith, before_one x (p, v) ts l ∙ ap (λ n. 1 + n) h.1 ∙ sym (before_one x f.first (f.rest ++ os) (omega (arith, f.place))))) es
    (next f.rest f.left))
even_more p o t e b after os ts q es (FindsNone eo et ee eb ea) w fo ft next =
    rw (eo, et, ee) (
      (
        omega arith,
        before_none p ts (from_less p ts ft) ∙ sym (before_none p os (from_less p os fo)) ∙ ap (λ r. handed.before p (r ++ os)) (sym (waiting_none p q b w eb)),
      ),
      all_since (IsEven (p + 1) ts (q ++ os)) (IsEven p ts (q ++ os)) (λ x h. (omega arith, h.1)) es (next q (waiting_same p q b after w (ea ∙ sym eb))),
    )
even_more p o t e b after os ts q es (Leaves eo et ee ea) w fo ft next =
    rw (eo, et, ee)
    (all_since (IsEven (p + 1) ts (q ++ os)) (IsEven p ts (q ++ os)) (λ x h. (omega arith, h.1)) es (next q (waiting_same p q b after w ea)))

even : (name : List ℕ) (done : ℕ) (book : books.Book) (acts : histories.History) (q : Placed) → IsWaiting (done + 1) q (queue_of book name)
    → AllByRecursion (IsEven (done + 1) (flat_map (handed.polled name) (handed.replied_after done book acts)) (q ++ flat_map (handed.offered name) (handed.replied_after done book acts)))
    (flat_map (handed.polled_empty name) (handed.replied_after done book acts))
even name done book [] q w = tt
even name done book (a ∷ acts) q w =
    even_more (done + 1) _ _ _ _ _ _ _ q _ (act_effect name book (done + 1) a.0 a.1) w
    (offers_from name (done + 1) (books.acted book (done + 1) a.0 a.1).state acts)
    (takes_from name (done + 1) (books.acted book (done + 1) a.0 a.1).state acts)
    (λ r x. even name (done + 1) (books.acted book (done + 1) a.0 a.1).state acts r x)

get_all : {X : Type 0} (P : X → Type 0) (xs : List X) (k : ℕ) (x : X) → AllByRecursion P xs → slice_get xs k ≡ Some x → P x
get_all P [] k x h e = absurd (cc)
get_all P (y ∷ xs) zero x h e = let f : y ≡ x = cc in subst P f h.0
get_all P (y ∷ xs) (suc k) x h e = get_all P xs k x h.1 e

pub find_none : queue_promise.PollsFindNone
find_none h name zero p e = absurd (cc)
find_none h name (suc k) p e =
    (get_all (IsEven 1 (flat_map (handed.polled name) (handed.replied_after 0 [] h)) (flat_map (handed.offered name) (handed.replied_after 0 [] h)))
    (flat_map (handed.polled_empty name) (handed.replied_after 0 [] h)) k p
    (even name 0 [] h [] (record { same = refl; below = tt })) e).1
