-- Lists of sessions, each once: what an append and a removal leave of them.
use Rattle.std.proofs.Common.{◌≡◌, ℕ, suc, ◌+◌, ◌<◌, ◌≤◌, not, Bool, true, false, cond, ◌||◌, nat_lt, List, [], ◌∷◌, ◌++◌, length, Option, Some, None, slice_get, position, refl, sym, ap, ◌∙◌, subst, arith}
use Rattle.std.proofs.lemmas.Bool.{false≢true, ltb-true, ltb-false}
use Rattle.std.proofs.lemmas.Bool.Decides.{nat_tests}
use Rattle.std.specs.List.{list_any, position_or_len, remove, AllByRecursion}
use Rattle.std.specs.List.Sorted.{IsStrictlySortedBy}
use Rattle.std.specs.declared.cmp.Ordering.TheVariants.{Less}
use Rattle.std.proofs.lemmas.Map.Keys.{sorted_head}
use Rattle.std.proofs.lemmas.List.Quantifiers.{position-Some}
use Rattle.std.specs.Prelude.{◌↔◌, IsSome, OnSome}
use Rattle.std.specs.Ordering.{nat_cmp}
use Rattle.std.specs.Bool.{OnFalse}
use Rattle.std.specs.BTreeMap.{is_at}
use Rattle.std.specs.Set.{remove_key}
use Rattle.spec_book.specs.Dict as dicts
use Rattle.res_sessions.specs.EachOnce as each_once

-- equal numbers are equal either way round
pub is_at-sym : (a b : ℕ) → is_at (nat_cmp a) b ≡ is_at (nat_cmp b) a
is_at-sym a b = grind (arith, nat_tests)

-- a number that is equal to one is found where that one is
pub has_session-at : (xs : List ℕ) (a b : ℕ) → is_at (nat_cmp a) b ≡ true → dicts.has_session xs a ≡ dicts.has_session xs b
has_session-at xs a b e = let same : a ≡ b = grind (arith, nat_tests) in ap (dicts.has_session xs) same

-- whether a session is among some sessions and one more
pub has_session-push : (xs : List ℕ) (s q : ℕ) → dicts.has_session (xs ++ s ∷ []) q ≡ (dicts.has_session xs q || is_at (nat_cmp q) s)
has_session-push [] s q = grind arith
has_session-push (x ∷ xs) s q = grind (arith, has_session-push xs s q)

pub EachOnce-push : (xs : List ℕ) (s : ℕ) → each_once.EachOnce xs → dicts.has_session xs s ≡ false → each_once.EachOnce (xs ++ s ∷ [])
EachOnce-push [] s once absent = (refl, tt)
EachOnce-push (x ∷ xs) s once absent =
    (push_first x xs s once.0 absent, EachOnce-push xs s once.1 (or_right (is_at (nat_cmp s) x) (dicts.has_session xs s) absent))
  where
    or_right : (a b : Bool) → (a || b) ≡ false → b ≡ false
    or_right a b h = grind arith

    push_first : (x : ℕ) (xs : List ℕ) (s : ℕ) → dicts.has_session xs x ≡ false → (is_at (nat_cmp s) x || dicts.has_session xs s) ≡ false
        → dicts.has_session (xs ++ s ∷ []) x ≡ false
    push_first x xs s h absent = grind (arith, has_session-push xs s x, is_at-sym x s)

-- a list without a session that it has not
pub remove_key-absent : (p : ℕ → Bool) (xs : List ℕ) → list_any p xs ≡ false → remove_key p xs ≡ xs
remove_key-absent p [] absent = refl
remove_key-absent p (x ∷ xs) absent = step (p x) (list_any p xs) absent (remove_key-absent p xs)
  where
    step : (b any : Bool) → (b || any) ≡ false → (any ≡ false → remove_key p xs ≡ xs) → cond b xs (x ∷ remove_key p xs) ≡ x ∷ xs
    step true any h rest = absurd (false≢true (sym h))
    step false any h rest = ap (λ ys. x ∷ ys) (rest h)

-- sessions in ascending order without the first, and without another
absent_above : (x : ℕ) (xs : List ℕ) → AllByRecursion (λ y. nat_cmp x y ≡ Less) xs → dicts.has_session xs x ≡ false
absent_above x [] a = refl
absent_above x (y ∷ xs) a = rw (a.0, absent_above x xs a.1) refl

pub without-first : (x s : ℕ) (xs : List ℕ) → x ≡ s → IsStrictlySortedBy nat_cmp (x ∷ xs) → dicts.without_session (x ∷ xs) s ≡ dicts.without_session xs s
without-first x s xs same sorted =
    let here : is_at (nat_cmp s) x ≡ true = grind (arith, nat_tests) in
    let P : ℕ → Type 0 = λ n. dicts.has_session xs n ≡ false in
    let absent : dicts.has_session xs s ≡ false = subst P same (absent_above x xs (sorted_head nat_cmp x xs sorted)) in
    rw here (sym (remove_key-absent (is_at (nat_cmp s)) xs absent))

pub without-another : (x s : ℕ) (xs : List ℕ) → (x ≡ s → ⊥) → dicts.without_session (x ∷ xs) s ≡ x ∷ dicts.without_session xs s
without-another x s xs other =
    let apart : is_at (nat_cmp s) x ≡ false = grind (arith, nat_tests) in
    rw apart refl

-- what three tests of equality among three numbers tell of one another
pub three_tests : (s x q : ℕ) → (is_at (nat_cmp s) x ≡ true → is_at (nat_cmp s) q ≡ true → q ≡ x)
    × (is_at (nat_cmp s) x ≡ true → is_at (nat_cmp s) q ≡ false → is_at (nat_cmp q) x ≡ false)
    × (is_at (nat_cmp s) x ≡ false → is_at (nat_cmp s) q ≡ true → is_at (nat_cmp q) x ≡ false)
three_tests s x q = (λ a b. grind (arith, nat_tests), λ a b. grind (arith, nat_tests), λ a b. grind (arith, nat_tests))

-- one step of a removal: the first session is the one that goes, or it stays
remove_step : (x : ℕ) (xs : List ℕ) (s q : ℕ) (ys : List ℕ) (a b : Bool) → is_at (nat_cmp s) x ≡ a → is_at (nat_cmp s) q ≡ b
    → dicts.has_session xs x ≡ false → dicts.has_session ys q ≡ cond b false (dicts.has_session xs q)
    → dicts.has_session (cond a xs (x ∷ ys)) q ≡ cond b false (is_at (nat_cmp q) x || dicts.has_session xs q)
remove_step x xs s q ys true true e f once rest = ap (dicts.has_session xs) ((three_tests s x q).0 e f) ∙ once
remove_step x xs s q ys true false e f once rest = grind (arith, (three_tests s x q).1 e f)
remove_step x xs s q ys false true e f once rest = grind (arith, (three_tests s x q).2 e f)
remove_step x xs s q ys false false e f once rest = grind arith

-- a removal adds no session
pub absent_after_removal : (xs : List ℕ) (s q : ℕ) → dicts.has_session xs q ≡ false → dicts.has_session (dicts.without_session xs s) q ≡ false
absent_after_removal [] s q absent = refl
absent_after_removal (x ∷ xs) s q absent =
    step (is_at (nat_cmp s) x) (is_at (nat_cmp q) x) refl (dicts.has_session xs q) refl absent (absent_after_removal xs s q)
  where
    step : (b here : Bool) → is_at (nat_cmp q) x ≡ here → (there : Bool) → dicts.has_session xs q ≡ there → (here || there) ≡ false
        → (dicts.has_session xs q ≡ false → dicts.has_session (dicts.without_session xs s) q ≡ false)
        → dicts.has_session (cond b xs (x ∷ dicts.without_session xs s)) q ≡ false
    step b true e there f h rest = absurd (false≢true (sym h))
    step true false e there f h rest = f ∙ h
    step false false e there f h rest = rw e (rest (f ∙ h))

-- the first session after a removal: the first before it, or the second where the first is the one that goes
pub first_of_none : (xs : List ℕ) (s : ℕ) (r : Option ℕ) → r ≡ slice_get xs 0 → r ≡ None → None ≡ slice_get (dicts.without_session xs s) 0
first_of_none [] s r at is = refl
first_of_none (x ∷ xs) s r at is = absurd (cc)

pub first_of_others : (xs : List ℕ) (s x : ℕ) (r : Option ℕ) → r ≡ slice_get xs 0 → r ≡ Some x → is_at (nat_cmp s) x ≡ false
    → Some x ≡ slice_get (dicts.without_session xs s) 0
first_of_others [] s x r at is other = absurd (cc)
first_of_others (y ∷ xs) s x r at is other =
    let same : x ≡ y = cc in
    let e : is_at (nat_cmp s) y ≡ false = rw (← same) other in
    rw e (ap (λ (n : ℕ). Some n) same)

pub first_of_rest : (xs : List ℕ) (s x : ℕ) (r second : Option ℕ) → r ≡ slice_get xs 0 → r ≡ Some x → is_at (nat_cmp s) x ≡ true
    → second ≡ slice_get xs 1 → second ≡ slice_get (dicts.without_session xs s) 0
first_of_rest [] s x r second at is same next = absurd (cc)
first_of_rest (y ∷ xs) s x r second at is same next =
    let e : is_at (nat_cmp s) y ≡ true = ap (is_at (nat_cmp s)) (cc) ∙ same in
    rw e next

-- of sessions that stand once each, without one of them
pub has_session-remove_key : (xs : List ℕ) (s q : ℕ) → each_once.EachOnce xs
    → dicts.has_session (dicts.without_session xs s) q ≡ cond (is_at (nat_cmp s) q) false (dicts.has_session xs q)
has_session-remove_key [] s q once = grind arith
has_session-remove_key (x ∷ xs) s q once =
    remove_step x xs s q (dicts.without_session xs s) (is_at (nat_cmp s) x) (is_at (nat_cmp s) q) refl refl once.0
    (has_session-remove_key xs s q once.1)

pub EachOnce-remove_key : (xs : List ℕ) (s : ℕ) → each_once.EachOnce xs → each_once.EachOnce (dicts.without_session xs s)
EachOnce-remove_key [] s once = tt
EachOnce-remove_key (x ∷ xs) s once = step (is_at (nat_cmp s) x) kept (EachOnce-remove_key xs s once.1)
  where
    kept : dicts.has_session (dicts.without_session xs s) x ≡ false
    kept = has_session-remove_key xs s x once.1 ∙ ap (cond (is_at (nat_cmp s) x) false) once.0 ∙ (grind arith)

    step : (b : Bool) → dicts.has_session (dicts.without_session xs s) x ≡ false → each_once.EachOnce (dicts.without_session xs s)
        → each_once.EachOnce (cond b xs (x ∷ dicts.without_session xs s))
    step true k rest = once.1
    step false k rest = (k, rest)

-- the removal at the first place that passes
pub remove-at_first : (p : ℕ → Bool) (xs : List ℕ) → position_or_len p xs < length xs → remove xs (position_or_len p xs) ≡ remove_key p xs
remove-at_first p [] below = refl
remove-at_first p (x ∷ xs) below = step (p x) below (remove-at_first p xs)
  where
    one_more : (n : ℕ) → 1 + n ≡ suc n
    one_more n = omega arith

    step : (b : Bool) → cond (not b) (1 + position_or_len p xs) 0 < length (x ∷ xs)
        → (position_or_len p xs < length xs → remove xs (position_or_len p xs) ≡ remove_key p xs)
        → remove (x ∷ xs) (cond (not b) (1 + position_or_len p xs) 0) ≡ cond b xs (x ∷ remove_key p xs)
    step true h rest = refl
    step false h rest = let below : position_or_len p xs < length xs = omega arith in
        rw (one_more (position_or_len p xs)) (ap (λ ys. x ∷ ys) (rest below))

-- where no place passes, no session does
pub none-at_last : (p : ℕ → Bool) (xs : List ℕ) → length xs ≤ position_or_len p xs → list_any p xs ≡ false
none-at_last p [] at = refl
none-at_last p (x ∷ xs) at = step (p x) at (none-at_last p xs)
  where
    step : (b : Bool) → length (x ∷ xs) ≤ cond (not b) (1 + position_or_len p xs) 0
        → (length xs ≤ position_or_len p xs → list_any p xs ≡ false) → (b || list_any p xs) ≡ false
    step true h rest = absurd (omega arith)
    step false h rest = rest (omega arith)

-- the removal at the place that `position` gives
pub position-removes : (p : ℕ → Bool) (xs : List ℕ) (i : ℕ) → position p xs ≡ Some i → remove xs i ≡ remove_key p xs
position-removes p xs i is = step (nat_lt (position_or_len p xs) (length xs)) refl is
  where
    step : (b : Bool) → nat_lt (position_or_len p xs) (length xs) ≡ b → cond b (Some (position_or_len p xs)) None ≡ Some i
        → remove xs i ≡ remove_key p xs
    step true e at = let same : position_or_len p xs ≡ i = cc in
        subst (λ (k : ℕ). remove xs k ≡ remove_key p xs) same (remove-at_first p xs (ltb-true _ _ e))
    step false e at = absurd (cc)

-- where `position` gives none, none passes
pub position-none : (p : ℕ → Bool) (xs : List ℕ) → position p xs ≡ None → list_any p xs ≡ false
position-none p xs is = step (nat_lt (position_or_len p xs) (length xs)) refl is
  where
    step : (b : Bool) → nat_lt (position_or_len p xs) (length xs) ≡ b → cond b (Some (position_or_len p xs)) None ≡ None
        → list_any p xs ≡ false
    step true e at = absurd (cc)
    step false e at = none-at_last p xs (ltb-false _ _ e)

-- where no session passes, `position` gives none
position_or_len-absent : (p : ℕ → Bool) (xs : List ℕ) → list_any p xs ≡ false → position_or_len p xs ≡ length xs
position_or_len-absent p [] absent = refl
position_or_len-absent p (x ∷ xs) absent = step (p x) absent (position_or_len-absent p xs)
  where
    step : (b : Bool) → (b || list_any p xs) ≡ false → (list_any p xs ≡ false → position_or_len p xs ≡ length xs)
        → cond (not b) (1 + position_or_len p xs) 0 ≡ length (x ∷ xs)
    step true h rest = absurd (false≢true (sym h))
    step false h rest = let same : position_or_len p xs ≡ length xs = rest h in omega arith

pub position-absent : (p : ℕ → Bool) (xs : List ℕ) → list_any p xs ≡ false → None ≡ position p xs
position-absent p xs absent = step (nat_lt (position_or_len p xs) (length xs)) refl
  where
    step : (b : Bool) → nat_lt (position_or_len p xs) (length xs) ≡ b → None ≡ cond b (Some (position_or_len p xs)) None
    step true e =
        let below : position_or_len p xs < length xs = ltb-true _ _ e in
        let at : position_or_len p xs ≡ length xs = position_or_len-absent p xs absent in
        absurd (omega arith)
    step false e = refl

-- no session stands where `position` gives none
pub absent_by_place : (xs : List ℕ) (s : ℕ) (r : Option ℕ) → r ≡ position (is_at (nat_cmp s)) xs → r ≡ None → dicts.has_session xs s ≡ false
absent_by_place xs s r at none = position-none (is_at (nat_cmp s)) xs (sym at ∙ none)

pub kept_by_place : (xs : List ℕ) (s : ℕ) (r : Option ℕ) → r ≡ position (is_at (nat_cmp s)) xs → r ≡ None → xs ≡ dicts.without_session xs s
kept_by_place xs s r at none = sym (remove_key-absent (is_at (nat_cmp s)) xs (absent_by_place xs s r at none))

-- a removal at the place that `position` gives takes the session away
pub gone_by_place : (xs ys : List ℕ) (s i : ℕ) (r gone : Option ℕ) → r ≡ position (is_at (nat_cmp s)) xs → r ≡ Some i
    → (IsSome gone ↔ (i < length xs)) → OnSome gone (ys ≡ remove xs i) → ys ≡ dicts.without_session xs s
gone_by_place xs ys s i r None at is variant after =
    absurd (none_gone (variant.1 (position-Some (is_at (nat_cmp s)) xs i 0 (sym at ∙ is)).0))
  where
    none_gone : IsSome {T = ℕ} None → ⊥
    none_gone h = grind arith
gone_by_place xs ys s i r (Some x) at is variant after = after ∙ position-removes (is_at (nat_cmp s)) xs i (sym at ∙ is)

-- nothing goes where the session is not found
pub unchanged_unless_found : (xs ys : List ℕ) (s : ℕ) (r : Bool) → r ≡ dicts.has_session xs s → ys ≡ dicts.without_session xs s → OnFalse r (ys ≡ xs)
unchanged_unless_found xs ys s true found after = tt
unchanged_unless_found xs ys s false found after = after ∙ remove_key-absent (is_at (nat_cmp s)) xs (sym found)

-- a queue with one more session, and the index with it
pub IsIndexed-push : (index queue after : List ℕ) (s : ℕ) → each_once.IsIndexed index queue → dicts.has_session queue s ≡ false
    → ((q : ℕ) → dicts.has_session after q ≡ cond (is_at (nat_cmp s) q) true (dicts.has_session index q)) → each_once.IsIndexed after (queue ++ s ∷ [])
IsIndexed-push index queue after s i absent adds = record {
  same = λ q. grind (arith, adds q, i.same q, has_session-push queue s q, is_at-sym s q);
  each_once = EachOnce-push queue s i.each_once absent;
}

-- a queue without one of its sessions, and the index without it
pub IsIndexed-remove : (index queue after : List ℕ) (s : ℕ) → each_once.IsIndexed index queue
    → ((q : ℕ) → dicts.has_session after q ≡ cond (is_at (nat_cmp s) q) false (dicts.has_session index q)) → each_once.IsIndexed after (dicts.without_session queue s)
IsIndexed-remove index queue after s i removes = record {
  same = λ q. grind (arith, removes q, i.same q, has_session-remove_key queue s q i.each_once);
  each_once = EachOnce-remove_key queue s i.each_once;
}
