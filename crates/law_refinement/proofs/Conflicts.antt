-- A log and the entries of an append packet: after the cut nothing is in conflict, and after the rest was added all are held.
use Rattle.std.proofs.Common.{◌≡◌, ℕ, zero, suc, ◌+◌, ◌-◌, ◌≤◌, ◌<◌, List, [], ◌∷◌, ◌++◌, length, take, drop, refl, ap, sym, ◌∙◌, subst, arith, length-append}
use Rattle.std.specs.Prelude.{Bool, true, false, ◌&&◌, ◌||◌, nat_eq, nat_le, Option, Some, None, if◌then◌else◌}
use Rattle.std.proofs.lemmas.List.{length-drop}
use Rattle.std.proofs.Math.Seq.{take-nil}
use Rattle.ax_types.specs.declared.entries.Entry.{Entry}
use Rattle.spec_raft.specs.Log as logs
use Rattle.law_refinement.proofs.Tests.{by_test, both, and_true, or_true, is_same, same_test, is_within, within_test}

some_same : (a b : ℕ) → Some a ≡ Some b → a ≡ b
some_same a b e = cc (e)

none_some : {A : Type 0} (a : ℕ) → None ≡ Some a → A
none_some a e = cc (e)

-- the first conflict lies after the place before those sent
pub conflict_later : (p q : ℕ) (xs es : List Entry) → logs.conflict_after p xs es ≡ Some q → p < q
conflict_later p q [] es h = none_some q h
conflict_later p q (x ∷ xs) [] h = none_some q h
conflict_later p q (x ∷ xs) (e ∷ es) h =
    by_test (λ o. o ≡ Some q → p < q) (nat_eq x.term e.term) (logs.conflict_after (suc p) xs es) (Some (suc p))
    (λ t k. let l : suc p < q = conflict_later (suc p) q xs es k in omega (arith, l))
    (λ t k. let l : suc p ≡ q = some_same (suc p) q k in omega (arith, l)) h

-- nothing that stands before the first conflict is in conflict
free_before : (d p : ℕ) (xs es : List Entry) → logs.conflict_after p xs es ≡ Some (suc (p + d)) → logs.conflict_after p (take d xs) es ≡ None
free_before zero p xs es h = refl
free_before (suc d) p [] es h = refl
free_before (suc d) p (x ∷ xs) [] h = refl
free_before (suc d) p (x ∷ xs) (e ∷ es) h =
    by_test (λ o. o ≡ Some (suc (p + suc d)) → (if nat_eq x.term e.term then logs.conflict_after (suc p) (take d xs) es else Some (suc p)) ≡ None)
    (nat_eq x.term e.term) (logs.conflict_after (suc p) xs es) (Some (suc p))
    (λ t k.
    let l : suc (p + suc d) ≡ suc (suc p + d) = omega arith in
    ap (λ b. if b then logs.conflict_after (suc p) (take d xs) es else Some (suc p)) t
    ∙ free_before d (suc p) xs es (k ∙ ap (λ n. Some n) l))
    (λ t k. let l : suc p ≡ suc (p + suc d) = some_same (suc p) (suc (p + suc d)) k in absurd (omega (arith, l))) h

drop_take : (p d : ℕ) (xs : List Entry) → drop p (take (p + d) xs) ≡ take d (drop p xs)
drop_take zero d xs = ap (λ n. take n xs) (let h : zero + d ≡ d = omega arith in h)
drop_take (suc p) d [] = ap (λ n. drop (suc p) (take n [])) (let h : suc p + d ≡ suc (p + d) = omega arith in h) ∙ sym (take-nil d)
drop_take (suc p) d (x ∷ xs) = ap (λ n. drop (suc p) (take n (x ∷ xs))) (let h : suc p + d ≡ suc (p + d) = omega arith in h) ∙ drop_take p d xs

-- after the cut
cut_free : (log : List Entry) (prev : ℕ) (es : List Entry) (o : Option ℕ) → logs.first_conflict log prev es ≡ o → logs.first_conflict (logs.cut_before log o) prev es ≡ None
cut_free log prev es None h = h
cut_free log prev es (Some q) h =
    let later : prev < q = conflict_later prev q (drop prev log) es h in
    let d : ℕ = q - suc prev in
    let place : q ≡ suc (prev + d) = omega (arith, later) in
    let before : q - 1 ≡ prev + d = omega (arith, later) in
    ap (λ n. logs.conflict_after prev (drop prev (take n log)) es) before
    ∙ (ap (λ xs. logs.conflict_after prev xs es) (drop_take prev d log) ∙ free_before d prev (drop prev log) es (h ∙ ap (λ n. Some n) place))

pub free_after_cut : (log : List Entry) (prev : ℕ) (es : List Entry) → logs.first_conflict (logs.stays log prev es) prev es ≡ None
free_after_cut log prev es = cut_free log prev es (logs.first_conflict log prev es) refl

-- entries do not conflict with themselves
free_self : (p : ℕ) (es : List Entry) → logs.conflict_after p es es ≡ None
free_self p [] = refl
free_self p (e ∷ es) = ap (λ b. if b then logs.conflict_after (suc p) es es else Some (suc p)) (same_test e.term e.term refl) ∙ free_self (suc p) es

free_filled : (p : ℕ) (xs es : List Entry) → logs.conflict_after p xs es ≡ None → logs.conflict_after p (xs ++ drop (length xs) es) es ≡ None
free_filled p [] es h = free_self p es
free_filled p (x ∷ xs) [] h = refl
free_filled p (x ∷ xs) (e ∷ es) h =
    by_test (λ o. o ≡ None → (if nat_eq x.term e.term then logs.conflict_after (suc p) (xs ++ drop (length xs) es) es else Some (suc p)) ≡ None)
    (nat_eq x.term e.term) (logs.conflict_after (suc p) xs es) (Some (suc p))
    (λ t k. ap (λ b. if b then logs.conflict_after (suc p) (xs ++ drop (length xs) es) es else Some (suc p)) t ∙ free_filled (suc p) xs es k)
    (λ t k. none_some (suc p) (sym k)) h

drop_append : (p : ℕ) (log more : List Entry) → p ≤ length log → drop p (log ++ more) ≡ drop p log ++ more
drop_append zero log more h = refl
drop_append (suc p) [] more h = absurd (omega (arith, h))
drop_append (suc p) (x ∷ log) more h = drop_append p log more (let k : suc p ≤ suc (length log) = h in omega (arith, k))

-- after all that it lacked was added
pub free_after_fill : (log : List Entry) (prev : ℕ) (es : List Entry) → prev ≤ length log → logs.first_conflict log prev es ≡ None → logs.first_conflict (log ++ logs.lacking log prev es) prev es ≡ None
free_after_fill log prev es within h =
    ap (λ xs. logs.conflict_after prev xs es) (drop_append prev log (logs.lacking log prev es) within)
    ∙ (ap (λ n. logs.conflict_after prev (drop prev log ++ drop n es) es) (sym (length-drop prev log)) ∙ free_filled prev (drop prev log) es h)

pub long_after_fill : (log : List Entry) (prev : ℕ) (es : List Entry) → prev ≤ length log → prev + length es ≤ length (log ++ logs.lacking log prev es)
long_after_fill log prev es within =
    let a : length (log ++ logs.lacking log prev es) ≡ length log + length (logs.lacking log prev es) = length-append log (logs.lacking log prev es) in
    let b : length (logs.lacking log prev es) ≡ length es - (length log - prev) = length-drop (length log - prev) es in
    omega (arith, within, a, b)

-- the entry before those sent
term_in_take : (q p : ℕ) (log : List Entry) → p ≤ q → logs.term_at (take q log) p ≡ logs.term_at log p
term_in_take q zero log h = refl
term_in_take zero (suc p) log h = absurd (omega (arith, h))
term_in_take (suc q) (suc p) [] h = refl
term_in_take (suc q) (suc zero) (x ∷ log) h = refl
term_in_take (suc q) (suc (suc p)) (x ∷ log) h = term_in_take q (suc p) log (omega (arith, h))

term_in_append : (p : ℕ) (log more : List Entry) → p ≤ length log → logs.term_at (log ++ more) p ≡ logs.term_at log p
term_in_append zero log more h = refl
term_in_append (suc p) [] more h = absurd (omega (arith, h))
term_in_append (suc zero) (x ∷ log) more h = refl
term_in_append (suc (suc p)) (x ∷ log) more h = term_in_append (suc p) log more (let k : suc (suc p) ≤ suc (length log) = h in omega (arith, k))

-- a match, by its two cases
pub data Matches (log : List Entry) (prev prev_term : ℕ) : Type 0 where
  First : prev ≡ 0 → Matches log prev prev_term
  Held : prev ≤ length log → logs.term_at log prev ≡ prev_term → Matches log prev prev_term

matches_at : (log : List Entry) (prev prev_term : ℕ) (a b : Bool) → nat_eq prev 0 ≡ a → (nat_le prev (length log) && nat_eq (logs.term_at log prev) prev_term) ≡ b → (a || b) ≡ true → Matches log prev prev_term
matches_at log prev prev_term true b e f h = First (is_same prev 0 e)
matches_at log prev prev_term false true e f h =
    let parts : (nat_le prev (length log) ≡ true) × (nat_eq (logs.term_at log prev) prev_term ≡ true) = both (nat_le prev (length log)) (nat_eq (logs.term_at log prev) prev_term) f in
    Held (is_within prev (length log) parts.0) (is_same (logs.term_at log prev) prev_term parts.1)
matches_at log prev prev_term false false e f h = absurd (cc (h))

pub matching : (log : List Entry) (prev prev_term : ℕ) → logs.match_at log prev prev_term ≡ true → Matches log prev prev_term
matching log prev prev_term h = matches_at log prev prev_term (nat_eq prev 0) (nat_le prev (length log) && nat_eq (logs.term_at log prev) prev_term) refl refl h

pub match_test : (log : List Entry) (prev prev_term : ℕ) → Matches log prev prev_term → logs.match_at log prev prev_term ≡ true
match_test log prev prev_term (First e) = subst (λ p. logs.match_at log p prev_term ≡ true) (sym e) refl
match_test log prev prev_term (Held h e) =
    or_true (nat_eq prev 0) (nat_le prev (length log) && nat_eq (logs.term_at log prev) prev_term)
    (and_true (nat_le prev (length log)) (nat_eq (logs.term_at log prev) prev_term) (within_test prev (length log) h) (same_test (logs.term_at log prev) prev_term e))

pub match_within : (log : List Entry) (prev prev_term : ℕ) → Matches log prev prev_term → prev ≤ length log
match_within log prev prev_term (First e) = omega (arith, e)
match_within log prev prev_term (Held h e) = h

le_take : (q p : ℕ) (log : List Entry) → p ≤ q → p ≤ length log → p ≤ length (take q log)
le_take q zero log h k = omega arith
le_take zero (suc p) log h k = absurd (omega (arith, h))
le_take (suc q) (suc p) [] h k = absurd (omega (arith, k))
le_take (suc q) (suc p) (x ∷ log) h k = let r : p ≤ length (take q log) = le_take q p log (omega (arith, h)) (let l : suc p ≤ suc (length log) = k in omega (arith, l)) in omega (arith, r)

-- it stays over the cut, and over what is added
pub match_after_append : (log more : List Entry) (prev prev_term : ℕ) → Matches log prev prev_term → Matches (log ++ more) prev prev_term
match_after_append log more prev prev_term (First e) = First e
match_after_append log more prev prev_term (Held h e) = Held (let a : length (log ++ more) ≡ length log + length more = length-append log more in omega (arith, h, a)) (term_in_append prev log more h ∙ e)

match_after_cut_at : (log : List Entry) (prev prev_term : ℕ) (es : List Entry) (o : Option ℕ) → logs.first_conflict log prev es ≡ o → Matches log prev prev_term → Matches (logs.cut_before log o) prev prev_term
match_after_cut_at log prev prev_term es None c m = m
match_after_cut_at log prev prev_term es (Some q) c (First e) = First e
match_after_cut_at log prev prev_term es (Some q) c (Held h e) =
    let later : prev < q = conflict_later prev q (drop prev log) es c in
    Held (le_take (q - 1) prev log (omega (arith, later)) h) (term_in_take (q - 1) prev log (omega (arith, later)) ∙ e)

pub match_after_cut : (log : List Entry) (prev prev_term : ℕ) (es : List Entry) → Matches log prev prev_term → Matches (logs.stays log prev es) prev prev_term
match_after_cut log prev prev_term es m = match_after_cut_at log prev prev_term es (logs.first_conflict log prev es) refl m
