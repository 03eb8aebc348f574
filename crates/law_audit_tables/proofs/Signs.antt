-- The table of signs describes the acts before.
use Rattle.std.proofs.Common.{◌≡◌, ◌≢◌, ℕ, zero, suc, ◌+◌, ◌-◌, ◌≤◌, ◌<◌, Bool, true, false, cond, not, ◌&&◌, ◌||◌, nat_le, nat_eq, List, [], ◌∷◌, ◌++◌, Option, Some, None, is_some, length, take, set, slice_get, refl, sym, ap, ap₂, ◌∙◌, arith, append_assoc}
use Rattle.std.specs.List.{list_any}
use Rattle.std.proofs.lemmas.Bool.Decides.{nat_tests}
use Rattle.std.proofs.lemmas.List.{length-append, length-set, take-append-le}
use Rattle.std.proofs.lemmas.List.Folds.{list_any-append}
use Rattle.ax_types.specs.Places as lists
use Rattle.ax_types.specs.declared.entries.Act.{Act}
use Rattle.ax_types.specs.declared.entries.Act.TheVariants as act
use Rattle.spec_book.specs.History as histories
use Rattle.spec_audit.specs.HistoryCondition as history_condition
use Rattle.law_told.proofs.Lists.{at_within, at_end, take_all}
use Rattle.law_told.proofs.Growth.{live_grown}
use Rattle.law_told.proofs.Named.{live_now, live_end, opened_within}
use Rattle.law_audit_tables.specs.SignTable as signs
use Rattle.law_audit_tables.specs.TablesFound as laws
use Rattle.law_audit_tables.proofs.Lists.{at_past, get_set, get_other, longer, suc_differs}

-- ---- tests

and_false : (b : Bool) → (b && false) ≡ false
and_false true = refl
and_false false = refl

grouped : (a b c : Bool) → (a && b && c) ≡ (a && (b && c))
grouped true b c = refl
grouped false b c = refl

-- what comes behind a test counts only where it holds
behind_test : (x t d e : Bool) → (t ≡ true → d ≡ e) → (x && t && d) ≡ (x && t && e)
behind_test true true d e k = k refl
behind_test true false d e k = refl
behind_test false t d e k = refl

-- ---- signs of life

abbrev sign_now : histories.History → ℕ → ℕ
sign_now g s = histories.sign_after s 0 0 g

sign_split : (s done last : ℕ) (h r : histories.History) → histories.sign_after s done last (h ++ r) ≡ histories.sign_after s (done + length h) (histories.sign_after s done last h) r
sign_split s done last [] r = let e : done ≡ done + 0 = omega arith in ap (λ n. histories.sign_after s n last r) e
sign_split s done last ((time, a) ∷ h) r = go (λ l. sign_split s (done + 1) l h r ∙ ap (λ n. histories.sign_after s n (histories.sign_after s (done + 1) l h) r) e) a
  where
    e : done + 1 + length h ≡ done + suc (length h)
    e = omega arith

    go : ((l : ℕ) → histories.sign_after s (done + 1) l (h ++ r) ≡ histories.sign_after s (done + suc (length h)) (histories.sign_after s (done + 1) l h) r)
        → (x : Act) → histories.sign_after s done last ((time, x) ∷ (h ++ r)) ≡ histories.sign_after s (done + suc (length h)) (histories.sign_after s done last ((time, x) ∷ h)) r
    go on (act.Open c o) = on (cond (nat_eq s (done + 1)) time last)
    go on (act.Keep t) = on (cond (nat_eq s t) time last)
    go on (act.Do t name o) = on last
    go on (act.Close t) = on last
    go on (act.Expire t) = on last
    go on act.Nothing = on last

-- the last sign of a session, where it is live
abbrev live_sign : histories.History → ℕ → Option ℕ
live_sign g s = cond (live_now g s) (Some (sign_now g s)) None

-- the table describes the acts that made it
record Describes (g : histories.History) (t : signs.Signs) : Type 0 where
  size : length t ≡ length g
  live : (s : ℕ) → signs.sign_of t s ≡ live_sign g s
  unended : (s : ℕ) → length g < s → list_any (λ a. histories.ends s a.1) g ≡ false

-- a session with a sign is live
has_sign : (g : histories.History) (t : signs.Signs) (s : ℕ) → Describes g t → is_some (signs.sign_of t s) ≡ live_now g s
has_sign g t s d = ap is_some (d.live s) ∙ of_test (live_now g s)
  where
    of_test : (b : Bool) → is_some (cond b (Some (sign_now g s)) None) ≡ b
    of_test true = refl
    of_test false = refl

due_sign : (timeout time : ℕ) (g : histories.History) (t : signs.Signs) (s : ℕ) → Describes g t
    → signs.sign_is_old timeout time (signs.sign_of t s) ≡ (live_now g s && nat_le timeout (time - sign_now g s))
due_sign timeout time g t s d = ap (signs.sign_is_old timeout time) (d.live s) ∙ of_test (live_now g s)
  where
    of_test : (b : Bool) → signs.sign_is_old timeout time (cond b (Some (sign_now g s)) None) ≡ (b && nat_le timeout (time - sign_now g s))
    of_test true = refl
    of_test false = refl

-- ---- the test of one act

before : (g : histories.History) → suc (length g) - 1 ≡ length g
before g = omega arith

live_before : (g acts : histories.History) (s : ℕ) → histories.is_live (g ++ acts) (suc (length g) - 1) s ≡ live_now g s
live_before g acts s = ap (λ n. histories.is_live (g ++ acts) n s) (before g) ∙ live_grown g acts (length g) s (omega arith) ∙ live_end g s

sign_before : (g acts : histories.History) (s : ℕ) → histories.sign (g ++ acts) (suc (length g)) s ≡ sign_now g s
sign_before g acts s =
    ap (λ n. histories.sign_after s 0 0 (take n (g ++ acts))) (before g)
    ∙ ap (histories.sign_after s 0 0) (take-append-le (length g) g acts (omega arith) ∙ take_all g)

and_true : (b : Bool) → (b && true) ≡ b
and_true true = refl
and_true false = refl

same_test : (timeout time : ℕ) (g acts : histories.History) (t : signs.Signs) (x : Act) → Describes g t
    → (history_condition.is_of_live (g ++ acts) (suc (length g)) (histories.session_of x) && history_condition.is_due_expiry (g ++ acts) timeout (suc (length g)) time x)
    ≡ signs.is_allowed timeout t time x
same_test timeout time g acts t act.Nothing d = refl
same_test timeout time g acts t (act.Open c o) d = refl
same_test timeout time g acts t (act.Keep s) d = and_true _ ∙ live_before g acts s ∙ sym (has_sign g t s d)
same_test timeout time g acts t (act.Do s name o) d = and_true _ ∙ live_before g acts s ∙ sym (has_sign g t s d)
same_test timeout time g acts t (act.Close s) d = and_true _ ∙ live_before g acts s ∙ sym (has_sign g t s d)
same_test timeout time g acts t (act.Expire s) d =
    ap₂ (λ (l : Bool) (n : ℕ). l && nat_le timeout (time - n)) (live_before g acts s) (sign_before g acts s) ∙ sym (due_sign timeout time g t s d)

-- ---- one more act

-- the session of an act that is allowed stands within
within : (timeout time : ℕ) (g : histories.History) (t : signs.Signs) (s : ℕ) → Describes g t → is_some (signs.sign_of t s) ≡ true → s ≤ length g
within timeout time g t s d e = opened_within g s (first (histories.is_open (lists.at_place g s)) _ (sym (has_sign g t s d) ∙ e))
  where
    first : (a b : Bool) → (a && b) ≡ true → a ≡ true
    first true b k = refl
    first false b k = absurd (cc)

due_some : (timeout time : ℕ) (sign : Option ℕ) → signs.sign_is_old timeout time sign ≡ true → is_some sign ≡ true
due_some timeout time None e = absurd (cc)
due_some timeout time (Some n) e = refl

-- an act that is allowed ends no session beyond
ends_within : (timeout time : ℕ) (g : histories.History) (t : signs.Signs) (x : Act) (s : ℕ) → Describes g t → signs.is_allowed timeout t time x ≡ true → length g < s
    → histories.ends s x ≡ false
ends_within timeout time g t act.Nothing s d e l = refl
ends_within timeout time g t (act.Open c o) s d e l = refl
ends_within timeout time g t (act.Keep r) s d e l = refl
ends_within timeout time g t (act.Do r name o) s d e l = refl
ends_within timeout time g t (act.Close r) s d e l = let w : r ≤ length g = within timeout time g t r d e in grind (arith, nat_tests)
ends_within timeout time g t (act.Expire r) s d e l =
    let w : r ≤ length g = within timeout time g t r d (due_some timeout time (signs.sign_of t r) e) in grind (arith, nat_tests)

any_next : (g : histories.History) (a : ℕ × Act) (s : ℕ) → list_any (λ b. histories.ends s b.1) (g ++ a ∷ []) ≡ (list_any (λ b. histories.ends s b.1) g || (histories.ends s a.1 || false))
any_next g a s = list_any-append (λ b. histories.ends s b.1) g (a ∷ [])

size_with : (t : signs.Signs) (s : ℕ) (v : Option ℕ) → length (signs.with_sign_at t s v) ≡ length t
size_with t zero v = refl
size_with t (suc k) v = length-set t k v

-- the table before its last place
abbrev front : signs.Signs → ℕ → Act → signs.Signs
front t time act.Nothing = t
front t time (act.Open c o) = t
front t time (act.Keep s) = signs.with_sign_at t s (Some time)
front t time (act.Do s name o) = t
front t time (act.Close s) = signs.with_sign_at t s None
front t time (act.Expire s) = signs.with_sign_at t s None

abbrev back : ℕ → Act → Option ℕ
back time (act.Open c o) = Some time
back time _ = None

signed_is : (t : signs.Signs) (time : ℕ) (x : Act) → signs.signs_after t time x ≡ front t time x ++ back time x ∷ []
signed_is t time act.Nothing = refl
signed_is t time (act.Open c o) = refl
signed_is t time (act.Keep s) = refl
signed_is t time (act.Do s name o) = refl
signed_is t time (act.Close s) = refl
signed_is t time (act.Expire s) = refl

front_size : (t : signs.Signs) (time : ℕ) (x : Act) → length (front t time x) ≡ length t
front_size t time act.Nothing = refl
front_size t time (act.Open c o) = refl
front_size t time (act.Keep s) = size_with t s (Some time)
front_size t time (act.Do s name o) = refl
front_size t time (act.Close s) = size_with t s None
front_size t time (act.Expire s) = size_with t s None

-- what the table has of a session after a change of one
with_same : (t : signs.Signs) (s : ℕ) (v : Option ℕ) → is_some (signs.sign_of t s) ≡ true → signs.sign_of (signs.with_sign_at t s v) s ≡ v
with_same t zero v e = absurd (cc)
with_same t (suc k) v e = ap signs.flat_sign (get_set t k v (there t k e))
  where
    there : (u : signs.Signs) (j : ℕ) → is_some (signs.flat_sign (slice_get u j)) ≡ true → j < length u
    there [] j f = absurd (cc)
    there (x ∷ u) zero f = omega arith
    there (x ∷ u) (suc j) f = let l = there u j f in omega arith

with_other : (t : signs.Signs) (s r : ℕ) (v : Option ℕ) → nat_eq s r ≡ false → signs.sign_of (signs.with_sign_at t r v) s ≡ signs.sign_of t s
with_other t s zero v e = refl
with_other t zero (suc k) v e = refl
with_other t (suc j) (suc k) v e = ap signs.flat_sign (get_other t k j v (suc_differs j k e))

-- a session that was there before: whether it is live, and its sign
live_next : (g : histories.History) (a : ℕ × Act) (s : ℕ) → s ≤ length g
    → live_now (g ++ a ∷ []) s ≡ (histories.is_open (lists.at_place g s) && not (list_any (λ b. histories.ends s b.1) g || (histories.ends s a.1 || false)))
live_next g a s l = ap₂ (λ o e. histories.is_open o && not e) (at_within g (a ∷ []) s l) (any_next g a s)

unended : (o e : Bool) → (o && not (e || (false || false))) ≡ (o && not e)
unended o true = refl
unended o false = refl

ended : (o e : Bool) → (o && not (e || (true || false))) ≡ false
ended true true = refl
ended true false = refl
ended false e = refl

live_kept : (g : histories.History) (a : ℕ × Act) (s : ℕ) → s ≤ length g → histories.ends s a.1 ≡ false → live_now (g ++ a ∷ []) s ≡ live_now g s
live_kept g a s l e =
    live_next g a s l ∙ ap (λ b. histories.is_open (lists.at_place g s) && not (list_any (λ x. histories.ends s x.1) g || (b || false))) e
    ∙ unended (histories.is_open (lists.at_place g s)) (list_any (λ x. histories.ends s x.1) g)

live_ended : (g : histories.History) (a : ℕ × Act) (s : ℕ) → s ≤ length g → histories.ends s a.1 ≡ true → live_now (g ++ a ∷ []) s ≡ false
live_ended g a s l e =
    live_next g a s l ∙ ap (λ b. histories.is_open (lists.at_place g s) && not (list_any (λ x. histories.ends s x.1) g || (b || false))) e
    ∙ ended (histories.is_open (lists.at_place g s)) (list_any (λ x. histories.ends s x.1) g)

abbrev last_sign : ℕ → ℕ → ℕ → ℕ × Act → ℕ
last_sign s done sign a = histories.sign_after s done sign (a ∷ [])

-- the sign and whether it is live stay
stays : (g : histories.History) (t : signs.Signs) (a : ℕ × Act) (s : ℕ) → Describes g t → s ≤ length g → histories.ends s a.1 ≡ false
    → last_sign s (0 + length g) (sign_now g s) a ≡ sign_now g s → signs.sign_of t s ≡ live_sign (g ++ a ∷ []) s
stays g t a s d l e k =
    d.live s ∙ sym (ap₂ (λ (b : Bool) (n : ℕ). cond b (Some n) None) (live_kept g a s l e) (sign_split s 0 0 g (a ∷ []) ∙ k))

-- a session that an act signs
signs_it : (g : histories.History) (t : signs.Signs) (time s : ℕ) → Describes g t → is_some (signs.sign_of t s) ≡ true → s ≤ length g → nat_eq s s ≡ true
    → Some time ≡ live_sign (g ++ (time, act.Keep s) ∷ []) s
signs_it g t time s d e l same =
    sym (ap₂ (λ (b : Bool) (n : ℕ). cond b (Some n) None) (live_kept g (time, act.Keep s) s l refl ∙ sym (has_sign g t s d) ∙ e)
    (sign_split s 0 0 g ((time, act.Keep s) ∷ []) ∙ ap (λ b. cond b time (sign_now g s)) same))

itself : (s : ℕ) → nat_eq s s ≡ true
itself s = grind (arith, nat_tests)

equal : (s r : ℕ) → nat_eq s r ≡ true → s ≡ r
equal s r e = grind (arith, nat_tests)

beyond : (s n : ℕ) → s ≤ n → nat_eq s (0 + n + 1) ≡ false
beyond s n l = grind (arith, nat_tests)

-- a session that was there before, after one more act
old_session : (timeout time : ℕ) (g : histories.History) (t : signs.Signs) (x : Act) (s : ℕ) → Describes g t → signs.is_allowed timeout t time x ≡ true → s ≤ length g
    → signs.sign_of (front t time x) s ≡ live_sign (g ++ (time, x) ∷ []) s
old_session timeout time g t act.Nothing s d e l = stays g t (time, act.Nothing) s d l refl refl
old_session timeout time g t (act.Open c o) s d e l = stays g t (time, act.Open c o) s d l refl (ap (λ b. cond b time (sign_now g s)) (beyond s (length g) l))
old_session timeout time g t (act.Do r name o) s d e l = stays g t (time, act.Do r name o) s d l refl refl
old_session timeout time g t (act.Keep r) s d e l = go (nat_eq s r) refl
  where
    go : (b : Bool) → nat_eq s r ≡ b → signs.sign_of (front t time (act.Keep r)) s ≡ live_sign (g ++ (time, act.Keep r) ∷ []) s
    go true f = rw (equal s r f) (with_same t r (Some time) e ∙ signs_it g t time r d e (within timeout time g t r d e) (itself r))
    go false f = with_other t s r (Some time) f ∙ stays g t (time, act.Keep r) s d l refl (ap (λ b. cond b time (sign_now g s)) f)
old_session timeout time g t (act.Close r) s d e l = go (nat_eq s r) refl
  where
    go : (b : Bool) → nat_eq s r ≡ b → signs.sign_of (front t time (act.Close r)) s ≡ live_sign (g ++ (time, act.Close r) ∷ []) s
    go true f = rw (equal s r f)
        (with_same t r None e ∙ sym (ap (λ b. cond b (Some (sign_now (g ++ (time, act.Close r) ∷ []) r)) None) (live_ended g (time, act.Close r) r (within timeout time g t r d e) (itself r))))
    go false f = with_other t s r None f ∙ stays g t (time, act.Close r) s d l f refl
old_session timeout time g t (act.Expire r) s d e l = go (nat_eq s r) refl
  where
    some : is_some (signs.sign_of t r) ≡ true
    some = due_some timeout time (signs.sign_of t r) e

    go : (b : Bool) → nat_eq s r ≡ b → signs.sign_of (front t time (act.Expire r)) s ≡ live_sign (g ++ (time, act.Expire r) ∷ []) s
    go true f = rw (equal s r f)
        (with_same t r None some ∙ sym (ap (λ b. cond b (Some (sign_now (g ++ (time, act.Expire r) ∷ []) r)) None) (live_ended g (time, act.Expire r) r (within timeout time g t r d some) (itself r))))
    go false f = with_other t s r None f ∙ stays g t (time, act.Expire r) s d l f refl

-- the session that the act opens, if it opens one
new_session : (timeout time : ℕ) (g : histories.History) (t : signs.Signs) (x : Act) → Describes g t → signs.is_allowed timeout t time x ≡ true
    → back time x ≡ live_sign (g ++ (time, x) ∷ []) (suc (length g))
new_session timeout time g t x d e =
    new_of x ∙ sym (ap₂ (λ (b : Bool) (n : ℕ). cond b (Some n) None)
    (ap₂ (λ o f. histories.is_open o && not f) (at_end g (time, x) []) (any_next g (time, x) (suc (length g)) ∙ ap₂ (λ f h. f || (h || false)) (d.unended (suc (length g)) (omega arith)) (ends_within timeout time g t x (suc (length g)) d e (omega arith))))
    (sign_split (suc (length g)) 0 0 g ((time, x) ∷ [])))
  where
    here : nat_eq (suc (length g)) (0 + length g + 1) ≡ true
    here = grind (arith, nat_tests)

    new_of : (y : Act) → back time y
        ≡ cond (histories.is_open (Some (time, y)) && not (false || (false || false))) (Some (last_sign (suc (length g)) (0 + length g) (sign_now g (suc (length g))) (time, y))) None
    new_of (act.Open c o) = sym (ap (λ b. Some (cond b time (sign_now g (suc (length g))))) here)
    new_of act.Nothing = refl
    new_of (act.Keep s) = refl
    new_of (act.Do s name o) = refl
    new_of (act.Close s) = refl
    new_of (act.Expire s) = refl

-- no session beyond
no_session : (g : histories.History) (a : ℕ × Act) (s : ℕ) → suc (length g) < s → live_sign (g ++ a ∷ []) s ≡ None
no_session g a s l =
    let far : lists.at_place (g ++ a ∷ []) s ≡ None = at_past (g ++ a ∷ []) s (let e = longer g a in omega arith) in
    ap (λ o. cond (histories.is_open o && not (list_any (λ b. histories.ends s b.1) (g ++ a ∷ []))) (Some (sign_now (g ++ a ∷ []) s)) None) far

signed_live : (timeout time : ℕ) (g : histories.History) (t : signs.Signs) (x : Act) (s : ℕ) → Describes g t → signs.is_allowed timeout t time x ≡ true
    → signs.sign_of (front t time x ++ back time x ∷ []) s ≡ live_sign (g ++ (time, x) ∷ []) s
signed_live timeout time g t x s d e = go (nat_le s (length g)) refl (nat_eq s (suc (length g))) refl
  where
    size : length (front t time x) ≡ length g
    size = front_size t time x ∙ d.size

    go : (b : Bool) → nat_le s (length g) ≡ b → (c : Bool) → nat_eq s (suc (length g)) ≡ c
        → signs.sign_of (front t time x ++ back time x ∷ []) s ≡ live_sign (g ++ (time, x) ∷ []) s
    go true l c m =
        let low : s ≤ length g = grind (arith, nat_tests) in
        ap signs.flat_sign (at_within (front t time x) (back time x ∷ []) s (omega (arith, size, low))) ∙ old_session timeout time g t x s d e low
    go false l true m =
        let last : s ≡ suc (length g) = equal s (suc (length g)) m in
        let place : s ≡ suc (length (front t time x)) = last ∙ ap (λ n. suc n) (sym size) in
        ap (signs.sign_of (front t time x ++ back time x ∷ [])) place ∙ ap signs.flat_sign (at_end (front t time x) (back time x) [])
        ∙ new_session timeout time g t x d e ∙ ap (live_sign (g ++ (time, x) ∷ [])) (sym last)
    go false l false m =
        let far : suc (length g) < s = grind (arith, nat_tests) in
        ap signs.flat_sign (at_past (front t time x ++ back time x ∷ []) s (let k = longer (front t time x) (back time x) in omega (arith, k, size, far)))
        ∙ sym (no_session g (time, x) s far)

signed_describes : (timeout : ℕ) (g : histories.History) (t : signs.Signs) (a : ℕ × Act) → Describes g t → signs.is_allowed timeout t a.0 a.1 ≡ true
    → Describes (g ++ a ∷ []) (signs.signs_after t a.0 a.1)
signed_describes timeout g t a d e = record {
  size = ap (λ u. length u) (signed_is t a.0 a.1) ∙ longer (front t a.0 a.1) (back a.0 a.1) ∙ ap (λ n. suc n) (front_size t a.0 a.1 ∙ d.size) ∙ sym (longer g a);
  live = λ s. ap (λ u. signs.sign_of u s) (signed_is t a.0 a.1) ∙ signed_live timeout a.0 g t a.1 s d e;
  unended = λ s l. let k = longer g a in
      any_next g a s ∙ ap₂ (λ f h. f || (h || false)) (d.unended s (omega (arith, k, l))) (ends_within timeout a.0 g t a.1 s d e (omega (arith, k, l)));
}

-- ---- all acts

allowed_from : (timeout : ℕ) (g : histories.History) (t : signs.Signs) (last : ℕ) (acts : histories.History) → Describes g t
    → history_condition.are_lawful (g ++ acts) timeout (suc (length g)) last acts ≡ signs.are_allowed timeout t last acts
allowed_from timeout g t last [] d = refl
allowed_from timeout g t last (a ∷ acts) d =
    let h : histories.History = g ++ a ∷ acts in
    let p : ℕ = suc (length g) in
    let later : Bool = history_condition.are_lawful h timeout (p + 1) a.0 acts in
    let place : p + 1 ≡ suc (length (g ++ a ∷ [])) = (let k = longer g a in omega arith) in
    let same : h ≡ (g ++ a ∷ []) ++ acts = sym (append_assoc g (a ∷ []) acts) in
    ap (λ b. b && later)
    (grouped (nat_le last a.0) (history_condition.is_of_live h p (histories.session_of a.1)) (history_condition.is_due_expiry h timeout p a.0 a.1)
    ∙ ap (λ b. nat_le last a.0 && b) (same_test timeout a.0 g (a ∷ acts) t a.1 d))
    ∙ behind_test (nat_le last a.0) (signs.is_allowed timeout t a.0 a.1) later (signs.are_allowed timeout (signs.signs_after t a.0 a.1) a.0 acts)
    (λ e. ap₂ (λ (k : histories.History) (n : ℕ). history_condition.are_lawful k timeout n a.0 acts) same place
    ∙ allowed_from timeout (g ++ a ∷ []) (signs.signs_after t a.0 a.1) a.0 acts (signed_describes timeout g t a d e))

pub signs_find_lawful : laws.SignsFindLawful
signs_find_lawful timeout h = sym (allowed_from timeout [] [] 0 h (record {
  size = refl;
  live = λ s. none s;
  unended = λ s l. refl;
}))
  where
    none : (s : ℕ) → signs.sign_of [] s ≡ live_sign [] s
    none zero = refl
    none (suc k) = refl
