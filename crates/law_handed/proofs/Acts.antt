-- The acts of sessions at resources: each place is of one session, and a session's places rise.
use Rattle.std.proofs.Common.{◌≡◌, ℕ, zero, suc, ◌+◌, ◌≤◌, ◌<◌, Bool, true, false, cond, nat_eq, List, [], ◌∷◌, Some, slice_get, refl, sym, ap, ◌∙◌, subst, arith}
use Rattle.std.specs.List.{AllByRecursion}
use Rattle.ax_types.specs.Places as lists
use Rattle.ax_types.specs.declared.entries.Act.TheVariants as act
use Rattle.ax_types.specs.declared.ops.Op.{Op}
use Rattle.spec_book.specs.History as histories
use Rattle.law_release.proofs.Tests.{equal}

abbrev pub Done : Type 0
Done = ℕ × (List ℕ × Op)

-- all stand beyond a place
abbrev AreBeyond : ℕ → List Done → Type 0
AreBeyond n ds = AllByRecursion (λ (d : Done). n < d.0) ds

beyond_since : (m n : ℕ) (ds : List Done) → m ≤ n → AreBeyond n ds → AreBeyond m ds
beyond_since m n [] l h = tt
beyond_since m n (d ∷ ds) l h = (omega (arith, l, h.0), beyond_since m n ds l h.1)

with_beyond : (n : ℕ) (b : Bool) (x : List ℕ × Op) (ds : List Done) → AreBeyond (n + 1) ds → AreBeyond n (cond b ((n + 1, x) ∷ ds) ds)
with_beyond n true x ds h = (omega arith, beyond_since n (n + 1) ds (omega arith) h)
with_beyond n false x ds h = beyond_since n (n + 1) ds (omega arith) h

dos_beyond : (s done : ℕ) (h : histories.History) → AreBeyond done (histories.dos_after s done h)
dos_beyond s done [] = tt
dos_beyond s done ((time, act.Do t name o) ∷ h) =
    with_beyond done (nat_eq s t) (name, o) (histories.dos_after s (done + 1) h) (dos_beyond s (done + 1) h)
dos_beyond s done ((time, act.Open c o) ∷ h) = beyond_since done (done + 1) _ (omega arith) (dos_beyond s (done + 1) h)
dos_beyond s done ((time, act.Keep t) ∷ h) = beyond_since done (done + 1) _ (omega arith) (dos_beyond s (done + 1) h)
dos_beyond s done ((time, act.Close t) ∷ h) = beyond_since done (done + 1) _ (omega arith) (dos_beyond s (done + 1) h)
dos_beyond s done ((time, act.Expire t) ∷ h) = beyond_since done (done + 1) _ (omega arith) (dos_beyond s (done + 1) h)
dos_beyond s done ((time, act.Nothing) ∷ h) = beyond_since done (done + 1) _ (omega arith) (dos_beyond s (done + 1) h)

get_beyond : (n : ℕ) (ds : List Done) (i : ℕ) (d : Done) → AreBeyond n ds → slice_get ds i ≡ Some d → n < d.0
get_beyond n [] i d h e = absurd (cc)
get_beyond n (x ∷ ds) zero d h e = let f : x ≡ d = cc in subst (λ (y : Done). n < y.0) f h.0
get_beyond n (x ∷ ds) (suc i) d h e = get_beyond n ds i d h.1 e

-- a session's places rise
abbrev Rise : List Done → Type 0
Rise [] = Unit {0}
Rise (d ∷ ds) = AreBeyond d.0 ds × Rise ds

with_rise : (p : ℕ) (b : Bool) (x : List ℕ × Op) (ds : List Done) → AreBeyond p ds → Rise ds → Rise (cond b ((p, x) ∷ ds) ds)
with_rise p true x ds a h = (a, h)
with_rise p false x ds a h = h

dos_rise : (s done : ℕ) (h : histories.History) → Rise (histories.dos_after s done h)
dos_rise s done [] = tt
dos_rise s done ((time, act.Do t name o) ∷ h) =
    with_rise (done + 1) (nat_eq s t) (name, o) (histories.dos_after s (done + 1) h) (dos_beyond s (done + 1) h) (dos_rise s (done + 1) h)
dos_rise s done ((time, act.Open c o) ∷ h) = dos_rise s (done + 1) h
dos_rise s done ((time, act.Keep t) ∷ h) = dos_rise s (done + 1) h
dos_rise s done ((time, act.Close t) ∷ h) = dos_rise s (done + 1) h
dos_rise s done ((time, act.Expire t) ∷ h) = dos_rise s (done + 1) h
dos_rise s done ((time, act.Nothing) ∷ h) = dos_rise s (done + 1) h

get_rise : (ds : List Done) (i j : ℕ) (d e : Done) → Rise ds → i < j → slice_get ds i ≡ Some d → slice_get ds j ≡ Some e → d.0 < e.0
get_rise [] i j d e h l a b = absurd (cc)
get_rise (x ∷ ds) i zero d e h l a b = absurd (omega (arith, l))
get_rise (x ∷ ds) zero (suc j) d e h l a b =
    let f : x ≡ d = cc in subst (λ (y : Done). y.0 < e.0) f (get_beyond x.0 ds j e h.0 b)
get_rise (x ∷ ds) (suc i) (suc j) d e h l a b = get_rise ds i j d e h.1 (omega (arith, l)) a b

pub acts_rise : (h : histories.History) (s j k : ℕ) (d e : Done) → j < k
    → lists.at_place (histories.dos h s) j ≡ Some d → lists.at_place (histories.dos h s) k ≡ Some e → d.0 < e.0
acts_rise h s zero k d e l a b = absurd (cc)
acts_rise h s (suc j) zero d e l a b = absurd (cc)
acts_rise h s (suc j) (suc k) d e l a b = get_rise (histories.dos h s) j k d e (dos_rise s 0 h) (omega (arith, l)) a b

-- the first of them, or one of the others
data FirstOrOther (b : Bool) (p : ℕ) (ds : List Done) (d : Done) : Type 0 where
  first : b ≡ true → d.0 ≡ p → FirstOrOther b p ds d
  other : (i : ℕ) → slice_get ds i ≡ Some d → FirstOrOther b p ds d

get_with : (b : Bool) (p : ℕ) (x : List ℕ × Op) (ds : List Done) (i : ℕ) (d : Done)
    → slice_get (cond b ((p, x) ∷ ds) ds) i ≡ Some d → FirstOrOther b p ds d
get_with true p x ds zero d e = let f : (p, x) ≡ d = cc in first refl (ap (λ (y : Done). y.0) (sym f))
get_with true p x ds (suc i) d e = other i e
get_with false p x ds i d e = other i e

both_sessions : (s t u done : ℕ) (h : histories.History) (d e : Done) → FirstOrOther (nat_eq s u) (done + 1) (histories.dos_after s (done + 1) h) d
    → FirstOrOther (nat_eq t u) (done + 1) (histories.dos_after t (done + 1) h) e → d.0 ≡ e.0
    → ((k m : ℕ) → slice_get (histories.dos_after s (done + 1) h) k ≡ Some d
    → slice_get (histories.dos_after t (done + 1) h) m ≡ Some e → s ≡ t) → s ≡ t
both_sessions s t u done h d e (first x f) (first y g) same others = equal s u x ∙ sym (equal t u y)
both_sessions s t u done h d e (first x f) (other k g) same others =
    let l = get_beyond (done + 1) (histories.dos_after t (done + 1) h) k e (dos_beyond t (done + 1) h) g in absurd (omega (arith, f, l, same))
both_sessions s t u done h d e (other k g) (first x f) same others =
    let l = get_beyond (done + 1) (histories.dos_after s (done + 1) h) k d (dos_beyond s (done + 1) h) g in absurd (omega (arith, f, l, same))
both_sessions s t u done h d e (other k f) (other m g) same others = others k m f g

-- an act at a place is of one session
one_session : (s t done : ℕ) (h : histories.History) (i j : ℕ) (d e : Done)
    → slice_get (histories.dos_after s done h) i ≡ Some d → slice_get (histories.dos_after t done h) j ≡ Some e → d.0 ≡ e.0 → s ≡ t
one_session s t done [] i j d e a b same = absurd (cc)
one_session s t done ((time, act.Do u name o) ∷ h) i j d e a b same =
    both_sessions s t u done h d e
    (get_with (nat_eq s u) (done + 1) (name, o) (histories.dos_after s (done + 1) h) i d a)
    (get_with (nat_eq t u) (done + 1) (name, o) (histories.dos_after t (done + 1) h) j e b) same
    (λ k m f g. one_session s t (done + 1) h k m d e f g same)
one_session s t done ((time, act.Open c o) ∷ h) i j d e a b same = one_session s t (done + 1) h i j d e a b same
one_session s t done ((time, act.Keep u) ∷ h) i j d e a b same = one_session s t (done + 1) h i j d e a b same
one_session s t done ((time, act.Close u) ∷ h) i j d e a b same = one_session s t (done + 1) h i j d e a b same
one_session s t done ((time, act.Expire u) ∷ h) i j d e a b same = one_session s t (done + 1) h i j d e a b same
one_session s t done ((time, act.Nothing) ∷ h) i j d e a b same = one_session s t (done + 1) h i j d e a b same

pub acts_are_own : (h : histories.History) (s t j k : ℕ) (d e : Done)
    → lists.at_place (histories.dos h s) j ≡ Some d → lists.at_place (histories.dos h t) k ≡ Some e → d.0 ≡ e.0 → s ≡ t
acts_are_own h s t zero k d e a b same = absurd (cc)
acts_are_own h s t (suc j) zero d e a b same = absurd (cc)
acts_are_own h s t (suc j) (suc k) d e a b same = one_session s t 0 h j k d e a b same
