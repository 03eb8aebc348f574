-- What one more act does to the signs, the acts and the events of sessions.
use Rattle.std.proofs.Common.{◌≡◌, ◌≢◌, ℕ, zero, suc, ◌+◌, ◌-◌, ◌≤◌, ◌<◌, Bool, true, false, cond, not, ◌&&◌, ◌||◌, nat_eq, nat_le, List, [], ◌∷◌, ◌++◌, Option, Some, None, length, take, refl, sym, ap, ap₂, ◌∙◌, arith, inl, inr, leb-true}
use Rattle.std.specs.List.{AllByRecursion, list_any}
use Rattle.std.proofs.lemmas.List.{length-append, take-append-le}
use Rattle.std.proofs.lemmas.List.Folds.{list_any-append}
use Rattle.ax_types.specs.Places as lists
use Rattle.ax_types.specs.declared.entries.Act.{Act}
use Rattle.ax_types.specs.declared.entries.Act.TheVariants as act
use Rattle.spec_book.specs.History as histories
use Rattle.law_told.proofs.Lists.{at_within, at_end, at_some, by_last}
use Rattle.law_told.proofs.Named.{IsLiveNow, OfLive, live_told, live_before, opened_within}
use Rattle.law_told.proofs.Staying.{dos_grown}
use Rattle.law_sessions.proofs.Finding.{is_unequal}

pub one_longer : {X : Type 0} (xs : List X) (x : X) → length (xs ++ x ∷ []) ≡ suc (length xs)
one_longer xs x = let e = length-append xs (x ∷ []) in omega arith

-- signs
pub sign_split : (s done last : ℕ) (h r : histories.History) → histories.sign_after s done last (h ++ r) ≡ histories.sign_after s (done + length h) (histories.sign_after s done last h) r
sign_split s done last [] r = let e : done ≡ done + 0 = omega arith in ap (λ n. histories.sign_after s n last r) e
sign_split s done last ((time, a) ∷ h) r = go (λ l. sign_split s (done + 1) l h r ∙ ap (λ n. histories.sign_after s n (histories.sign_after s (done + 1) l h) r) e) a
  where
    e : done + 1 + length h ≡ done + suc (length h)
    e = omega arith

    go : ((l : ℕ) → histories.sign_after s (done + 1) l (h ++ r) ≡ histories.sign_after s (done + suc (length h)) (histories.sign_after s (done + 1) l h) r)
        → (x : Act) → histories.sign_after s done last ((time, x) ∷ (h ++ r)) ≡ histories.sign_after s (done + suc (length h)) (histories.sign_after s done last ((time, x) ∷ h)) r
    go on (act.Open c o) = on (cond (nat_eq s (done + 1)) time last)
    go on (act.Keep t) = on (cond (nat_eq s t) time last)
    go on (act.Do t name o) = on last
    go on (act.Close t) = on last
    go on (act.Expire t) = on last
    go on act.Nothing = on last

-- the sign after one more act, and before it
abbrev pub sign_now : histories.History → ℕ → ℕ
sign_now h s = histories.sign_after s 0 0 h

pub sign_next : (h : histories.History) (a : ℕ × Act) (s : ℕ) → sign_now (h ++ a ∷ []) s ≡ histories.sign_after s (0 + length h) (sign_now h s) (a ∷ [])
sign_next h a s = sign_split s 0 0 h (a ∷ [])

pub sign_before : (h : histories.History) (a : ℕ × Act) (s : ℕ) → histories.sign (h ++ a ∷ []) (suc (length h)) s ≡ sign_now h s
sign_before h a s =
    let e : suc (length h) - 1 ≡ length h = omega arith in
    ap (λ n. histories.sign_after s 0 0 (take n (h ++ a ∷ []))) e ∙ ap (histories.sign_after s 0 0) (take-append-le (length h) h (a ∷ []) (omega arith) ∙ Rattle.law_told.proofs.Lists.take_all h)

-- acts at resources
pub dos_next : (h : histories.History) (a : ℕ × Act) (s : ℕ) → histories.dos (h ++ a ∷ []) s ≡ histories.dos h s ++ histories.dos_after s (0 + length h) (a ∷ [])
dos_next h a s = dos_grown h (a ∷ []) s

-- no act is of a session that is not yet opened
abbrev IsOfOther : ℕ → ℕ × Act → Type 0
IsOfOther s a = (t : ℕ) → histories.session_of a.1 ≡ Some t → t ≢ s

of_other : (h : histories.History) (p s : ℕ) (a : ℕ × Act) (x : Option ℕ) → p ≤ length h → length h < s → 1 ≤ p → histories.IsOfLive h p x → (t : ℕ) → x ≡ Some t → t ≢ s
of_other h p s a None w l o i t e = absurd (cc)
of_other h p s a (Some u) w l o i t e = λ z.
    let same : u ≡ t = cc in
    let k : nat_le u (p - 1) ≡ true = live_upto h (p - 1) u i in
    let m : u ≤ p - 1 = leb-true u (p - 1) k in
    omega arith
  where
    both : (a b c : Bool) → (a && b && c) ≡ true → b ≡ true
    both true true c f = refl
    both true false c f = absurd (cc)
    both false b c f = absurd (cc)

    live_upto : (g : histories.History) (q v : ℕ) → histories.is_live g q v ≡ true → nat_le v q ≡ true
    live_upto g q v f = both (histories.is_open (lists.at_place g v)) (nat_le v q) (not (list_any (λ b. histories.ends v b.1) (take q g))) f

pub others_all : (h : histories.History) (s : ℕ) → OfLive h → length h < s → AllByRecursion (IsOfOther s) h
others_all h s o l = by_last (λ g. OfLive g → length g < s → AllByRecursion (IsOfOther s) g) (λ p q. tt) more h o l
  where
    more : (g : histories.History) (a : ℕ × Act) → (OfLive g → length g < s → AllByRecursion (IsOfOther s) g) → OfLive (g ++ a ∷ []) → length (g ++ a ∷ []) < s → AllByRecursion (IsOfOther s) (g ++ a ∷ [])
    more g a next p q =
        let n = one_longer g a in
        let i = p (suc (length g)) a (at_end g a []) in
        Rattle.law_told.proofs.Lists.all_append (IsOfOther s) g (a ∷ []) (next (live_before g (a ∷ []) p) (omega arith))
        (of_other (g ++ a ∷ []) (suc (length g)) s a (histories.session_of a.1) (omega arith) q (omega arith) i, tt)

no_dos : (h : histories.History) (s done : ℕ) → AllByRecursion (IsOfOther s) h → histories.dos_after s done h ≡ []
no_dos [] s done o = refl
no_dos ((time, act.Do t name op) ∷ h) s done o =
    let n : nat_eq s t ≡ false = is_unequal s t (λ e. o.0 t refl (sym e)) in
    ap (λ b. cond b ((done + 1, (name, op)) ∷ histories.dos_after s (done + 1) h) (histories.dos_after s (done + 1) h)) n ∙ no_dos h s (done + 1) o.1
no_dos ((time, act.Open c op) ∷ h) s done o = no_dos h s (done + 1) o.1
no_dos ((time, act.Keep t) ∷ h) s done o = no_dos h s (done + 1) o.1
no_dos ((time, act.Close t) ∷ h) s done o = no_dos h s (done + 1) o.1
no_dos ((time, act.Expire t) ∷ h) s done o = no_dos h s (done + 1) o.1
no_dos ((time, act.Nothing) ∷ h) s done o = no_dos h s (done + 1) o.1

not_ended : (h : histories.History) (s : ℕ) → AllByRecursion (IsOfOther s) h → list_any (λ a. histories.ends s a.1) h ≡ false
not_ended [] s o = refl
not_ended ((time, act.Close t) ∷ h) s o = ap (λ b. b || list_any (λ a. histories.ends s a.1) h) (is_unequal s t (λ e. o.0 t refl (sym e))) ∙ not_ended h s o.1
not_ended ((time, act.Expire t) ∷ h) s o = ap (λ b. b || list_any (λ a. histories.ends s a.1) h) (is_unequal s t (λ e. o.0 t refl (sym e))) ∙ not_ended h s o.1
not_ended ((time, act.Do t name op) ∷ h) s o = not_ended h s o.1
not_ended ((time, act.Open c op) ∷ h) s o = not_ended h s o.1
not_ended ((time, act.Keep t) ∷ h) s o = not_ended h s o.1
not_ended ((time, act.Nothing) ∷ h) s o = not_ended h s o.1

none_heard : (h : histories.History) (s p : ℕ) → OfLive h → p < s → histories.heard_upto h s p ≡ []
none_heard h s zero o l = refl
none_heard h s (suc p) o l =
    elim (live_told h (suc p) s o) [
      | inl z ↦ ap₂ (histories.heard_too (suc p)) z (none_heard h s p o (omega arith))
      | inr z ↦ let k : nat_le s (suc p) ≡ true = live_upto (suc p) z in let m : s ≤ suc p = leb-true s (suc p) k in absurd (omega arith)
    ]
  where
    both : (a b c : Bool) → (a && b && c) ≡ true → b ≡ true
    both true true c f = refl
    both true false c f = absurd (cc)
    both false b c f = absurd (cc)

    live_upto : (q : ℕ) → histories.is_live h q s ≡ true → nat_le s q ≡ true
    live_upto q f = both (histories.is_open (lists.at_place h s)) (nat_le s q) (not (list_any (λ b. histories.ends s b.1) (take q h))) f

-- a session to be opened
pub record IsNew (h : histories.History) (s : ℕ) : Type 0 where
  pub dos : histories.dos h s ≡ []
  pub events : histories.events h s ≡ []
  pub ends : list_any (λ a. histories.ends s a.1) h ≡ false

pub is_new : (h : histories.History) (s : ℕ) → OfLive h → length h < s → IsNew h s
is_new h s o l = let a = others_all h s o l in record { dos = no_dos h s 0 a; events = none_heard h s (length h) o l; ends = not_ended h s a }

-- a session that is live after an act was live before it, and was not ended by it, or it was opened by it
split_and : (a b : Bool) → (a && b) ≡ true → (a ≡ true) × (b ≡ true)
split_and true b e = (refl, e)
split_and false b e = absurd (cc)

neither : (a b : Bool) → not (a || b) ≡ true → (a ≡ false) × (b ≡ false)
neither false false e = (refl, refl)
neither false true e = absurd (cc)
neither true b e = absurd (cc)

pub record WasLive (h : histories.History) (a : ℕ × Act) (s : ℕ) : Type 0 where
  pub stays : histories.ends s a.1 ≡ false
  pub before : s ≤ length h → IsLiveNow h s
  pub within : s ≤ suc (length h)
  pub opened : s ≡ suc (length h) → histories.is_open (Some a) ≡ true

pub was_live : (h : histories.History) (a : ℕ × Act) (s : ℕ) → IsLiveNow (h ++ a ∷ []) s → WasLive h a s
was_live h a s l =
    let b = split_and (histories.is_open (lists.at_place (h ++ a ∷ []) s)) (not (list_any (λ x. histories.ends s x.1) (h ++ a ∷ []))) l in
    let n : not (list_any (λ x. histories.ends s x.1) h || list_any (λ x. histories.ends s x.1) (a ∷ [])) ≡ true = ap not (sym (list_any-append (λ x. histories.ends s x.1) h (a ∷ []))) ∙ b.1 in
    let m = neither (list_any (λ x. histories.ends s x.1) h) (list_any (λ x. histories.ends s x.1) (a ∷ [])) n in
    let long = one_longer h a in
    let w = opened_within (h ++ a ∷ []) s b.0 in
    record {
      stays = or_off (histories.ends s a.1) m.1;
      before = λ k. let o : histories.is_open (lists.at_place h s) ≡ true = ap histories.is_open (sym (at_within h (a ∷ []) s k)) ∙ b.0 in ap₂ (λ x y. x && not y) o m.0;
      within = omega arith;
      opened = λ e. let o : lists.at_place (h ++ a ∷ []) s ≡ Some a = ap (lists.at_place (h ++ a ∷ [])) e ∙ at_end h a [] in ap histories.is_open (sym o) ∙ b.0;
    }
  where
    or_off : (x : Bool) → (x || false) ≡ false → x ≡ false
    or_off true e = e
    or_off false e = refl
