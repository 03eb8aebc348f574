-- A lawful history passes the test.
use Rattle.std.proofs.Common.{◌≡◌, ℕ, suc, ◌≤◌, ◌+◌, true, [], ◌∷◌, Option, Some, None, refl, sym, ap, ◌∙◌, arith, slice_get, add-one}
use Rattle.ax_types.specs.Places as lists
use Rattle.ax_types.specs.declared.entries.Act.{Act}
use Rattle.ax_types.specs.declared.entries.Act.TheVariants as act
use Rattle.spec_book.specs.History as histories
use Rattle.spec_audit.specs.HistoryCondition as history_condition
use Rattle.law_audit.proofs.Tests.{both, at_most}

of_live : (h : histories.History) (p : ℕ) (s : Option ℕ) → histories.IsOfLive h p s → history_condition.is_of_live h p s ≡ true
of_live h p None l = refl
of_live h p (Some s) l = l

due : (h : histories.History) (timeout p : ℕ) (a : ℕ × Act) → histories.IsDue h timeout p a → history_condition.is_due_expiry h timeout p a.0 a.1 ≡ true
due h timeout p (t, act.Nothing) d = refl
due h timeout p (t, act.Open c o) d = refl
due h timeout p (t, act.Keep s) d = refl
due h timeout p (t, act.Do s name o) d = refl
due h timeout p (t, act.Close s) d = refl
due h timeout p (t, act.Expire s) d = at_most _ _ d

lawful_from : (timeout : ℕ) (h : histories.History) → histories.IsLawful timeout h → (p last : ℕ) (acts : histories.History)
    → ((k : ℕ) → slice_get acts k ≡ slice_get h (k + p)) → ((a : ℕ × Act) → slice_get acts 0 ≡ Some a → last ≤ a.0)
    → history_condition.are_lawful h timeout (suc p) last acts ≡ true
lawful_from timeout h l p last [] same after = refl
lawful_from timeout h l p last (a ∷ acts) same after =
    let zeroth : p ≡ 0 + p = omega arith in
    let first : suc p ≡ 1 + p = omega arith in
    let here : lists.at_place h (suc p) ≡ Some a = ap (slice_get h) zeroth ∙ sym (same 0) in
    let next : (b : ℕ × Act) → slice_get acts 0 ≡ Some b → a.0 ≤ b.0 = λ b e. l.times (suc p) a b here (ap (slice_get h) first ∙ sym (same 1) ∙ e) in
    let tail : (k : ℕ) → slice_get acts k ≡ slice_get h (k + suc p) = λ k. same (suc k) ∙ ap (slice_get h) (omega arith) in
    let later : history_condition.are_lawful h timeout (suc (suc p)) a.0 acts ≡ true = lawful_from timeout h l (suc p) a.0 acts tail next in
    both _ _ (both _ _ (both _ _ (at_most last a.0 (after a refl)) (of_live h (suc p) (histories.session_of a.1) (l.live (suc p) a here))) (due h timeout (suc p) a (l.due (suc p) a here)))
    (rw (add-one (suc p)) later)

pub lawful : (timeout : ℕ) (h : histories.History) → histories.IsLawful timeout h → history_condition.is_lawful timeout h ≡ true
lawful timeout h l = lawful_from timeout h l 0 0 h (λ k. ap (slice_get h) (omega arith)) (λ a e. omega arith)
