-- The commands of a session take effect once, in order, and begin those that were requested.
use Rattle.std.proofs.Common.{◌≡◌, ℕ, suc, ◌+◌, Bool, true, false, cond, nat_eq, List, [], ◌∷◌, Some, map, slice_get, refl, ap₂, arith}
use Rattle.ax_types.specs.declared.entries.Act.TheVariants as act
use Rattle.ax_types.specs.declared.ops.Op.{Op}
use Rattle.spec_book.specs.History as histories
use Rattle.spec_claims.specs.Once as once
use Rattle.spec_run.specs.KeptStores as kept_stores
use Rattle.law_sessions.specs.Acts as laws
use Rattle.law_sessions.proofs.Finding.{some_same}
use Rattle.law_sessions.proofs.Runs.{whole}

abbrev Done : Type 0
Done = ℕ × (List ℕ × Op)

rising_from : (p : ℕ) (ds : List Done) → laws.AreRising (p + 1) ds → laws.AreRising p ds
rising_from p [] r = tt
rising_from p (d ∷ ds) r = let l = r.0 in (omega (arith, l), r.1)

rising_with : (p : ℕ) (b : Bool) (x : List ℕ × Op) (ds : List Done) → laws.AreRising (p + 1) ds → laws.AreRising p (cond b ((p + 1, x) ∷ ds) ds)
rising_with p true x ds r = (omega arith, r)
rising_with p false x ds r = rising_from p ds r

rising : (s done : ℕ) (h : histories.History) → laws.AreRising done (histories.dos_after s done h)
rising s done [] = tt
rising s done ((time, act.Do t name o) ∷ h) = rising_with done (nat_eq s t) (name, o) (histories.dos_after s (done + 1) h) (rising s (done + 1) h)
rising s done ((time, act.Open c o) ∷ h) = rising_from done (histories.dos_after s (done + 1) h) (rising s (done + 1) h)
rising s done ((time, act.Keep t) ∷ h) = rising_from done (histories.dos_after s (done + 1) h) (rising s (done + 1) h)
rising s done ((time, act.Close t) ∷ h) = rising_from done (histories.dos_after s (done + 1) h) (rising s (done + 1) h)
rising s done ((time, act.Expire t) ∷ h) = rising_from done (histories.dos_after s (done + 1) h) (rising s (done + 1) h)
rising s done ((time, act.Nothing) ∷ h) = rising_from done (histories.dos_after s (done + 1) h) (rising s (done + 1) h)

pub commands_take_effect_once : laws.CommandsTakeEffectOnce
commands_take_effect_once timeout es s = record {
  numbered = λ k d i. (whole timeout es).acts.commands s k d i;
  rising = rising s 0 (kept_stores.acts_of timeout es);
}

begins : {X Y : Type 0} (f : X → Y) (xs : List X) (ys : List Y) → ((k : ℕ) (x : X) → slice_get xs k ≡ Some x → slice_get ys k ≡ Some (f x)) → once.Begins (map f xs) ys
begins f [] ys h = (ys, refl)
begins f (x ∷ xs) [] h = let e = h 0 x refl in absurd (cc)
begins f (x ∷ xs) (y ∷ ys) h =
    let e : y ≡ f x = some_same y (f x) (h 0 x refl) in
    let b = begins f xs ys (λ k z i. h (suc k) z i) in
    (b.0, ap₂ (λ u v. u ∷ v) e b.1)

pub acts_begin_commands : laws.ActsBeginCommands
acts_begin_commands timeout es s cs asked =
    begins (λ d. d.1) (histories.dos (kept_stores.acts_of timeout es) s) cs
    (λ k d i. asked d.0 (suc k) d.1 ((whole timeout es).acts.commands s (suc k) d i))
