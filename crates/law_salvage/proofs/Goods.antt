-- The good stores are a choice among those that the run left.
use Rattle.std.proofs.Common.{◌≡◌, ℕ, suc, ◌+◌, Bool, true, false, IsTrue, List, [], ◌∷◌, ◌++◌, Option, Some, None, refl, sym, ap, ap₂, ◌∙◌, subst, arith, length, filter, slice_get}
use Rattle.std.specs.Prelude.{if◌then◌else◌}
use Rattle.ax_types.specs.Places as lists
use Rattle.ax_types.specs.declared.entries.Loaded.{Loaded}
use Rattle.ax_types.specs.declared.findings.Found.{Found}
use Rattle.ax_types.specs.declared.findings.Found.TheVariants as found
use Rattle.spec_raft.specs.Majority as majorities
use Rattle.spec_run.specs.KeptStores as kept_stores
use Rattle.spec_salvage.specs.Salvage as salvages
use Rattle.law_salvage.specs.SalvagePromise as laws

abbrev is_good : Option Found → Bool
is_good None = false
is_good (Some (found.Good n c)) = true
is_good (Some (found.Empty n)) = false
is_good (Some (found.Bad n at)) = false

abbrev choice_of : List Found → ℕ → Bool
choice_of fs k = is_good (lists.at_place fs k)

same_length : (node : ℕ) (contents : List Loaded) (fs : List Found) → laws.AreAsLeft node contents fs → length fs ≡ length contents
same_length node [] [] a = refl
same_length node [] (f ∷ fs) a = absurd a
same_length node (c ∷ contents) [] a = absurd a
same_length node (c ∷ contents) (f ∷ fs) a = ap suc (same_length (suc node) contents fs a.1)

chosen_one : (choice : ℕ → Bool) (node : ℕ) (c : Loaded) (rest : List kept_stores.FoundStore) (f : Found) → choice node ≡ is_good (Some f) → laws.IsAsLeft node c f
    → salvages.good_in f ++ filter (λ g. choice g.node) rest ≡ filter (λ g. choice g.node) (record { node = node; content = c } ∷ rest)
chosen_one choice node c rest (found.Good n d) e a = rw e (ap₂ (λ k x. record { node = k; content = x } ∷ filter (λ g. choice g.node) rest) a.0 a.1)
chosen_one choice node c rest (found.Empty n) e a = rw e refl
chosen_one choice node c rest (found.Bad n at) e a = rw e refl

are_chosen : (choice : ℕ → Bool) (node : ℕ) (contents : List Loaded) (fs : List Found) → ((k : ℕ) → choice (k + node) ≡ is_good (slice_get fs k)) → laws.AreAsLeft node contents fs
    → salvages.goods fs ≡ filter (λ g. choice g.node) (kept_stores.numbered_from node contents)
are_chosen choice node [] [] h a = refl
are_chosen choice node [] (f ∷ fs) h a = absurd a
are_chosen choice node (c ∷ contents) [] h a = absurd a
are_chosen choice node (c ∷ contents) (f ∷ fs) h a =
    let here : choice node ≡ is_good (Some f) = ap choice (omega arith) ∙ h 0 in
    let later : (k : ℕ) → choice (k + suc node) ≡ is_good (slice_get fs k) = λ k. ap choice (omega arith) ∙ h (suc k) in
    ap (λ gs. salvages.good_in f ++ gs) (are_chosen choice (suc node) contents fs later a.1)
    ∙ chosen_one choice node c (kept_stores.numbered_from (suc node) contents) f here a.0

good_length : (f : Found) (gs : List kept_stores.FoundStore) → length (salvages.good_in f ++ gs) ≡ (if is_good (Some f) then 1 else 0) + length gs
good_length (found.Good n c) gs = omega arith
good_length (found.Empty n) gs = omega arith
good_length (found.Bad n at) gs = omega arith

are_counted : (choice : ℕ → Bool) (node : ℕ) (fs : List Found) → ((k : ℕ) → choice (k + node) ≡ is_good (slice_get fs k))
    → majorities.count choice (lists.numbers_from node (length fs)) ≡ length (salvages.goods fs)
are_counted choice node [] h = refl
are_counted choice node (f ∷ fs) h =
    let here : choice node ≡ is_good (Some f) = ap choice (omega arith) ∙ h 0 in
    let later : (k : ℕ) → choice (k + suc node) ≡ is_good (slice_get fs k) = λ k. ap choice (omega arith) ∙ h (suc k) in
    ap₂ (λ b n. (if b then 1 else 0) + n) here (are_counted choice (suc node) fs later) ∙ sym (good_length f (salvages.goods fs))

pub begins : laws.SalvageBeginsWithHistory
begins contents history timeout fs left a most =
    let good : (k : ℕ) → choice_of fs (k + 1) ≡ is_good (slice_get fs k) = λ k. ap (choice_of fs) (sym (one_more k)) in
    let same : length fs ≡ length contents = same_length 1 contents fs a in
    let counted : majorities.count (choice_of fs) (majorities.cluster_of (length fs)) ≡ length (salvages.goods fs) = are_counted (choice_of fs) 1 fs good in
    let enough : IsTrue (majorities.is_most (majorities.count (choice_of fs) (majorities.cluster_of (length contents))) (length contents)) =
    subst (λ n. IsTrue (majorities.is_most (majorities.count (choice_of fs) (majorities.cluster_of n)) n)) same
    (subst (λ m. IsTrue (majorities.is_most m (length fs))) (sym counted) most) in
    subst (λ gs. kept_stores.BeginsLog history timeout (kept_stores.newest gs)) (sym (are_chosen (choice_of fs) 1 contents fs good a)) (left (choice_of fs) enough)
  where
    one_more : (k : ℕ) → suc k ≡ k + 1
    one_more k = omega arith
