-- The members of a cluster after one of them changed.
use Rattle.std.proofs.Common.{◌≡◌, ℕ, zero, suc, ◌≤◌, List, [], ◌∷◌, length, ap, sym, ◌∙◌, subst, arith, inl, inr}
use Rattle.std.specs.Prelude.{◌≢◌, Option, Some, None, option_map}
use Rattle.ax_types.specs.Places as ax_types_lists
use Rattle.spec_raft.specs.Positions as lists
use Rattle.spec_raft.proofs.Placing.{at_place-changed, at_place-others}
use Rattle.law_past.proofs.Polls.{same_or}

abbrev or_else : {X : Type 0} → X → Option X → X
or_else d None = d
or_else d (Some x) = x

pub some_same : {X : Type 0} (x y : X) → Some x ≡ Some y → x ≡ y
some_same x y e = ap (or_else x) e

-- the changed place
pub changed_here : {X : Type 0} (xs : List X) (j : ℕ) (old new : X) → ax_types_lists.at_place xs j ≡ Some old → ax_types_lists.at_place (lists.change_place (λ o. new) xs j) j ≡ Some new
changed_here xs j old new e = at_place-changed (λ o. new) xs j ∙ ap (option_map (λ o. new)) e

-- what holds of the new thing at its place, and of the others at theirs, holds of all after the change
pub changing : {X : Type 0} (P : ℕ → X → Type 0) (xs : List X) (j : ℕ) (old new : X) → ax_types_lists.at_place xs j ≡ Some old → P j new → ((k : ℕ) (x : X) → k ≢ j → ax_types_lists.at_place xs k ≡ Some x → P k x) → (k : ℕ) (x : X) → ax_types_lists.at_place (lists.change_place (λ o. new) xs j) k ≡ Some x → P k x
changing P xs j old new e here there k x h = elim (same_or k j) [
  | inl same ↦
      let a : Some new ≡ Some x = sym (changed_here xs j old new e) ∙ ap (ax_types_lists.at_place (lists.change_place (λ o. new) xs j)) (sym same) ∙ h in
      subst (λ i. P i x) (sym same) (subst (λ y. P j y) (some_same new x a) here)
  | inr ne ↦ there k x ne (sym (at_place-others (λ o. new) xs j k (λ z. ne (sym z))) ∙ h)
]

abbrev is_some : {X : Type 0} → Option X → ℕ
is_some None = 0
is_some (Some y) = 1

pub none_some : {X : Type 0} (x : X) → None ≡ Some x → ⊥
none_some x e = let z : 0 ≡ 1 = ap is_some e in omega (arith, z)

-- a place that holds something is one of those of the list
pub place_within : {X : Type 0} (xs : List X) (k : ℕ) (x : X) → ax_types_lists.at_place xs k ≡ Some x → (1 ≤ k) × (k ≤ length xs)
place_within xs zero x e = absurd (none_some x e)
place_within [] (suc k) x e = absurd (none_some x e)
place_within (y ∷ xs) (suc zero) x e = (omega arith, omega arith)
place_within (y ∷ xs) (suc (suc k)) x e = let r = place_within xs (suc k) x e in (omega arith, omega (arith, r.1))
