-- A value that is written where it stands is the entry of its key.
use Rattle.std.proofs.Common.{◌≡◌, ℕ, ◌∙◌, refl, sym, ap, cond, List, ◌∷◌, [], Some, None}
use Rattle.std.specs.declared.cmp.Ordering.{Ordering}
use Rattle.std.specs.declared.cmp.Ordering.TheVariants.{Less, Equal, Greater}
use Rattle.std.specs.Ordering.{is_eq, match_ordering}
use Rattle.std.specs.Cmp.Lexicographic.{nat_list_cmp_total}
use Rattle.std.specs.List.{AllByRecursion}
use Rattle.std.specs.List.Sorted.{IsStrictlySortedBy}
use Rattle.std.specs.BTreeMap.{is_at}
use Rattle.std.specs.Map.{keys_of, set_value}
use Rattle.std.proofs.lemmas.Map.Keys.{sorted_head, sorted_tail}
use Rattle.spec_book.specs.Dict as dicts

-- a key is below each of some keys
abbrev pub IsBelow : List ℕ → List (List ℕ) → Type 0
IsBelow k keys = AllByRecursion (λ y. dicts.bytes_cmp k y ≡ Less) keys

pub below_all : (k m : List ℕ) (keys : List (List ℕ)) → dicts.bytes_cmp k m ≡ Less → IsBelow m keys → IsBelow k keys
below_all k m [] h a = tt
below_all k m (y ∷ keys) h a = (nat_list_cmp_total.trans k m y h a.0, below_all k m keys h a.1)

module _ {X : Type 0} where
  pub none_below : (k : List ℕ) (es : List (List ℕ × X)) → IsBelow k (keys_of es) → dicts.found es k ≡ None
  none_below k [] a = refl
  none_below k (e ∷ es) a = rw (a.0, none_below k es a.1) refl

  pub none_below_head : (k : List ℕ) (e : List ℕ × X) (es : List (List ℕ × X)) → IsStrictlySortedBy dicts.bytes_cmp (keys_of (e ∷ es))
      → dicts.bytes_cmp k e.0 ≡ Less → dicts.found (e ∷ es) k ≡ None
  none_below_head k e es sorted h =
      none_below k (e ∷ es) (h, below_all k e.0 (keys_of es) h (sorted_head dicts.bytes_cmp e.0 (keys_of es) sorted))

  pub none_past_head : (e : List ℕ × X) (es : List (List ℕ × X)) → IsStrictlySortedBy dicts.bytes_cmp (keys_of (e ∷ es)) → dicts.found es e.0 ≡ None
  none_past_head e es sorted = none_below e.0 es (sorted_head dicts.bytes_cmp e.0 (keys_of es) sorted)

  pub set_value-with : (es : List (List ℕ × X)) (key : List ℕ) (was is : X) → IsStrictlySortedBy dicts.bytes_cmp (keys_of es) → dicts.found es key ≡ Some was
      → set_value (is_at (dicts.bytes_cmp key)) es is ≡ dicts.with_entry es key is
  set_value-with [] key was is sorted h = cc
  set_value-with (e ∷ es) key was is sorted h =
      by_order (dicts.bytes_cmp key e.0) refl (set_value-with es key was is (sorted_tail dicts.bytes_cmp e.0 (keys_of es) sorted))
    where
      by_order : (o : Ordering) → dicts.bytes_cmp key e.0 ≡ o
          → (dicts.found es key ≡ Some was → set_value (is_at (dicts.bytes_cmp key)) es is ≡ dicts.with_entry es key is)
          → cond (is_eq o) ((e.0, is) ∷ es) (e ∷ set_value (is_at (dicts.bytes_cmp key)) es is)
          ≡ match_ordering o ((key, is) ∷ e ∷ es) ((e.0, is) ∷ es) (e ∷ dicts.with_entry es key is)
      by_order Less at more = let none : dicts.found (e ∷ es) key ≡ None = none_below_head key e es sorted at in cc
      by_order Equal at more = refl
      by_order Greater at more =
          let there : dicts.found es key ≡ Some was = sym (ap (λ (o : Ordering). cond (is_eq o) (Some e.1) (dicts.found es key)) at) ∙ h in
          ap (λ (b : List (List ℕ × X)). e ∷ b) (more there)
