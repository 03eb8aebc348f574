-- A set of calls, item by item.
use Rattle.std.proofs.Common.{◌≡◌, ℕ, ◌+◌, ◌<◌, Bool, true, false, ◌||◌, cond, Option, Some, None, List, ◌∷◌, length, drop, slice_index_or, sym, ap, ◌∙◌, subst, arith}
use Rattle.std.proofs.lemmas.Bool.Decides.{nat_tests}
use Rattle.std.proofs.lemmas.List.{drop_more}
use Rattle.std.specs.List.{filter_map, list_any, cons_option}
use Rattle.std.specs.BTreeMap.{is_at}
use Rattle.spec_report.specs.Items as items
use Rattle.report_text.specs.CallTexts as call_texts

-- the order of calls answers `Equal` for the same call alone
pub is_at-call : (k a : ℕ × ℕ) → is_at (call_texts.call_cmp k) a ≡ items.is_call a k
is_at-call k a = grind (arith, nat_tests)

-- a call that is found in front of the rest
found : (t old rest total : Bool) → (old || (t || rest)) ≡ total → (cond t true old || rest) ≡ total
found true true rest total h = h
found true false rest total h = h
found false old rest total h = h

module _ {T : Type 0} (f : T → Option (ℕ × ℕ)) (a : ℕ × ℕ) (xs : List T) (i : ℕ) (x : T) (within : i < length xs) (old total : Bool) where
  -- what is left begins with x
  begins : (F : List T → Bool) → F (drop i xs) ≡ total → x ≡ slice_index_or xs i x → F (x ∷ drop (i + 1) xs) ≡ total
  begins F h e = ap (λ y. F (y ∷ drop (i + 1) xs)) e ∙ (sym (ap F (drop_more xs i x within)) ∙ h)

  -- an item with a call, which is put into the set
  pub kept-some :
      (call : ℕ × ℕ) → x ≡ slice_index_or xs i x → Some call ≡ f x
      → (old || list_any (items.is_call a) (filter_map f (drop i xs))) ≡ total
      → (cond (is_at (call_texts.call_cmp call) a) true old || list_any (items.is_call a) (filter_map f (drop (i + 1) xs))) ≡ total
  kept-some call e g h =
      let call_of : Option (ℕ × ℕ) → Bool = λ o. old || list_any (items.is_call a) (cons_option o (filter_map f (drop (i + 1) xs))) in
      subst (λ t. (cond t true old || list_any (items.is_call a) (filter_map f (drop (i + 1) xs))) ≡ total) (sym (is_at-call call a))
      (found (items.is_call a call) old _ total
      (ap call_of g ∙ begins (λ ys. old || list_any (items.is_call a) (filter_map f ys)) h e))

  -- an item with none
  pub kept-none :
      x ≡ slice_index_or xs i x → None ≡ f x
      → (old || list_any (items.is_call a) (filter_map f (drop i xs))) ≡ total
      → (old || list_any (items.is_call a) (filter_map f (drop (i + 1) xs))) ≡ total
  kept-none e g h =
      let call_of : Option (ℕ × ℕ) → Bool = λ o. old || list_any (items.is_call a) (cons_option o (filter_map f (drop (i + 1) xs))) in
      ap call_of g ∙ begins (λ ys. old || list_any (items.is_call a) (filter_map f ys)) h e
