-- The first time of the index is the first at which the life of an entry ends.
use Rattle.std.proofs.Common.{◌≡◌, ℕ, ◌≤◌, ◌∙◌, min, refl, sym, ap, arith, Bool, true, false, cond, ◌||◌, List, [], ◌∷◌, Option, Some, None}
use Rattle.std.specs.Prelude.{IfSome}
use Rattle.std.specs.Ordering.{nat_cmp}
use Rattle.std.specs.Cmp.{nat_cmp_total}
use Rattle.std.specs.List.{AllByRecursion, All}
use Rattle.std.specs.List.Sorted.{IsStrictlySortedBy}
use Rattle.std.specs.Map.{keys_of, values_of}
use Rattle.std.specs.BTreeMap.{is_at}
use Rattle.std.proofs.lemmas.Cmp.{eq_by_cmp_equiv}
use Rattle.std.proofs.lemmas.List.Elements.{recursion_from_All}
use Rattle.std.proofs.lemmas.Map.Keys.{IsDistinct-from_sorted}
use Rattle.std.proofs.lemmas.Map.Lookups.{exact_unsigned}
use Rattle.std.proofs.lemmas.Map.Views.{tells_apart, All-values_from_lookup}
use Rattle.spec_book.specs.Dict as dicts
use Rattle.spec_book.specs.Resources as resources
use Rattle.res_deadlines.specs.Deadlines as deadlines
use Rattle.res_deadlines.proofs.Index.{is_eq-ordering_then}
use Rattle.res_map.specs.Lives as lives
use Rattle.res_map.proofs.Keys.{keys_equiv, key_at_itself}
use Rattle.res_map.proofs.Ended.{parts_true, deadline_at_itself}

-- an end of the item is not before the time
abbrev pub EndsFrom : ℕ → resources.MapItem → Type 0
EndsFrom time item = (end : ℕ) → lives.life_end item.life ≡ Some end → time ≤ end

-- ---- the first end of entries
no_end : (es : List (List ℕ × resources.MapItem)) → AllByRecursion (λ (item : resources.MapItem). lives.life_end item.life ≡ None) (values_of es) → lives.first_end es ≡ None
no_end [] a = refl
no_end (e ∷ es) a = rw (a.0, no_end es a.1) refl

earlier_from : (time : ℕ) (a b : Option ℕ) → ((end : ℕ) → a ≡ Some end → time ≤ end) → ((end : ℕ) → b ≡ Some end → time ≤ end) → (end : ℕ) → lives.earlier a b ≡ Some end → time ≤ end
earlier_from time None b f g end e = g end e
earlier_from time (Some a) None f g end e = f end e
earlier_from time (Some a) (Some b) f g end e =
    let l : time ≤ a = f a refl in
    let m : time ≤ b = g b refl in
    let n : min a b ≡ end = cc in
    omega arith

first_end_from : (time : ℕ) (es : List (List ℕ × resources.MapItem)) → AllByRecursion (EndsFrom time) (values_of es) → (end : ℕ) → lives.first_end es ≡ Some end → time ≤ end
first_end_from time [] a end e = cc
first_end_from time (e ∷ es) a end h = earlier_from time (lives.life_end e.1.life) (lives.first_end es) a.0 (first_end_from time es a.1) end h

earlier_left : (time : ℕ) (b : Option ℕ) → ((end : ℕ) → b ≡ Some end → time ≤ end) → lives.earlier (Some time) b ≡ Some time
earlier_left time None g = refl
earlier_left time (Some b) g = let m : time ≤ b = g b refl in let n : min time b ≡ time = omega arith in ap Some n

earlier_right : (time : ℕ) (a : Option ℕ) → ((end : ℕ) → a ≡ Some end → time ≤ end) → lives.earlier a (Some time) ≡ Some time
earlier_right time None f = refl
earlier_right time (Some a) f = let m : time ≤ a = f a refl in let n : min a time ≡ time = omega arith in ap Some n

-- an end that an entry has, and that no end is before, is the first
least_end : (time : ℕ) (key : List ℕ) (es : List (List ℕ × resources.MapItem)) (item : resources.MapItem) → AllByRecursion (EndsFrom time) (values_of es)
    → dicts.found es key ≡ Some item → lives.life_end item.life ≡ Some time → lives.first_end es ≡ Some time
least_end time key [] item a f e = cc
least_end time key (x ∷ es) item a f e = by_key (is_at (dicts.bytes_cmp key) x.0) refl (λ g. least_end time key es item a.1 g e)
  where
    by_key : (b : Bool) → is_at (dicts.bytes_cmp key) x.0 ≡ b → (dicts.found es key ≡ Some item → lives.first_end es ≡ Some time) → lives.first_end (x ∷ es) ≡ Some time
    by_key true h more =
        let t : Some x.1 ≡ Some item = sym (ap (λ (b : Bool). cond b (Some x.1) (dicts.found es key)) h) ∙ f in
        let same : x.1 ≡ item = cc in
        ap (λ (v : Option ℕ). lives.earlier v (lives.first_end es)) (ap (λ (v : resources.MapItem). lives.life_end v.life) same ∙ e) ∙ earlier_left time (lives.first_end es) (first_end_from time es a.1)
    by_key false h more =
        let g : dicts.found es key ≡ Some item = sym (ap (λ (b : Bool). cond b (Some x.1) (dicts.found es key)) h) ∙ f in
        ap (λ (v : Option ℕ). lives.earlier (lives.life_end x.1.life) v) (more g) ∙ earlier_right time (lives.life_end x.1.life) a.0

-- ---- entries and their index
-- the end of an entry stands in the index
end_in_index : (es : List (List ℕ × resources.MapItem)) (ds : List (ℕ × List ℕ)) → lives.IsDeadlineIndex es ds
    → (key : List ℕ) (item : resources.MapItem) (end : ℕ) → dicts.found es key ≡ Some item → lives.life_end item.life ≡ Some end → deadlines.has_deadline dicts.bytes_cmp ds end key ≡ true
end_in_index es ds in_step key item end f e =
    in_step end key ∙ (ap (λ (v : Option resources.MapItem). deadlines.is_end (lives.item_end v) end) f ∙ (ap (λ (v : Option ℕ). deadlines.is_end v end) e ∙ (eq_by_cmp_equiv nat_cmp_total).refl end))

-- a time of the index is not before one that none of it is before
index_from : (time : ℕ) (ds : List (ℕ × List ℕ)) → AllByRecursion (λ d. time ≤ d.0) ds → (end : ℕ) (key : List ℕ) → deadlines.has_deadline dicts.bytes_cmp ds end key ≡ true → time ≤ end
index_from time [] a end key h = cc
index_from time (d ∷ ds) a end key h = by_test (is_at (deadlines.deadline_cmp dicts.bytes_cmp (end, key)) d) refl (index_from time ds a.1 end key)
  where
    by_test : (b : Bool) → is_at (deadlines.deadline_cmp dicts.bytes_cmp (end, key)) d ≡ b → (deadlines.has_deadline dicts.bytes_cmp ds end key ≡ true → time ≤ end) → time ≤ end
    by_test true e more =
        let p = parts_true (is_at (nat_cmp end) d.0) (is_at (dicts.bytes_cmp key) d.1) (sym (is_eq-ordering_then (nat_cmp end d.0) (dicts.bytes_cmp key d.1)) ∙ e) in
        let same : end ≡ d.0 = tells_apart exact_unsigned end d.0 p.0 in
        let l : time ≤ d.0 = a.0 in
        omega arith
    by_test false e more = more (sym (ap (λ (b : Bool). b || deadlines.has_deadline dicts.bytes_cmp ds end key) e) ∙ h)

-- what holds of each item that is found holds of all items
all_items : (P : resources.MapItem → Type 0) (es : List (List ℕ × resources.MapItem)) → IsStrictlySortedBy dicts.bytes_cmp (keys_of es)
    → ((key : List ℕ) (item : resources.MapItem) → dicts.found es key ≡ Some item → P item) → AllByRecursion P (values_of es)
all_items P es sorted f =
    recursion_from_All P (values_of es)
    (All-values_from_lookup keys_equiv P es (IsDistinct-from_sorted dicts.bytes_cmp (keys_of es) sorted) (λ key. by_item key (dicts.found es key) refl))
  where
    by_item : (key : List ℕ) (o : Option resources.MapItem) → dicts.found es key ≡ o → IfSome o P
    by_item key None e = tt
    by_item key (Some item) e = f key item e

-- an end that is at the time
end_at : (end : Option ℕ) (time : ℕ) → deadlines.is_end end time ≡ true → end ≡ Some time
end_at None time h = cc
end_at (Some end) time h = ap Some (tells_apart exact_unsigned end time h)

-- an entry is there, and its life ends at the time
entry_at : (es : List (List ℕ × resources.MapItem)) (key : List ℕ) (time : ℕ) → deadlines.is_end (lives.item_end (dicts.found es key)) time ≡ true
    → (item : resources.MapItem) × (dicts.found es key ≡ Some item) × (lives.life_end item.life ≡ Some time)
entry_at es key time h = by_item (dicts.found es key) refl h
  where
    by_item : (o : Option resources.MapItem) → dicts.found es key ≡ o → deadlines.is_end (lives.item_end o) time ≡ true → (item : resources.MapItem) × (dicts.found es key ≡ Some item) × (lives.life_end item.life ≡ Some time)
    by_item None e h = cc
    by_item (Some item) e h = (item, e, end_at (lives.life_end item.life) time h)

pub first_end-index : (es : List (List ℕ × resources.MapItem)) (ds : List (ℕ × List ℕ)) → IsStrictlySortedBy dicts.bytes_cmp (keys_of es) → lives.IsDeadlineIndex es ds
    → IfSome (deadlines.first_time ds) (λ time. All (λ d. time ≤ d.0) ds) → deadlines.first_time ds ≡ lives.first_end es
first_end-index es [] sorted in_step least =
    sym (no_end es (all_items (λ (item : resources.MapItem). lives.life_end item.life ≡ None) es sorted (λ key item f. none (lives.life_end item.life) (λ end e. end_in_index es [] in_step key item end f e))))
  where
    none : (end : Option ℕ) → ((time : ℕ) → end ≡ Some time → false ≡ true) → end ≡ None
    none None f = refl
    none (Some time) f = let t : false ≡ true = f time refl in cc
first_end-index es (d ∷ ds) sorted in_step least =
    let from : AllByRecursion (λ x. d.0 ≤ x.0) (d ∷ ds) = recursion_from_All (λ (x : ℕ × List ℕ). d.0 ≤ x.0) (d ∷ ds) least in
    let here : deadlines.has_deadline dicts.bytes_cmp (d ∷ ds) d.0 d.1 ≡ true = ap (λ (b : Bool). b || deadlines.has_deadline dicts.bytes_cmp ds d.0 d.1) (deadline_at_itself d.0 d.1 d refl (key_at_itself d.1)) in
    let e = entry_at es d.1 d.0 (sym (in_step d.0 d.1) ∙ here) in
    sym (least_end d.0 d.1 es e.0
    (all_items (EndsFrom d.0) es sorted (λ key item f end g. index_from d.0 (d ∷ ds) from end key (end_in_index es (d ∷ ds) in_step key item end f g)))
    e.1 e.2)
