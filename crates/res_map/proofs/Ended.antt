-- The keys whose lives have ended are those of the index whose times have passed.
use Rattle.std.proofs.Common.{◌≡◌, ℕ, ◌+◌, ◌≤◌, ◌∙◌, refl, sym, ap, arith, Bool, true, false, nat_le, ◌&&◌, ◌||◌, List, [], ◌∷◌, Option, Some, None, filter, is_some}
use Rattle.std.specs.declared.cmp.Ordering.TheVariants.{Less}
use Rattle.std.specs.Ordering.{nat_cmp}
use Rattle.std.specs.Prelude.{Result, Ok, Err, IfOk}
use Rattle.std.specs.Cmp.{nat_cmp_total}
use Rattle.std.specs.Cmp.Lexicographic.{nat_list_cmp_total}
use Rattle.std.specs.List.{list_any, AllByRecursion}
use Rattle.std.specs.List.Sorted.{IsStrictlySortedBy}
use Rattle.std.specs.Map.{keys_of}
use Rattle.std.specs.BTreeMap.{is_at}
use Rattle.std.proofs.lemmas.Grind.{common_steps}
use Rattle.std.proofs.lemmas.Cmp.{eq_by_cmp_equiv}
use Rattle.std.proofs.lemmas.Bool.{leb-true, le-leb}
use Rattle.std.proofs.lemmas.Map.Keys.{IsDistinct-from_sorted}
use Rattle.std.proofs.lemmas.Map.Entries.{option_filter, lookup-filter-values}
use Rattle.std.proofs.lemmas.Map.Made.{is_some-lookup}
use Rattle.std.proofs.lemmas.Map.Lookups.{exact_bytes, exact_unsigned, btree_set_from_contains}
use Rattle.std.proofs.lemmas.Map.Views.{tells_apart}
use Rattle.spec_book.specs.Dict as dicts
use Rattle.spec_book.specs.Resources as resources
use Rattle.spec_book.specs.MapTurn as map_turns
use Rattle.res_deadlines.specs.Deadlines as deadlines
use Rattle.res_deadlines.proofs.Index.{is_eq-ordering_then}
use Rattle.res_map.specs.Lives as map_lives
use Rattle.res_map.proofs.Keys.{keys_equiv}

-- ---- keys in order, after a filter
pub AllByRecursion-keys : {X : Type 0} (P : List ℕ → Type 0) (p : List ℕ × X → Bool) (es : List (List ℕ × X)) → AllByRecursion P (keys_of es) → AllByRecursion P (keys_of (filter p es))
AllByRecursion-keys P p [] a = a
AllByRecursion-keys P p (e ∷ es) a = by_test (p e) refl (AllByRecursion-keys P p es a.1)
  where
    by_test : (b : Bool) → p e ≡ b → AllByRecursion P (keys_of (filter p es)) → AllByRecursion P (keys_of (filter p (e ∷ es)))
    by_test true h rest = rw h (a.0, rest)
    by_test false h rest = rw h rest

pub sorted_keys-filter : {X : Type 0} (p : List ℕ × X → Bool) (es : List (List ℕ × X)) → IsStrictlySortedBy dicts.bytes_cmp (keys_of es) → IsStrictlySortedBy dicts.bytes_cmp (keys_of (filter p es))
unfolding IsStrictlySortedBy
sorted_keys-filter p [] s = s
sorted_keys-filter p (e ∷ es) s = by_test (p e) refl (sorted_keys-filter p es s.1)
  where
    by_test : (b : Bool) → p e ≡ b → IsStrictlySortedBy dicts.bytes_cmp (keys_of (filter p es)) → IsStrictlySortedBy dicts.bytes_cmp (keys_of (filter p (e ∷ es)))
    by_test true h rest = rw h (AllByRecursion-keys (λ y. dicts.bytes_cmp e.0 y ≡ Less) p es s.0, rest)
    by_test false h rest = rw h rest

-- ---- what has passed, and what the index has
pub deadline_at_itself : (end : ℕ) (key : List ℕ) (d : ℕ × List ℕ) → d.0 ≡ end → is_at (dicts.bytes_cmp key) d.1 ≡ true → is_at (deadlines.deadline_cmp dicts.bytes_cmp (end, key)) d ≡ true
deadline_at_itself end key d e h = is_eq-ordering_then (nat_cmp end d.0) (dicts.bytes_cmp key d.1) ∙ rw (e, (eq_by_cmp_equiv nat_cmp_total).refl end, h) refl

or_true : (b : Bool) → (b || true) ≡ true
or_true true = refl
or_true false = refl

pub parts_true : (a b : Bool) → (a && b) ≡ true → (a ≡ true) × (b ≡ true)
parts_true true true h = (refl, refl)
parts_true true false h = cc
parts_true false b h = cc

pub passed_in_index : (time : ℕ) (ds : List (ℕ × List ℕ)) (key : List ℕ) → deadlines.has_passed dicts.bytes_cmp time ds key ≡ true → (end : ℕ) × (end ≤ time) × (deadlines.has_deadline dicts.bytes_cmp ds end key ≡ true)
passed_in_index time [] key h = cc
passed_in_index time (d ∷ ds) key h = by_test (nat_le d.0 time && is_at (dicts.bytes_cmp key) d.1) refl (passed_in_index time ds key)
  where
    by_test : (b : Bool) → (nat_le d.0 time && is_at (dicts.bytes_cmp key) d.1) ≡ b
        → (deadlines.has_passed dicts.bytes_cmp time ds key ≡ true → (end : ℕ) × (end ≤ time) × (deadlines.has_deadline dicts.bytes_cmp ds end key ≡ true))
        → (end : ℕ) × (end ≤ time) × (deadlines.has_deadline dicts.bytes_cmp (d ∷ ds) end key ≡ true)
    by_test true e more =
        let p = parts_true (nat_le d.0 time) (is_at (dicts.bytes_cmp key) d.1) e in
        (d.0, leb-true d.0 time p.0, ap (λ (b : Bool). b || deadlines.has_deadline dicts.bytes_cmp ds d.0 key) (deadline_at_itself d.0 key d refl p.1))
    by_test false e more =
        let r = more (sym (ap (λ (b : Bool). b || deadlines.has_passed dicts.bytes_cmp time ds key) e) ∙ h) in
        (r.0, r.1, ap (λ (b : Bool). is_at (deadlines.deadline_cmp dicts.bytes_cmp (r.0, key)) d || b) r.2 ∙ or_true (is_at (deadlines.deadline_cmp dicts.bytes_cmp (r.0, key)) d))

pub index_in_passed : (time end : ℕ) (ds : List (ℕ × List ℕ)) (key : List ℕ) → end ≤ time → deadlines.has_deadline dicts.bytes_cmp ds end key ≡ true → deadlines.has_passed dicts.bytes_cmp time ds key ≡ true
index_in_passed time end [] key le h = cc
index_in_passed time end (d ∷ ds) key le h = by_test (is_at (deadlines.deadline_cmp dicts.bytes_cmp (end, key)) d) refl (index_in_passed time end ds key le)
  where
    by_test : (b : Bool) → is_at (deadlines.deadline_cmp dicts.bytes_cmp (end, key)) d ≡ b → (deadlines.has_deadline dicts.bytes_cmp ds end key ≡ true → deadlines.has_passed dicts.bytes_cmp time ds key ≡ true) → deadlines.has_passed dicts.bytes_cmp time (d ∷ ds) key ≡ true
    by_test true e more =
        let p = parts_true (is_at (nat_cmp end) d.0) (is_at (dicts.bytes_cmp key) d.1) (sym (is_eq-ordering_then (nat_cmp end d.0) (dicts.bytes_cmp key d.1)) ∙ e) in
        let same : end ≡ d.0 = tells_apart exact_unsigned end d.0 p.0 in
        let t : nat_le d.0 time ≡ true = grind (arith, common_steps) in
        rw (t, p.1) refl
    by_test false e more =
        ap (λ (b : Bool). (nat_le d.0 time && is_at (dicts.bytes_cmp key) d.1) || b)
        (more (sym (ap (λ (b : Bool). b || deadlines.has_deadline dicts.bytes_cmp ds end key) e) ∙ h))
        ∙ or_true (nat_le d.0 time && is_at (dicts.bytes_cmp key) d.1)

pub has_passed-found : (time : ℕ) (es : List (List ℕ × resources.MapItem)) (ds : List (ℕ × List ℕ)) → map_lives.IsDeadlineIndex es ds
    → (key : List ℕ) → deadlines.has_passed dicts.bytes_cmp time ds key ≡ is_some (option_filter (λ (item : resources.MapItem). map_turns.life_ended time item.life) (dicts.found es key))
has_passed-found time es ds in_step key = by_item (dicts.found es key) refl
  where
    -- a time of the index at the key is the end of its entry
    end_is : (o : Option resources.MapItem) → dicts.found es key ≡ o → (end : ℕ) → deadlines.has_deadline dicts.bytes_cmp ds end key ≡ true → deadlines.is_end (map_lives.item_end o) end ≡ true
    end_is o e end h = sym (in_step end key ∙ ap (λ (v : Option resources.MapItem). deadlines.is_end (map_lives.item_end v) end) e) ∙ h

    none : (b : Bool) → deadlines.has_passed dicts.bytes_cmp time ds key ≡ b → ((end : ℕ) → end ≤ time → deadlines.has_deadline dicts.bytes_cmp ds end key ≡ true → ⊥) → b ≡ false
    none false e never = refl
    none true e never = let r = passed_in_index time ds key e in absurd (never r.0 r.1 r.2)

    by_time : (text : List ℕ) (life : resources.Span) (b : Bool) → nat_le (life.set_at + life.length) time ≡ b
        → (life.set_at + life.length ≤ time → deadlines.has_passed dicts.bytes_cmp time ds key ≡ true)
        → ((end : ℕ) → deadlines.has_deadline dicts.bytes_cmp ds end key ≡ true → life.set_at + life.length ≡ end)
        → deadlines.has_passed dicts.bytes_cmp time ds key ≡ is_some (option_filter (λ (item : resources.MapItem). map_turns.life_ended time item.life) (Some (record { text = text; life = Some life })))
    by_time text life true t has is = rw t (has (leb-true (life.set_at + life.length) time t))
    by_time text life false t has is =
        rw t (none (deadlines.has_passed dicts.bytes_cmp time ds key) refl
        (λ end le h. let same : life.set_at + life.length ≡ end = is end h in
        let u : nat_le (life.set_at + life.length) time ≡ true = le-leb (life.set_at + life.length) time (rw same le) in
        cc))

    by_life : (text : List ℕ) (life : Option resources.Span) → dicts.found es key ≡ Some (record { text = text; life = life })
        → deadlines.has_passed dicts.bytes_cmp time ds key ≡ is_some (option_filter (λ (item : resources.MapItem). map_turns.life_ended time item.life) (Some (record { text = text; life = life })))
    by_life text None e = none (deadlines.has_passed dicts.bytes_cmp time ds key) refl (λ end le h. let t : false ≡ true = end_is _ e end h in cc)
    by_life text (Some life) e =
        by_time text life (nat_le (life.set_at + life.length) time) refl
        (λ le. index_in_passed time (life.set_at + life.length) ds key le
        (in_step (life.set_at + life.length) key
        ∙ rw e ((eq_by_cmp_equiv nat_cmp_total).refl (life.set_at + life.length))))
        (λ end h. tells_apart exact_unsigned (life.set_at + life.length) end (end_is (Some (record { text = text; life = Some life })) e end h))

    by_item : (o : Option resources.MapItem) → dicts.found es key ≡ o → deadlines.has_passed dicts.bytes_cmp time ds key ≡ is_some (option_filter (λ (item : resources.MapItem). map_turns.life_ended time item.life) o)
    by_item None e = none (deadlines.has_passed dicts.bytes_cmp time ds key) refl (λ end le h. let t : false ≡ true = end_is None e end h in cc)
    by_item (Some item) e = by_life item.text item.life e

pub any-ended_keys : (time : ℕ) (es : List (List ℕ × resources.MapItem)) (key : List ℕ) → IsStrictlySortedBy dicts.bytes_cmp (keys_of es)
    → list_any (is_at (dicts.bytes_cmp key)) (map_lives.ended_keys time es) ≡ is_some (option_filter (λ (item : resources.MapItem). map_turns.life_ended time item.life) (dicts.found es key))
any-ended_keys time es key sorted =
    sym (is_some-lookup (is_at (dicts.bytes_cmp key)) (filter (λ (e : List ℕ × resources.MapItem). map_turns.life_ended time e.1.life) es))
    ∙ ap is_some (lookup-filter-values keys_equiv (λ (item : resources.MapItem). map_turns.life_ended time item.life) key es (IsDistinct-from_sorted dicts.bytes_cmp (keys_of es) sorted))

-- keys in order that the index says have passed are the keys of the entries whose lives have ended
pub keys_are_ended : (time : ℕ) (es : List (List ℕ × resources.MapItem)) (ds : List (ℕ × List ℕ)) (keys : List (List ℕ)) → IsStrictlySortedBy dicts.bytes_cmp (keys_of es) → map_lives.IsDeadlineIndex es ds
    → IsStrictlySortedBy dicts.bytes_cmp keys
    → ((key : List ℕ) → list_any (is_at (dicts.bytes_cmp key)) keys ≡ deadlines.has_passed dicts.bytes_cmp time ds key)
    → keys ≡ map_lives.ended_keys time es
keys_are_ended time es ds keys sorted in_step in_order has =
    btree_set_from_contains nat_list_cmp_total (record { keys = keys }) (record { keys = map_lives.ended_keys time es }) in_order
    (sorted_keys-filter (λ (e : List ℕ × resources.MapItem). map_turns.life_ended time e.1.life) es sorted)
    (λ key. has key ∙ (has_passed-found time es ds in_step key ∙ sym (any-ended_keys time es key sorted))) exact_bytes

-- two facts of what a call gives make a third
pub IfOk-both : {T E : Type 0} (r : Result T E) (P Q R : T → Type 0) → ((x : T) → P x → Q x → R x) → IfOk r P → IfOk r Q → IfOk r R
IfOk-both (Ok x) P Q R f p q = f x p q
IfOk-both (Err d) P Q R f p q = tt
