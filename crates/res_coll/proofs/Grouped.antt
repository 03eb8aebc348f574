-- What a change of one key's texts makes of the pairs of all keys.
use Rattle.std.proofs.Common.{◌≡◌, ℕ, suc, ◌+◌, ◌≤◌, ◌∙◌, refl, sym, ap, subst, arith, Bool, true, false, cond, not, ◌||◌, List, [], ◌∷◌, ◌++◌, length, filter, Option, Some, None}
use Rattle.std.specs.Prelude.{Result, Ok, Err, OnErr}
use Rattle.std.specs.declared.cmp.Ordering.{Ordering}
use Rattle.std.specs.declared.cmp.Ordering.TheVariants.{Less, Equal, Greater}
use Rattle.std.specs.Ordering.{is_eq, ordering_then, match_ordering}
use Rattle.std.specs.Cmp.Lexicographic.{nat_list_cmp_total}
use Rattle.std.specs.List.{list_any, AllByRecursion}
use Rattle.std.specs.List.Sorted.{IsStrictlySortedBy}
use Rattle.std.specs.Map.{keys_of, lookup, remove_entry, set_value}
use Rattle.std.specs.Set.{remove_key}
use Rattle.std.specs.BTreeMap.{is_at, insert_entry}
use Rattle.std.specs.BTreeSet.{BTreeSet, insert_key}
use Rattle.std.proofs.lemmas.Cmp.{eq_by_cmp_equiv}
use Rattle.std.proofs.lemmas.List.Folds.{list_any-append}
use Rattle.std.proofs.lemmas.List.Filters.{length-filter_both}
use Rattle.std.proofs.lemmas.List.Elements.{filter-append}
use Rattle.std.proofs.lemmas.List.{append-nil}
use Rattle.std.proofs.lemmas.Map.Keys.{sorted_head, sorted_tail}
use Rattle.std.proofs.lemmas.Map.Lookups.{exact_bytes}
use Rattle.spec_book.specs.Dict as dicts
use Rattle.spec_book.specs.Collections as collections
use Rattle.res_coll.specs.Pairs as coll_pairs

-- the key is below that of each pair
abbrev pub IsBelow : List ℕ → List (List ℕ × List ℕ) → Type 0
IsBelow k ps = AllByRecursion (λ p. dicts.bytes_cmp k p.0 ≡ Less) ps

-- the texts of a key, as a look-up finds them
abbrev pub texts_of : Option (BTreeSet (List ℕ)) → List (List ℕ)
texts_of None = []
texts_of (Some s) = s.keys

or_false : (b : Bool) → (b || false) ≡ b
or_false true = refl
or_false false = refl

AllByRecursion-append : {X : Type 0} (P : X → Type 0) (xs ys : List X) → AllByRecursion P xs → AllByRecursion P ys → AllByRecursion P (xs ++ ys)
AllByRecursion-append P [] ys a b = b
AllByRecursion-append P (x ∷ xs) ys a b = (a.0, AllByRecursion-append P xs ys a.1 b)

-- ---- keys in order
IsBelow-pairs_at : (k key : List ℕ) (ts : List (List ℕ)) → dicts.bytes_cmp k key ≡ Less → IsBelow k (coll_pairs.pairs_at key ts)
IsBelow-pairs_at k key [] h = tt
IsBelow-pairs_at k key (t ∷ ts) h = (h, IsBelow-pairs_at k key ts h)

IsBelow-pairs_in : (k : List ℕ) (es : List (List ℕ × BTreeSet (List ℕ))) → AllByRecursion (λ y. dicts.bytes_cmp k y ≡ Less) (keys_of es) → IsBelow k (coll_pairs.pairs_in es)
IsBelow-pairs_in k [] a = tt
IsBelow-pairs_in k (e ∷ es) a =
    AllByRecursion-append (λ (p : List ℕ × List ℕ). dicts.bytes_cmp k p.0 ≡ Less) (coll_pairs.pairs_at e.0 e.1.keys) (coll_pairs.pairs_in es)
    (IsBelow-pairs_at k e.0 e.1.keys a.0) (IsBelow-pairs_in k es a.1)

below_all : (k key : List ℕ) (keys : List (List ℕ)) → dicts.bytes_cmp k key ≡ Less → AllByRecursion (λ y. dicts.bytes_cmp key y ≡ Less) keys → AllByRecursion (λ y. dicts.bytes_cmp k y ≡ Less) keys
below_all k key [] h a = tt
below_all k key (y ∷ keys) h a = (nat_list_cmp_total.trans k key y h a.0, below_all k key keys h a.1)

-- the first key is below the pairs of the later ones, and so is a key that is equal to it
head_below : (e : List ℕ × BTreeSet (List ℕ)) (es : List (List ℕ × BTreeSet (List ℕ))) → IsStrictlySortedBy dicts.bytes_cmp (keys_of (e ∷ es)) → IsBelow e.0 (coll_pairs.pairs_in es)
head_below e es sorted = IsBelow-pairs_in e.0 es (sorted_head dicts.bytes_cmp e.0 (keys_of es) sorted)

equal_from_is_eq : (o : Ordering) → is_eq o ≡ true → o ≡ Equal
equal_from_is_eq Less h = cc
equal_from_is_eq Equal h = refl
equal_from_is_eq Greater h = cc

key_itself : (k : List ℕ) → dicts.bytes_cmp k k ≡ Equal
key_itself k = equal_from_is_eq (dicts.bytes_cmp k k) ((eq_by_cmp_equiv nat_list_cmp_total).refl k)

-- ---- whether a pair is in
has_pair-here : (k v : List ℕ) (ts : List (List ℕ)) → collections.has_pair (coll_pairs.pairs_at k ts) (k, v) ≡ dicts.has_text ts v
has_pair-here k v [] = refl
has_pair-here k v (t ∷ ts) = rw (key_itself k, has_pair-here k v ts) refl

is_eq-ordering_then : (a b : Ordering) → is_eq a ≡ false → is_eq (ordering_then a b) ≡ false
is_eq-ordering_then Less b h = refl
is_eq-ordering_then Equal b h = cc
is_eq-ordering_then Greater b h = refl

has_pair-elsewhere : (k v key : List ℕ) (ts : List (List ℕ)) → is_eq (dicts.bytes_cmp k key) ≡ false → collections.has_pair (coll_pairs.pairs_at key ts) (k, v) ≡ false
has_pair-elsewhere k v key [] h = refl
has_pair-elsewhere k v key (t ∷ ts) h = rw (is_eq-ordering_then (dicts.bytes_cmp k key) (dicts.bytes_cmp v t) h, has_pair-elsewhere k v key ts h) refl

has_pair-below : (k v : List ℕ) (ps : List (List ℕ × List ℕ)) → IsBelow k ps → collections.has_pair ps (k, v) ≡ false
has_pair-below k v [] a = refl
has_pair-below k v (p ∷ ps) a = rw (a.0, has_pair-below k v ps a.1) refl

pub has_pair-pairs_in : (k v : List ℕ) (es : List (List ℕ × BTreeSet (List ℕ))) → IsStrictlySortedBy dicts.bytes_cmp (keys_of es)
    → collections.has_pair (coll_pairs.pairs_in es) (k, v) ≡ dicts.has_text (texts_of (lookup (is_at (dicts.bytes_cmp k)) es)) v
has_pair-pairs_in k v [] sorted = refl
has_pair-pairs_in k v (e ∷ es) sorted =
    list_any-append (is_at (collections.pair_cmp (k, v))) (coll_pairs.pairs_at e.0 e.1.keys) (coll_pairs.pairs_in es)
    ∙ by_order (dicts.bytes_cmp k e.0) refl (has_pair-pairs_in k v es (sorted_tail dicts.bytes_cmp e.0 (keys_of es) sorted))
  where
    by_order : (o : Ordering) → dicts.bytes_cmp k e.0 ≡ o
        → collections.has_pair (coll_pairs.pairs_in es) (k, v) ≡ dicts.has_text (texts_of (lookup (is_at (dicts.bytes_cmp k)) es)) v
        → (collections.has_pair (coll_pairs.pairs_at e.0 e.1.keys) (k, v) || collections.has_pair (coll_pairs.pairs_in es) (k, v)) ≡ dicts.has_text (texts_of (lookup (is_at (dicts.bytes_cmp k)) (e ∷ es))) v
    by_order Less h more = rw (has_pair-elsewhere k v e.0 e.1.keys (ap is_eq h), h) more
    by_order Greater h more = rw (has_pair-elsewhere k v e.0 e.1.keys (ap is_eq h), h) more
    by_order Equal h more =
        let same : k ≡ e.0 = exact_bytes k e.0 h in
        let P : List ℕ → Type 0 = λ key. collections.has_pair (coll_pairs.pairs_at key e.1.keys) (k, v) ≡ dicts.has_text e.1.keys v in
        let Q : List ℕ → Type 0 = λ key. IsBelow key (coll_pairs.pairs_in es) in
        let here : collections.has_pair (coll_pairs.pairs_at e.0 e.1.keys) (k, v) ≡ dicts.has_text e.1.keys v = subst P same (has_pair-here k v e.1.keys) in
        let none : collections.has_pair (coll_pairs.pairs_in es) (k, v) ≡ false = has_pair-below k v (coll_pairs.pairs_in es) (subst Q (sym same) (head_below e es sorted)) in
        rw (here, none, h) (or_false (dicts.has_text e.1.keys v))

-- ---- one pair more
insert-below : (k v : List ℕ) (ps : List (List ℕ × List ℕ)) → IsBelow k ps → insert_key collections.pair_cmp ps (k, v) ≡ (k, v) ∷ ps
insert-below k v [] a = refl
insert-below k v (p ∷ ps) a = rw a.0 refl

insert-past : (k v key : List ℕ) (ts : List (List ℕ)) (ps : List (List ℕ × List ℕ)) → dicts.bytes_cmp k key ≡ Greater
    → insert_key collections.pair_cmp (coll_pairs.pairs_at key ts ++ ps) (k, v) ≡ coll_pairs.pairs_at key ts ++ insert_key collections.pair_cmp ps (k, v)
insert-past k v key [] ps h = refl
insert-past k v key (t ∷ ts) ps h = rw (h, insert-past k v key ts ps h) refl

insert-here : (k v : List ℕ) (ts : List (List ℕ)) (ps : List (List ℕ × List ℕ)) → IsBelow k ps
    → insert_key collections.pair_cmp (coll_pairs.pairs_at k ts ++ ps) (k, v) ≡ coll_pairs.pairs_at k (dicts.with_text ts v) ++ ps
insert-here k v [] ps a = insert-below k v ps a
insert-here k v (t ∷ ts) ps a = rw (key_itself k) (by_order (dicts.bytes_cmp v t) refl (insert-here k v ts ps a))
  where
    by_order : (o : Ordering) → dicts.bytes_cmp v t ≡ o
        → insert_key collections.pair_cmp (coll_pairs.pairs_at k ts ++ ps) (k, v) ≡ coll_pairs.pairs_at k (dicts.with_text ts v) ++ ps
        → match_ordering (dicts.bytes_cmp v t) ((k, v) ∷ (k, t) ∷ (coll_pairs.pairs_at k ts ++ ps)) ((k, t) ∷ (coll_pairs.pairs_at k ts ++ ps)) ((k, t) ∷ insert_key collections.pair_cmp (coll_pairs.pairs_at k ts ++ ps) (k, v))
        ≡ coll_pairs.pairs_at k (dicts.with_text (t ∷ ts) v) ++ ps
    by_order Less h more = rw h refl
    by_order Equal h more = rw h refl
    by_order Greater h more = rw (h, more) refl

-- a key that had no text
pub insert-absent : (k v : List ℕ) (w : BTreeSet (List ℕ)) (es : List (List ℕ × BTreeSet (List ℕ))) → IsStrictlySortedBy dicts.bytes_cmp (keys_of es)
    → lookup (is_at (dicts.bytes_cmp k)) es ≡ None → w.keys ≡ v ∷ []
    → insert_key collections.pair_cmp (coll_pairs.pairs_in es) (k, v) ≡ coll_pairs.pairs_in (insert_entry dicts.bytes_cmp es k w)
insert-absent k v w [] sorted absent is = rw is refl
insert-absent k v w (e ∷ es) sorted absent is =
    by_order (dicts.bytes_cmp k e.0) refl (λ none. insert-absent k v w es (sorted_tail dicts.bytes_cmp e.0 (keys_of es) sorted) none is)
  where
    by_order : (o : Ordering) → dicts.bytes_cmp k e.0 ≡ o
        → (lookup (is_at (dicts.bytes_cmp k)) es ≡ None → insert_key collections.pair_cmp (coll_pairs.pairs_in es) (k, v) ≡ coll_pairs.pairs_in (insert_entry dicts.bytes_cmp es k w))
        → insert_key collections.pair_cmp (coll_pairs.pairs_in (e ∷ es)) (k, v) ≡ coll_pairs.pairs_in (insert_entry dicts.bytes_cmp (e ∷ es) k w)
    by_order Less h more =
        rw (
          insert-below k v (coll_pairs.pairs_in (e ∷ es))
              (IsBelow-pairs_in k (e ∷ es) (h, below_all k e.0 (keys_of es) h (sorted_head dicts.bytes_cmp e.0 (keys_of es) sorted))),
          h,
          is,
        ) refl
    by_order Equal h more =
        let t : Some e.1 ≡ None = sym (ap (λ (o : Ordering). cond (is_eq o) (Some e.1) (lookup (is_at (dicts.bytes_cmp k)) es)) h) ∙ absent in
        cc
    by_order Greater h more =
        let none : lookup (is_at (dicts.bytes_cmp k)) es ≡ None = sym (ap (λ (o : Ordering). cond (is_eq o) (Some e.1) (lookup (is_at (dicts.bytes_cmp k)) es)) h) ∙ absent in
        rw (h, insert-past k v e.0 e.1.keys (coll_pairs.pairs_in es) h) (ap (λ (ps : List (List ℕ × List ℕ)). coll_pairs.pairs_at e.0 e.1.keys ++ ps) (more none))

-- a key below those of the entries is none of them
lookup-below : (k : List ℕ) (es : List (List ℕ × BTreeSet (List ℕ))) → AllByRecursion (λ y. dicts.bytes_cmp k y ≡ Less) (keys_of es) → lookup (is_at (dicts.bytes_cmp k)) es ≡ None
lookup-below k [] a = refl
lookup-below k (e ∷ es) a = rw a.0 (lookup-below k es a.1)

-- where the key is found, it is the first, or it is above the first and found behind it
lookup-cases : {R : Type 0} (k : List ℕ) (s : BTreeSet (List ℕ)) (e : List ℕ × BTreeSet (List ℕ)) (es : List (List ℕ × BTreeSet (List ℕ)))
    → IsStrictlySortedBy dicts.bytes_cmp (keys_of (e ∷ es)) → lookup (is_at (dicts.bytes_cmp k)) (e ∷ es) ≡ Some s
    → (dicts.bytes_cmp k e.0 ≡ Equal → k ≡ e.0 → e.1 ≡ s → IsBelow k (coll_pairs.pairs_in es) → R)
    → (dicts.bytes_cmp k e.0 ≡ Greater → lookup (is_at (dicts.bytes_cmp k)) es ≡ Some s → R)
    → R
lookup-cases {R} k s e es sorted present first later = by_order (dicts.bytes_cmp k e.0) refl
  where
    by_order : (o : Ordering) → dicts.bytes_cmp k e.0 ≡ o → R
    by_order Less h =
        let none : lookup (is_at (dicts.bytes_cmp k)) (e ∷ es) ≡ None =
        lookup-below k (e ∷ es) (h, below_all k e.0 (keys_of es) h (sorted_head dicts.bytes_cmp e.0 (keys_of es) sorted)) in
        let t : Some s ≡ None = sym present ∙ none in
        cc
    by_order Equal h =
        let same : k ≡ e.0 = exact_bytes k e.0 h in
        let t : Some e.1 ≡ Some s = sym (ap (λ (o : Ordering). cond (is_eq o) (Some e.1) (lookup (is_at (dicts.bytes_cmp k)) es)) h) ∙ present in
        let Q : List ℕ → Type 0 = λ key. IsBelow key (coll_pairs.pairs_in es) in
        let u : e.1 ≡ s = cc in
        first h same u (subst Q (sym same) (head_below e es sorted))
    by_order Greater h =
        later h (sym (ap (λ (o : Ordering). cond (is_eq o) (Some e.1) (lookup (is_at (dicts.bytes_cmp k)) es)) h) ∙ present)

-- a key that had texts
pub insert-present : (k v : List ℕ) (s w : BTreeSet (List ℕ)) (es : List (List ℕ × BTreeSet (List ℕ))) → IsStrictlySortedBy dicts.bytes_cmp (keys_of es)
    → lookup (is_at (dicts.bytes_cmp k)) es ≡ Some s → w.keys ≡ dicts.with_text s.keys v
    → insert_key collections.pair_cmp (coll_pairs.pairs_in es) (k, v) ≡ coll_pairs.pairs_in (set_value (is_at (dicts.bytes_cmp k)) es w)
insert-present k v s w [] sorted present is = cc
insert-present k v s w (e ∷ es) sorted present is =
    lookup-cases k s e es sorted present
    (λ h same found below.
    let P : List ℕ → Type 0 = λ key. insert_key collections.pair_cmp (coll_pairs.pairs_at key e.1.keys ++ coll_pairs.pairs_in es) (k, v) ≡ coll_pairs.pairs_at key (dicts.with_text e.1.keys v) ++ coll_pairs.pairs_in es in
    rw (h, is, ← found) (subst P same (insert-here k v e.1.keys (coll_pairs.pairs_in es) below)))
    (λ h some.
    rw (h, insert-past k v e.0 e.1.keys (coll_pairs.pairs_in es) h)
    (ap (λ (ps : List (List ℕ × List ℕ)). coll_pairs.pairs_at e.0 e.1.keys ++ ps) (insert-present k v s w es (sorted_tail dicts.bytes_cmp e.0 (keys_of es) sorted) some is)))

-- a pair that was not in is one more
pub length-insert_key : (p : List ℕ × List ℕ) (ps : List (List ℕ × List ℕ)) → collections.has_pair ps p ≡ false → length (insert_key collections.pair_cmp ps p) ≡ length ps + 1
length-insert_key p [] h = omega arith
length-insert_key p (x ∷ ps) h = by_order (collections.pair_cmp p x) refl (length-insert_key p ps)
  where
    by_order : (o : Ordering) → collections.pair_cmp p x ≡ o → (collections.has_pair ps p ≡ false → length (insert_key collections.pair_cmp ps p) ≡ length ps + 1)
        → length (insert_key collections.pair_cmp (x ∷ ps) p) ≡ length (x ∷ ps) + 1
    by_order Less e more = rw e (omega arith)
    by_order Equal e more = let t : true ≡ false = sym (ap (λ (o : Ordering). is_eq o || collections.has_pair ps p) e) ∙ h in cc
    by_order Greater e more =
        let m = more (sym (ap (λ (o : Ordering). is_eq o || collections.has_pair ps p) e) ∙ h) in
        rw e (omega arith)

-- ---- one pair less
pub remove_key-absent : {K : Type 0} (test : K → Bool) (xs : List K) → list_any test xs ≡ false → remove_key test xs ≡ xs
remove_key-absent test [] h = refl
remove_key-absent test (x ∷ xs) h = by_test (test x) refl (remove_key-absent test xs)
  where
    by_test : (b : Bool) → test x ≡ b → (list_any test xs ≡ false → remove_key test xs ≡ xs) → remove_key test (x ∷ xs) ≡ x ∷ xs
    by_test true e more = let t : true ≡ false = sym (ap (λ (b : Bool). b || list_any test xs) e) ∙ h in cc
    by_test false e more = rw (e, more (sym (ap (λ (b : Bool). b || list_any test xs) e) ∙ h)) refl

remove-past : (k v key : List ℕ) (ts : List (List ℕ)) (ps : List (List ℕ × List ℕ)) → is_eq (dicts.bytes_cmp k key) ≡ false
    → remove_key (is_at (collections.pair_cmp (k, v))) (coll_pairs.pairs_at key ts ++ ps) ≡ coll_pairs.pairs_at key ts ++ remove_key (is_at (collections.pair_cmp (k, v))) ps
remove-past k v key [] ps h = refl
remove-past k v key (t ∷ ts) ps h = rw (is_eq-ordering_then (dicts.bytes_cmp k key) (dicts.bytes_cmp v t) h, remove-past k v key ts ps h) refl

remove-here : (k v : List ℕ) (ts : List (List ℕ)) (ps : List (List ℕ × List ℕ)) → dicts.has_text ts v ≡ true
    → remove_key (is_at (collections.pair_cmp (k, v))) (coll_pairs.pairs_at k ts ++ ps) ≡ coll_pairs.pairs_at k (dicts.without_text ts v) ++ ps
remove-here k v [] ps h = cc
remove-here k v (t ∷ ts) ps h = rw (key_itself k) (by_test (is_eq (dicts.bytes_cmp v t)) refl (remove-here k v ts ps))
  where
    by_test : (b : Bool) → is_eq (dicts.bytes_cmp v t) ≡ b
        → (dicts.has_text ts v ≡ true → remove_key (is_at (collections.pair_cmp (k, v))) (coll_pairs.pairs_at k ts ++ ps) ≡ coll_pairs.pairs_at k (dicts.without_text ts v) ++ ps)
        → cond (is_eq (dicts.bytes_cmp v t)) (coll_pairs.pairs_at k ts ++ ps) ((k, t) ∷ remove_key (is_at (collections.pair_cmp (k, v))) (coll_pairs.pairs_at k ts ++ ps)) ≡ coll_pairs.pairs_at k (dicts.without_text (t ∷ ts) v) ++ ps
    by_test true e more = rw e refl
    by_test false e more = rw (e, more (sym (ap (λ (b : Bool). b || dicts.has_text ts v) e) ∙ h)) refl

pub remove-present : (k v : List ℕ) (s w : BTreeSet (List ℕ)) (es : List (List ℕ × BTreeSet (List ℕ))) → IsStrictlySortedBy dicts.bytes_cmp (keys_of es)
    → lookup (is_at (dicts.bytes_cmp k)) es ≡ Some s → dicts.has_text s.keys v ≡ true → w.keys ≡ dicts.without_text s.keys v
    → remove_key (is_at (collections.pair_cmp (k, v))) (coll_pairs.pairs_in es) ≡ coll_pairs.pairs_in (set_value (is_at (dicts.bytes_cmp k)) es w)
remove-present k v s w [] sorted present has is = cc
remove-present k v s w (e ∷ es) sorted present has is =
    lookup-cases k s e es sorted present
    (λ h same found below.
    let P : List ℕ → Type 0 = λ key. remove_key (is_at (collections.pair_cmp (k, v))) (coll_pairs.pairs_at key e.1.keys ++ coll_pairs.pairs_in es) ≡ coll_pairs.pairs_at key (dicts.without_text e.1.keys v) ++ coll_pairs.pairs_in es in
    rw (h, is, ← found) (subst P same (remove-here k v e.1.keys (coll_pairs.pairs_in es) (rw found has))))
    (λ h some.
    rw (h, remove-past k v e.0 e.1.keys (coll_pairs.pairs_in es) (ap is_eq h))
    (ap (λ (ps : List (List ℕ × List ℕ)). coll_pairs.pairs_at e.0 e.1.keys ++ ps) (remove-present k v s w es (sorted_tail dicts.bytes_cmp e.0 (keys_of es) sorted) some has is)))

-- a key with no text has no pair
pub pairs_in-emptied : (test : List ℕ → Bool) (s : BTreeSet (List ℕ)) (es : List (List ℕ × BTreeSet (List ℕ))) → lookup test es ≡ Some s → s.keys ≡ []
    → coll_pairs.pairs_in (remove_entry test es) ≡ coll_pairs.pairs_in es
pairs_in-emptied test s [] h none = cc
pairs_in-emptied test s (e ∷ es) h none = by_test (test e.0) refl (λ some. pairs_in-emptied test s es some none)
  where
    by_test : (b : Bool) → test e.0 ≡ b → (lookup test es ≡ Some s → coll_pairs.pairs_in (remove_entry test es) ≡ coll_pairs.pairs_in es) → coll_pairs.pairs_in (remove_entry test (e ∷ es)) ≡ coll_pairs.pairs_in (e ∷ es)
    by_test true t more =
        let u : Some e.1 ≡ Some s = sym (ap (λ (b : Bool). cond b (Some e.1) (lookup test es)) t) ∙ h in
        let same : e.1 ≡ s = cc in
        rw (t, same, none) refl
    by_test false t more = rw (t, more (sym (ap (λ (b : Bool). cond b (Some e.1) (lookup test es)) t) ∙ h)) refl

-- ---- the pairs of a key
without_pairs-elsewhere : (k key : List ℕ) (ts : List (List ℕ)) → is_eq (dicts.bytes_cmp k key) ≡ false → collections.without_pairs k (coll_pairs.pairs_at key ts) ≡ coll_pairs.pairs_at key ts
without_pairs-elsewhere k key [] h = refl
without_pairs-elsewhere k key (t ∷ ts) h = rw (h, without_pairs-elsewhere k key ts h) refl

without_pairs-here : (k key : List ℕ) (ts : List (List ℕ)) → is_eq (dicts.bytes_cmp k key) ≡ true → collections.without_pairs k (coll_pairs.pairs_at key ts) ≡ []
without_pairs-here k key [] h = refl
without_pairs-here k key (t ∷ ts) h = rw (h, without_pairs-here k key ts h) refl

without_pairs-below : (k : List ℕ) (ps : List (List ℕ × List ℕ)) → IsBelow k ps → collections.without_pairs k ps ≡ ps
without_pairs-below k [] a = refl
without_pairs-below k (p ∷ ps) a = rw (a.0, without_pairs-below k ps a.1) refl

pairs_of-elsewhere : (k key : List ℕ) (ts : List (List ℕ)) → is_eq (dicts.bytes_cmp k key) ≡ false → collections.pairs_of k (coll_pairs.pairs_at key ts) ≡ []
pairs_of-elsewhere k key [] h = refl
pairs_of-elsewhere k key (t ∷ ts) h = rw (h, pairs_of-elsewhere k key ts h) refl

pairs_of-here : (k key : List ℕ) (ts : List (List ℕ)) → is_eq (dicts.bytes_cmp k key) ≡ true → length (collections.pairs_of k (coll_pairs.pairs_at key ts)) ≡ length ts
pairs_of-here k key [] h = refl
pairs_of-here k key (t ∷ ts) h = rw h (ap suc (pairs_of-here k key ts h))

pairs_of-below : (k : List ℕ) (ps : List (List ℕ × List ℕ)) → IsBelow k ps → collections.pairs_of k ps ≡ []
pairs_of-below k [] a = refl
pairs_of-below k (p ∷ ps) a = rw (a.0, pairs_of-below k ps a.1) refl

pub without_pairs-pairs_in : (k : List ℕ) (es : List (List ℕ × BTreeSet (List ℕ))) → IsStrictlySortedBy dicts.bytes_cmp (keys_of es)
    → collections.without_pairs k (coll_pairs.pairs_in es) ≡ coll_pairs.pairs_in (remove_entry (is_at (dicts.bytes_cmp k)) es)
without_pairs-pairs_in k [] sorted = refl
without_pairs-pairs_in k (e ∷ es) sorted =
    filter-append (λ (p : List ℕ × List ℕ). not (is_eq (dicts.bytes_cmp k p.0))) (coll_pairs.pairs_at e.0 e.1.keys) (coll_pairs.pairs_in es)
    ∙ by_order (dicts.bytes_cmp k e.0) refl (without_pairs-pairs_in k es (sorted_tail dicts.bytes_cmp e.0 (keys_of es) sorted))
  where
    by_order : (o : Ordering) → dicts.bytes_cmp k e.0 ≡ o → collections.without_pairs k (coll_pairs.pairs_in es) ≡ coll_pairs.pairs_in (remove_entry (is_at (dicts.bytes_cmp k)) es)
        → collections.without_pairs k (coll_pairs.pairs_at e.0 e.1.keys) ++ collections.without_pairs k (coll_pairs.pairs_in es) ≡ coll_pairs.pairs_in (remove_entry (is_at (dicts.bytes_cmp k)) (e ∷ es))
    by_order Less h more = rw (without_pairs-elsewhere k e.0 e.1.keys (ap is_eq h), h, more) refl
    by_order Greater h more = rw (without_pairs-elsewhere k e.0 e.1.keys (ap is_eq h), h, more) refl
    by_order Equal h more =
        let Q : List ℕ → Type 0 = λ key. IsBelow key (coll_pairs.pairs_in es) in
        rw (without_pairs-here k e.0 e.1.keys (ap is_eq h), h)
        (without_pairs-below k (coll_pairs.pairs_in es) (subst Q (sym (exact_bytes k e.0 h)) (head_below e es sorted)))

pub length-pairs_of : (k : List ℕ) (es : List (List ℕ × BTreeSet (List ℕ))) → IsStrictlySortedBy dicts.bytes_cmp (keys_of es)
    → length (collections.pairs_of k (coll_pairs.pairs_in es)) ≡ length (texts_of (lookup (is_at (dicts.bytes_cmp k)) es))
length-pairs_of k [] sorted = refl
length-pairs_of k (e ∷ es) sorted =
    ap (λ (ps : List (List ℕ × List ℕ)). length ps) (filter-append (λ (p : List ℕ × List ℕ). is_eq (dicts.bytes_cmp k p.0)) (coll_pairs.pairs_at e.0 e.1.keys) (coll_pairs.pairs_in es))
    ∙ by_order (dicts.bytes_cmp k e.0) refl (length-pairs_of k es (sorted_tail dicts.bytes_cmp e.0 (keys_of es) sorted))
  where
    by_order : (o : Ordering) → dicts.bytes_cmp k e.0 ≡ o → length (collections.pairs_of k (coll_pairs.pairs_in es)) ≡ length (texts_of (lookup (is_at (dicts.bytes_cmp k)) es))
        → length (collections.pairs_of k (coll_pairs.pairs_at e.0 e.1.keys) ++ collections.pairs_of k (coll_pairs.pairs_in es)) ≡ length (texts_of (lookup (is_at (dicts.bytes_cmp k)) (e ∷ es)))
    by_order Less h more = rw (pairs_of-elsewhere k e.0 e.1.keys (ap is_eq h), h) more
    by_order Greater h more = rw (pairs_of-elsewhere k e.0 e.1.keys (ap is_eq h), h) more
    by_order Equal h more =
        let Q : List ℕ → Type 0 = λ key. IsBelow key (coll_pairs.pairs_in es) in
        let none : collections.pairs_of k (coll_pairs.pairs_in es) ≡ [] = pairs_of-below k (coll_pairs.pairs_in es) (subst Q (sym (exact_bytes k e.0 h)) (head_below e es sorted)) in
        rw (none, h, append-nil) (pairs_of-here k e.0 e.1.keys (ap is_eq h))

-- the pairs of a key and the others are all
pub length-both : (k : List ℕ) (ps : List (List ℕ × List ℕ)) → length (collections.pairs_of k ps) + length (collections.without_pairs k ps) ≡ length ps
length-both k ps = length-filter_both (λ (p : List ℕ × List ℕ). is_eq (dicts.bytes_cmp k p.0)) (λ (p : List ℕ × List ℕ). not (is_eq (dicts.bytes_cmp k p.0))) (λ p. refl) ps

-- ---- whatever stands at the key
-- a key whose texts stay has its pairs
pub pairs_in-same : (test : List ℕ → Bool) (s w : BTreeSet (List ℕ)) (es : List (List ℕ × BTreeSet (List ℕ))) → lookup test es ≡ Some s → w.keys ≡ s.keys
    → coll_pairs.pairs_in (set_value test es w) ≡ coll_pairs.pairs_in es
pairs_in-same test s w [] h is = refl
pairs_in-same test s w (e ∷ es) h is = by_test (test e.0) refl (λ some. pairs_in-same test s w es some is)
  where
    by_test : (b : Bool) → test e.0 ≡ b → (lookup test es ≡ Some s → coll_pairs.pairs_in (set_value test es w) ≡ coll_pairs.pairs_in es) → coll_pairs.pairs_in (set_value test (e ∷ es) w) ≡ coll_pairs.pairs_in (e ∷ es)
    by_test true t more =
        let u : Some e.1 ≡ Some s = sym (ap (λ (b : Bool). cond b (Some e.1) (lookup test es)) t) ∙ h in
        let same : e.1 ≡ s = cc in
        rw (t, is, same) refl
    by_test false t more = rw (t, more (sym (ap (λ (b : Bool). cond b (Some e.1) (lookup test es)) t) ∙ h)) refl

-- the text is taken out, if the key has it
pub remove-found : (k v : List ℕ) (s w : BTreeSet (List ℕ)) (es : List (List ℕ × BTreeSet (List ℕ))) → IsStrictlySortedBy dicts.bytes_cmp (keys_of es)
    → lookup (is_at (dicts.bytes_cmp k)) es ≡ Some s → w.keys ≡ dicts.without_text s.keys v
    → coll_pairs.pairs_in (set_value (is_at (dicts.bytes_cmp k)) es w) ≡ remove_key (is_at (collections.pair_cmp (k, v))) (coll_pairs.pairs_in es)
remove-found k v s w es sorted present is = by_text (dicts.has_text s.keys v) refl
  where
    by_text : (b : Bool) → dicts.has_text s.keys v ≡ b → coll_pairs.pairs_in (set_value (is_at (dicts.bytes_cmp k)) es w) ≡ remove_key (is_at (collections.pair_cmp (k, v))) (coll_pairs.pairs_in es)
    by_text true h = sym (remove-present k v s w es sorted present h is)
    by_text false h =
        let none : collections.has_pair (coll_pairs.pairs_in es) (k, v) ≡ false =
        has_pair-pairs_in k v es sorted ∙ (ap (λ (o : Option (BTreeSet (List ℕ))). dicts.has_text (texts_of o) v) present ∙ h) in
        pairs_in-same (is_at (dicts.bytes_cmp k)) s w es present (is ∙ remove_key-absent (is_at (dicts.bytes_cmp v)) s.keys h)
        ∙ sym (remove_key-absent (is_at (collections.pair_cmp (k, v))) (coll_pairs.pairs_in es) none)

-- a key that is not there has no pair
pub remove-unfound : (k v : List ℕ) (es : List (List ℕ × BTreeSet (List ℕ))) → IsStrictlySortedBy dicts.bytes_cmp (keys_of es)
    → lookup (is_at (dicts.bytes_cmp k)) es ≡ None → coll_pairs.pairs_in es ≡ remove_key (is_at (collections.pair_cmp (k, v))) (coll_pairs.pairs_in es)
remove-unfound k v es sorted absent =
    sym (remove_key-absent (is_at (collections.pair_cmp (k, v))) (coll_pairs.pairs_in es)
    (has_pair-pairs_in k v es sorted ∙ ap (λ (o : Option (BTreeSet (List ℕ))). dicts.has_text (texts_of o) v) absent))

-- what holds holds where a call failed
pub OnErr-always : {T E P : Type 0} (r : Result T E) → P → OnErr r P
OnErr-always (Ok x) p = tt
OnErr-always (Err d) p = p

pub nil_from_length : {X : Type 0} (xs : List X) → length xs ≡ 0 → xs ≡ []
nil_from_length [] h = refl
nil_from_length (x ∷ xs) h = cc

-- how many pairs a key has, by what a look-up finds
pub length-found : (k : List ℕ) (es : List (List ℕ × BTreeSet (List ℕ))) (o : Option (BTreeSet (List ℕ))) → IsStrictlySortedBy dicts.bytes_cmp (keys_of es)
    → lookup (is_at (dicts.bytes_cmp k)) es ≡ o → length (collections.pairs_of k (coll_pairs.pairs_in es)) ≡ length (texts_of o)
length-found k es o sorted found = length-pairs_of k es sorted ∙ ap (λ (o : Option (BTreeSet (List ℕ))). length (texts_of o)) found

pub length-pairs_of-le : (k : List ℕ) (ps : List (List ℕ × List ℕ)) → length (collections.pairs_of k ps) ≤ length ps
length-pairs_of-le k ps = omega (arith, length-both k ps)
