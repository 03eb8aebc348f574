-- What stands at a name of a book, and after a resource was put there.
use Rattle.std.proofs.Common.{◌≡◌, ℕ, Bool, true, false, cond, List, [], ◌∷◌, Some, None, refl, sym, ap, ◌∙◌}
use Rattle.std.specs.declared.cmp.Ordering.{Ordering}
use Rattle.std.specs.declared.cmp.Ordering.TheVariants.{Less, Equal, Greater}
use Rattle.std.specs.Ordering.{match_ordering, is_eq, ordering_reverse}
use Rattle.std.specs.Cmp.Lexicographic.{nat_list_cmp_total}
use Rattle.std.specs.List.Sorted.{IsStrictlySortedBy}
use Rattle.std.specs.BTreeMap.{is_at}
use Rattle.std.specs.Map.{keys_of}
use Rattle.std.proofs.lemmas.Map.Keys.{sorted_tail}
use Rattle.std.proofs.lemmas.Map.Lookups.{exact_bytes}
use Rattle.spec_book.specs.Dict as dicts
use Rattle.spec_book.specs.Resources as resources
use Rattle.spec_book.specs.Book as books
pub use Rattle.res_map.proofs.Keys.{key_at_itself, same_key, same_key_swapped}
pub use Rattle.res_map.proofs.Written.{IsBelow, below_all, none_below, none_below_head, none_past_head}

equal_from_is_eq : (o : Ordering) → is_eq o ≡ true → o ≡ Equal
equal_from_is_eq Less h = cc
equal_from_is_eq Equal h = refl
equal_from_is_eq Greater h = cc

pub name_itself : (k : List ℕ) → dicts.bytes_cmp k k ≡ Equal
name_itself k = equal_from_is_eq (dicts.bytes_cmp k k) (key_at_itself k)

-- the other way round
pub above_from_below : (a b : List ℕ) → dicts.bytes_cmp a b ≡ Less → dicts.bytes_cmp b a ≡ Greater
above_from_below a b h = nat_list_cmp_total.antisymm b a ∙ ap ordering_reverse h

pub below_from_above : (a b : List ℕ) → dicts.bytes_cmp a b ≡ Greater → dicts.bytes_cmp b a ≡ Less
below_from_above a b h = nat_list_cmp_total.antisymm b a ∙ ap ordering_reverse h

pub has_text-below : (k : List ℕ) (names : List (List ℕ)) → IsBelow k names → dicts.has_text names k ≡ false
has_text-below k [] a = refl
has_text-below k (y ∷ names) a = rw (a.0, has_text-below k names a.1) refl

-- ---- what is found in a book in order
pub found_head : (e : List ℕ × resources.Resource) (book : books.Book) → dicts.found (e ∷ book) e.0 ≡ Some e.1
found_head e book = rw (name_itself e.0) refl

-- what is found past the head is found
pub found_tail : (k : List ℕ) (r : resources.Resource) (e : List ℕ × resources.Resource) (book : books.Book) → IsStrictlySortedBy dicts.bytes_cmp (keys_of (e ∷ book))
    → dicts.found book k ≡ Some r → dicts.found (e ∷ book) k ≡ Some r
found_tail k r e book sorted h = by_test (is_at (dicts.bytes_cmp k) e.0) refl
  where
    by_test : (b : Bool) → is_at (dicts.bytes_cmp k) e.0 ≡ b → cond b (Some e.1) (dicts.found book k) ≡ Some r
    by_test true t =
        let none : dicts.found book k ≡ None = ap (λ (n : List ℕ). dicts.found book n) (same_key k e.0 t) ∙ none_past_head e book sorted in
        cc
    by_test false t = h

-- ---- what is found after a resource was put at a name
pub found_with_same : (book : books.Book) (name : List ℕ) (r : resources.Resource) → dicts.found (dicts.with_entry book name r) name ≡ Some r
found_with_same [] name r = rw (name_itself name) refl
found_with_same (e ∷ book) name r = by_order (dicts.bytes_cmp name e.0) refl (found_with_same book name r)
  where
    by_order : (o : Ordering) → dicts.bytes_cmp name e.0 ≡ o → dicts.found (dicts.with_entry book name r) name ≡ Some r
        → dicts.found (match_ordering o ((name, r) ∷ e ∷ book) ((e.0, r) ∷ book) (e ∷ dicts.with_entry book name r)) name ≡ Some r
    by_order Less h more = rw (name_itself name) refl
    by_order Equal h more = rw h refl
    by_order Greater h more = rw h more

pub found_with_other : (book : books.Book) (name : List ℕ) (r : resources.Resource) (k : List ℕ) → is_at (dicts.bytes_cmp k) name ≡ false
    → dicts.found (dicts.with_entry book name r) k ≡ dicts.found book k
found_with_other [] name r k f = ap (λ b. cond b (Some r) None) f
found_with_other (e ∷ book) name r k f = by_order (dicts.bytes_cmp name e.0) refl (found_with_other book name r k f)
  where
    by_order : (o : Ordering) → dicts.bytes_cmp name e.0 ≡ o → dicts.found (dicts.with_entry book name r) k ≡ dicts.found book k
        → dicts.found (match_ordering o ((name, r) ∷ e ∷ book) ((e.0, r) ∷ book) (e ∷ dicts.with_entry book name r)) k ≡ dicts.found (e ∷ book) k
    by_order Less h more = ap (λ b. cond b (Some r) (dicts.found (e ∷ book) k)) f
    by_order Equal h more =
        let t : is_at (dicts.bytes_cmp k) e.0 ≡ false = ap (λ (n : List ℕ). is_at (dicts.bytes_cmp k) n) (sym (exact_bytes name e.0 h)) ∙ f in
        ap (λ b. cond b (Some r) (dicts.found book k)) t ∙ sym (ap (λ b. cond b (Some e.1) (dicts.found book k)) t)
    by_order Greater h more = ap (λ o. cond (is_at (dicts.bytes_cmp k) e.0) (Some e.1) o) more

-- ---- a resource put at a name that is there keeps the names
pub names_with : (book : books.Book) (name : List ℕ) (r after : resources.Resource) → IsStrictlySortedBy dicts.bytes_cmp (keys_of book) → dicts.found book name ≡ Some r
    → keys_of (dicts.with_entry book name after) ≡ keys_of book
names_with [] name r after sorted h = cc
names_with (e ∷ book) name r after sorted h =
    by_order (dicts.bytes_cmp name e.0) refl (names_with book name r after (sorted_tail dicts.bytes_cmp e.0 (keys_of book) sorted))
  where
    by_order : (o : Ordering) → dicts.bytes_cmp name e.0 ≡ o → (dicts.found book name ≡ Some r → keys_of (dicts.with_entry book name after) ≡ keys_of book)
        → keys_of (match_ordering o ((name, after) ∷ e ∷ book) ((e.0, after) ∷ book) (e ∷ dicts.with_entry book name after)) ≡ keys_of (e ∷ book)
    by_order Less at more = let none : dicts.found (e ∷ book) name ≡ None = none_below_head name e book sorted at in cc
    by_order Equal at more = refl
    by_order Greater at more =
        let there : dicts.found book name ≡ Some r = sym (ap (λ (o : Ordering). cond (is_eq o) (Some e.1) (dicts.found book name)) at) ∙ h in
        ap (λ (names : List (List ℕ)). e.0 ∷ names) (more there)
