-- What stands at a name of a book after a change at a name, or of each resource.
use Rattle.std.proofs.Common.{◌≡◌, ℕ, true, false, cond, List, [], ◌∷◌, Some, None, refl, sym, ap, ◌∙◌, eq-eqb, nat_eq, nat_lt, arith}
use Rattle.std.specs.declared.cmp.Ordering.{Ordering}
use Rattle.std.specs.declared.cmp.Ordering.TheVariants.{Less, Equal, Greater}
use Rattle.std.specs.Ordering.{match_ordering, is_eq, nat_cmp}
use Rattle.std.specs.BTreeMap.{is_at}
use Rattle.std.proofs.lemmas.Bool.{le-ltb}
use Rattle.std.proofs.lemmas.Map.Lookups.{exact_bytes}
use Rattle.std.proofs.lemmas.Map.Views.{tells_apart}
use Rattle.spec_book.specs.Dict as dicts
use Rattle.spec_book.specs.Resources as resources
use Rattle.spec_book.specs.Book as books

nat_itself : (n : ℕ) → nat_cmp n n ≡ Equal
nat_itself n =
    let l : nat_lt n n ≡ false = le-ltb n n (omega arith) in
    let e : nat_eq n n ≡ true = eq-eqb n n refl in
    rw (l, e) refl

itself : (name : List ℕ) → dicts.bytes_cmp name name ≡ Equal
itself [] = refl
itself (x ∷ xs) = rw (nat_itself x) (itself xs)

-- the name that a test of a name passes is that name
pub same_name : (name n : List ℕ) → is_at (dicts.bytes_cmp name) n ≡ true → name ≡ n
same_name name n e = tells_apart exact_bytes name n e

with_same_by : (o : Ordering) (e : List ℕ × resources.Resource) (book : books.Book) (name : List ℕ) (r : resources.Resource) → is_eq (dicts.bytes_cmp name e.0) ≡ is_eq o
    → dicts.found (dicts.with_entry book name r) name ≡ Some r
    → dicts.found (match_ordering o ((name, r) ∷ e ∷ book) ((e.0, r) ∷ book) (e ∷ dicts.with_entry book name r)) name ≡ Some r
with_same_by Less e book name r h k = ap (λ o. cond (is_eq o) (Some r) (dicts.found (e ∷ book) name)) (itself name)
with_same_by Equal e book name r h k = ap (λ b. cond b (Some r) (dicts.found book name)) h
with_same_by Greater e book name r h k = ap (λ b. cond b (Some e.1) (dicts.found (dicts.with_entry book name r) name)) h ∙ k

pub found_with_same : (book : books.Book) (name : List ℕ) (r : resources.Resource) → dicts.found (dicts.with_entry book name r) name ≡ Some r
found_with_same [] name r = ap (λ o. cond (is_eq o) (Some r) None) (itself name)
found_with_same (e ∷ book) name r = with_same_by (dicts.bytes_cmp name e.0) e book name r refl (found_with_same book name r)

with_other_by : (o : Ordering) (e : List ℕ × resources.Resource) (book : books.Book) (name n : List ℕ) (r : resources.Resource) → is_at (dicts.bytes_cmp name) n ≡ false → dicts.bytes_cmp n e.0 ≡ o
    → dicts.found (dicts.with_entry book n r) name ≡ dicts.found book name
    → dicts.found (match_ordering o ((n, r) ∷ e ∷ book) ((e.0, r) ∷ book) (e ∷ dicts.with_entry book n r)) name ≡ dicts.found (e ∷ book) name
with_other_by Less e book name n r f h k = ap (λ b. cond b (Some r) (dicts.found (e ∷ book) name)) f
with_other_by Equal e book name n r f h k =
    let s : n ≡ e.0 = same_name n e.0 (ap is_eq h) in
    let g : is_at (dicts.bytes_cmp name) e.0 ≡ false = ap (is_at (dicts.bytes_cmp name)) (sym s) ∙ f in
    ap (λ b. cond b (Some r) (dicts.found book name)) g ∙ sym (ap (λ b. cond b (Some e.1) (dicts.found book name)) g)
with_other_by Greater e book name n r f h k = ap (λ x. cond (is_at (dicts.bytes_cmp name) e.0) (Some e.1) x) k

pub found_with_other : (book : books.Book) (name n : List ℕ) (r : resources.Resource) → is_at (dicts.bytes_cmp name) n ≡ false → dicts.found (dicts.with_entry book n r) name ≡ dicts.found book name
found_with_other [] name n r f = ap (λ b. cond b (Some r) None) f
found_with_other (e ∷ book) name n r f = with_other_by (dicts.bytes_cmp n e.0) e book name n r f refl (found_with_other book name n r f)
