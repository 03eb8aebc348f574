-- What holds of each resource of a book, after a resource was put at a name, and after each was visited.
use Rattle.std.proofs.Common.{◌≡◌, ℕ, Bool, true, false, cond, List, [], ◌∷◌, Option, Some, None, option_map, refl, sym, ap, ◌∙◌, subst}
use Rattle.std.specs.BTreeMap.{is_at}
use Rattle.spec_book.specs.Dict as dicts
use Rattle.spec_book.specs.Resources as resources
use Rattle.spec_book.specs.Book as books
use Rattle.res_registry.specs.Walk as walks
use Rattle.res_registry.proofs.Found.{same_key, found_with_same, found_with_other}

-- what holds of each resource, with its name
abbrev pub Each : (List ℕ → resources.Resource → Type 0) → books.Book → Type 0
Each P book = (name : List ℕ) (r : resources.Resource) → dicts.found book name ≡ Some r → P name r

-- after a resource was put at a name: of those at other names, and of it
pub Each-with : (P : List ℕ → resources.Resource → Type 0) (book : books.Book) (name : List ℕ) (after : resources.Resource)
    → ((k : List ℕ) (r : resources.Resource) → dicts.found book k ≡ Some r → is_at (dicts.bytes_cmp k) name ≡ false → P k r)
    → P name after
    → Each P (dicts.with_entry book name after)
Each-with P book name after others here = λ k r there. by_test k r there (is_at (dicts.bytes_cmp k) name) refl
  where
    by_test : (k : List ℕ) (r : resources.Resource) → dicts.found (dicts.with_entry book name after) k ≡ Some r → (b : Bool) → is_at (dicts.bytes_cmp k) name ≡ b → P k r
    by_test k r there false t = others k r (sym (found_with_other book name after k t) ∙ there) t
    by_test k r there true t =
        let same : name ≡ k = sym (same_key k name t) in
        let at : dicts.found (dicts.with_entry book name after) k ≡ Some after = ap (λ (n : List ℕ). dicts.found (dicts.with_entry book name after) n) (sym same) ∙ found_with_same book name after in
        let is : after ≡ r = cc in
        let Q : List ℕ → Type 0 = λ n. P n after in
        let R : resources.Resource → Type 0 = λ x. P k x in
        subst R is (subst Q same here)

-- after each was visited
pub found_whole : (f : walks.Visit) (book : books.Book) (k : List ℕ) → dicts.found (walks.whole_state f book) k ≡ option_map (λ (r : resources.Resource). (f k r).state) (dicts.found book k)
found_whole f [] k = refl
found_whole f (e ∷ book) k = by_test (is_at (dicts.bytes_cmp k) e.0) refl (found_whole f book k)
  where
    by_test : (b : Bool) → is_at (dicts.bytes_cmp k) e.0 ≡ b → dicts.found (walks.whole_state f book) k ≡ option_map (λ (r : resources.Resource). (f k r).state) (dicts.found book k)
        → cond b (Some (f e.0 e.1).state) (dicts.found (walks.whole_state f book) k) ≡ option_map (λ (r : resources.Resource). (f k r).state) (cond b (Some e.1) (dicts.found book k))
    by_test true t more = ap (λ (n : List ℕ). Some (f n e.1).state) (sym (same_key k e.0 t))
    by_test false t more = more

pub Each-whole : (P Q : List ℕ → resources.Resource → Type 0) (f : walks.Visit) (book : books.Book) → ((k : List ℕ) (r : resources.Resource) → P k r → Q k (f k r).state)
    → Each P book → Each Q (walks.whole_state f book)
Each-whole P Q f book step each = λ k r there. by_found k r (dicts.found book k) refl (sym (found_whole f book k) ∙ there)
  where
    by_found : (k : List ℕ) (r : resources.Resource) (o : Option resources.Resource) → dicts.found book k ≡ o → option_map (λ (r : resources.Resource). (f k r).state) o ≡ Some r → Q k r
    by_found k r None e h = absurd (cc)
    by_found k r (Some before) e h =
        let is : (f k before).state ≡ r = cc in
        let R : resources.Resource → Type 0 = λ x. Q k x in
        subst R is (step k before (each k before e))
