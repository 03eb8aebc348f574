-- The walk over a session's course finds the same in the digest: a commit stands where an item of others would.
use Rattle.std.proofs.Common.{◌≡◌, ℕ, ◌+◌, Bool, true, false, not, ◌&&◌, ◌||◌, nat_eq, List, [], ◌∷◌, ◌++◌, refl, sym, ap, ap₂, ◌∙◌, arith}
use Rattle.std.specs.Prelude.{if◌then◌else◌}
use Rattle.ax_types.specs.declared.items.Item.{Item}
use Rattle.ax_types.specs.declared.items.Item.TheVariants as item
use Rattle.spec_book.specs.History as histories
use Rattle.law_audit_tables.specs.Digest as digests
use Rattle.law_audit_tables.specs.EndWalk as end_walk

not_own : (s : ℕ) (x : Item) → digests.is_of s x ≡ false → end_walk.is_of_course s x ≡ false
not_own s (item.Opened t c) f = f
not_own s (item.Called t n c) f = f
not_own s (item.Event t p prev es) f = f
not_own s (item.Reply t n p r) f = f
not_own s (item.Read t n l p reach r) f = f
not_own s (item.Ended t p way) f = f
not_own s (item.Doubt t n) f = f
not_own s (item.Lost t n) f = f
not_own s (item.Unsent t n) f = f
not_own s (item.Unanswered t n) f = f
not_own s x f = refl

not_doubted : (s : ℕ) (d : end_walk.Call) (x : Item) → digests.is_of s x ≡ false → end_walk.is_told_open s d x ≡ false
not_doubted s d (item.Doubt t n) f = ap (λ b. b && nat_eq d.0 n && d.1) f
not_doubted s d (item.Lost t n) f = ap (λ b. b && nat_eq d.0 n && not d.1) f
not_doubted s d x f = refl

-- calls that are expected in doubt are not where an item of others comes first
none_step : (h : histories.History) (s : ℕ) (k : end_walk.Course) (c : ℕ) (x : Item) (items : List Item) (d : end_walk.Call) (ds : List end_walk.Call)
    → k.expected ≡ d ∷ ds → end_walk.run_course h s k (digests.digest s (digests.committed c x) false items) ≡ false
    → end_walk.run_course h s k (digests.digest s c false (x ∷ items)) ≡ false
none_step h s k c x items d ds e next = go (digests.is_of s x) refl
  where
    below : List Item
    below = x ∷ digests.digest s c true items

    at : Bool → List Item
    at b = if b then item.Commit c ∷ below else digests.digest s (digests.committed c x) false items

    go : (b : Bool) → digests.is_of s x ≡ b → end_walk.run_course h s k (digests.digest s c false (x ∷ items)) ≡ false
    go true f = ap (λ b. end_walk.run_course h s k (at b)) f ∙ ap (end_walk.run_item h s k (item.Commit c) (λ j. end_walk.run_course h s j below)) e
    go false f = ap (λ b. end_walk.run_course h s k (at b)) f ∙ next

none_doubted : (h : histories.History) (s : ℕ) (k : end_walk.Course) (c : ℕ) (items : List Item) (d : end_walk.Call) (ds : List end_walk.Call)
    → k.expected ≡ d ∷ ds → end_walk.run_course h s k (digests.digest s c false items) ≡ false
none_doubted h s k c [] d ds e = ap end_walk.are_no_calls e
none_doubted h s k c (x ∷ items) d ds e = none_step h s k c x items d ds e (none_doubted h s k (digests.committed c x) items d ds e)

-- one item, where the walks over what is below agree
item_same : (h : histories.History) (s : ℕ) (k : end_walk.Course) (x : Item) (xs ys : List Item)
    → ((j : end_walk.Course) → end_walk.run_course h s j xs ≡ end_walk.run_course h s j ys) → end_walk.run_course h s k (x ∷ xs) ≡ end_walk.run_course h s k (x ∷ ys)
item_same h s k x xs ys g = go k.expected
  where
    go : (es : List end_walk.Call) → end_walk.run_item h s k x (λ j. end_walk.run_course h s j xs) es ≡ end_walk.run_item h s k x (λ j. end_walk.run_course h s j ys) es
    go [] = ap₂ (λ a b. if end_walk.is_of_course s x then end_walk.may_stand h s k x && a else b) (g (end_walk.course_with k x)) (g k)
    go (d ∷ ds) = ap (λ a. end_walk.is_told_open s d x && a) (g (end_walk.with_doubt k d ds))

abbrev pub CourseDigest : histories.History → ℕ → List Item → end_walk.Course → ℕ → Bool → Type 0
CourseDigest h s items k c is_next = (is_next ≡ false → k.expected ≡ []) → end_walk.run_course h s k (digests.digest s c is_next items) ≡ end_walk.run_course h s k items

course_step : (h : histories.History) (s : ℕ) (k : end_walk.Course) (c : ℕ) (is_next : Bool) (x : Item) (items : List Item)
    → ((j : end_walk.Course) (m : ℕ) (n : Bool) → CourseDigest h s items j m n) → CourseDigest h s (x ∷ items) k c is_next
course_step h s k c is_next x items next e = go (digests.is_of s x) refl
  where
    below : List Item
    below = digests.digest s c true items

    at : Bool → List Item
    at b = if b then digests.gap_items (digests.gap_of is_next c) ++ x ∷ below else digests.digest s (digests.committed c x) false items

    stays : end_walk.run_course h s k (x ∷ below) ≡ end_walk.run_course h s k (x ∷ items)
    stays = item_same h s k x below items (λ j. next j c true (λ g. absurd (cc)))

    own : (n : Bool) → (n ≡ false → k.expected ≡ []) → end_walk.run_course h s k (digests.gap_items (digests.gap_of n c) ++ x ∷ below) ≡ end_walk.run_course h s k (x ∷ items)
    own true g = stays
    own false g = ap (end_walk.run_item h s k (item.Commit c) (λ j. end_walk.run_course h s j (x ∷ below))) (g refl) ∙ stays

    others : digests.is_of s x ≡ false → (es : List end_walk.Call) → k.expected ≡ es
        → end_walk.run_course h s k (digests.digest s (digests.committed c x) false items) ≡ end_walk.run_item h s k x (λ j. end_walk.run_course h s j items) es
    others f [] g =
        next k (digests.committed c x) false (λ i. g)
        ∙ sym (ap (λ b. if b then end_walk.may_stand h s k x && end_walk.run_course h s (end_walk.course_with k x) items else end_walk.run_course h s k items) (not_own s x f))
    others f (d ∷ ds) g =
        none_doubted h s k (digests.committed c x) items d ds g
        ∙ sym (ap (λ b. b && end_walk.run_course h s (end_walk.with_doubt k d ds) items) (not_doubted s d x f))

    go : (b : Bool) → digests.is_of s x ≡ b → end_walk.run_course h s k (digests.digest s c is_next (x ∷ items)) ≡ end_walk.run_course h s k (x ∷ items)
    go true f = ap (λ b. end_walk.run_course h s k (at b)) f ∙ own is_next e
    go false f = ap (λ b. end_walk.run_course h s k (at b)) f ∙ others f k.expected refl

pub course_digest : (h : histories.History) (s : ℕ) (k : end_walk.Course) (c : ℕ) (is_next : Bool) (items : List Item) → CourseDigest h s items k c is_next
course_digest h s k c is_next [] e = refl
course_digest h s k c is_next (x ∷ items) e = course_step h s k c is_next x items (λ j m n. course_digest h s j m n items) e
