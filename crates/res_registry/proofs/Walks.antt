-- A walk over the names outside of which nothing changes is the change of the whole book.
use Rattle.std.proofs.Common.{◌≡◌, ℕ, Bool, true, false, cond, List, [], ◌∷◌, ◌++◌, Option, Some, None, refl, sym, ap, ap₂, ◌∙◌, subst}
use Rattle.std.specs.declared.cmp.Ordering.{Ordering}
use Rattle.std.specs.declared.cmp.Ordering.TheVariants.{Less, Equal, Greater}
use Rattle.std.specs.Ordering.{is_eq}
use Rattle.std.specs.List.Sorted.{IsStrictlySortedBy}
use Rattle.std.specs.BTreeMap.{is_at}
use Rattle.std.specs.Map.{keys_of}
use Rattle.std.proofs.lemmas.Map.Keys.{sorted_head, sorted_tail}
use Rattle.std.proofs.lemmas.Map.Lookups.{exact_bytes}
use Rattle.ax_types.specs.declared.replies.Reply.TheVariants as reply
use Rattle.ax_types.specs.declared.replies.Event.{Event}
use Rattle.spec_book.specs.Dict as dicts
use Rattle.spec_book.specs.Resources as resources
use Rattle.spec_book.specs.Book as books
use Rattle.res_registry.specs.Walk as walks
use Rattle.res_registry.proofs.Found.{IsBelow, below_all, has_text-below, below_from_above, above_from_below, name_itself, same_key, none_below_head, none_past_head, found_head, found_tail}

-- a visit that neither changes nor tells
abbrev pub IsIdle : walks.Visit → List ℕ → resources.Resource → Type 0
IsIdle f name r = ((f name r).state ≡ r) × ((f name r).turn.told ≡ [])

-- it is so at each name of the book that is not among some names
abbrev pub IsIdleOutside : walks.Visit → List (List ℕ) → books.Book → Type 0
IsIdleOutside f names book = (name : List ℕ) (r : resources.Resource) → dicts.found book name ≡ Some r → dicts.has_text names name ≡ false → IsIdle f name r

-- the walk over the names is the same as that over the whole book
abbrev pub IsWhole : walks.Visit → List (List ℕ) → books.Book → Type 0
IsWhole f names book = (walks.walked_state f names book ≡ walks.whole_state f book) × (walks.walked_told f names book ≡ walks.whole_told f book)

-- ---- a walk past an entry
-- with an entry in front
abbrev behind : List ℕ × resources.Resource → resources.Acted books.Book → resources.Acted books.Book
behind e a = record { state = e ∷ a.state; turn = a.turn }

visited_at-past : (f : walks.Visit) (e : List ℕ × resources.Resource) (book : books.Book) (n : List ℕ) (r : Option resources.Resource) → dicts.bytes_cmp n e.0 ≡ Greater
    → walks.visited_at f (e ∷ book) n r ≡ behind e (walks.visited_at f book n r)
visited_at-past f e book n None h = refl
visited_at-past f e book n (Some r) h = rw h refl

visited-past : (f : walks.Visit) (e : List ℕ × resources.Resource) (book : books.Book) (n : List ℕ) → dicts.bytes_cmp n e.0 ≡ Greater
    → walks.visited f (e ∷ book) n ≡ behind e (walks.visited f book n)
visited-past f e book n h =
    ap (λ (o : Ordering). walks.visited_at f (e ∷ book) n (cond (is_eq o) (Some e.1) (dicts.found book n))) h
    ∙ visited_at-past f e book n (dicts.found book n) h

walked_state-past : (f : walks.Visit) (e : List ℕ × resources.Resource) (book : books.Book) (names : List (List ℕ)) → IsBelow e.0 names
    → walks.walked_state f names (e ∷ book) ≡ e ∷ walks.walked_state f names book
walked_state-past f e book [] a = refl
walked_state-past f e book (n ∷ names) a =
    ap (λ (v : resources.Acted books.Book). walks.walked_state f names v.state) (visited-past f e book n (above_from_below e.0 n a.0))
    ∙ walked_state-past f e (walks.visited f book n).state names a.1

walked_told-past : (f : walks.Visit) (e : List ℕ × resources.Resource) (book : books.Book) (names : List (List ℕ)) → IsBelow e.0 names
    → walks.walked_told f names (e ∷ book) ≡ walks.walked_told f names book
walked_told-past f e book [] a = refl
walked_told-past f e book (n ∷ names) a =
    ap (λ (v : resources.Acted books.Book). v.turn.told ++ walks.walked_told f names v.state) (visited-past f e book n (above_from_below e.0 n a.0))
    ∙ ap (λ (t : List (ℕ × Event)). (walks.visited f book n).turn.told ++ t) (walked_told-past f e (walks.visited f book n).state names a.1)

-- ---- the three ways in which the first name may stand to the first entry
whole_below : (f : walks.Visit) (n : List ℕ) (names : List (List ℕ)) (e : List ℕ × resources.Resource) (book : books.Book)
    → IsStrictlySortedBy dicts.bytes_cmp (keys_of (e ∷ book)) → dicts.bytes_cmp n e.0 ≡ Less
    → IsIdleOutside f (n ∷ names) (e ∷ book) → (IsIdleOutside f names (e ∷ book) → IsWhole f names (e ∷ book)) → IsWhole f (n ∷ names) (e ∷ book)
whole_below f n names e book sorted h idle more =
    let none : dicts.found (e ∷ book) n ≡ None = none_below_head n e book sorted h in
    let v : walks.visited f (e ∷ book) n ≡ resources.replied (e ∷ book) reply.Done = ap (walks.visited_at f (e ∷ book) n) none in
    let w = more (λ k r there absent. idle k r there (elsewhere k r there (is_at (dicts.bytes_cmp k) n) refl none ∙ absent)) in
    (ap (λ (v : resources.Acted books.Book). walks.walked_state f names v.state) v ∙ w.0, ap (λ (v : resources.Acted books.Book). v.turn.told ++ walks.walked_told f names v.state) v ∙ w.1)
  where
    elsewhere : (k : List ℕ) (r : resources.Resource) → dicts.found (e ∷ book) k ≡ Some r → (b : Bool) → is_at (dicts.bytes_cmp k) n ≡ b → dicts.found (e ∷ book) n ≡ None
        → dicts.has_text (n ∷ names) k ≡ dicts.has_text names k
    elsewhere k r there true t none = let same : dicts.found (e ∷ book) k ≡ dicts.found (e ∷ book) n = ap (λ (m : List ℕ). dicts.found (e ∷ book) m) (same_key k n t) in cc
    elsewhere k r there false t none = rw t refl

-- the name of the first entry itself
visited-here : (f : walks.Visit) (e : List ℕ × resources.Resource) (book : books.Book)
    → walks.visited f (e ∷ book) e.0 ≡ record { state = (e.0, (f e.0 e.1).state) ∷ book; turn = (f e.0 e.1).turn }
visited-here f e book =
    let put : dicts.with_entry (e ∷ book) e.0 (f e.0 e.1).state ≡ (e.0, (f e.0 e.1).state) ∷ book = rw (name_itself e.0) refl in
    ap (walks.visited_at f (e ∷ book) e.0) (found_head e book)
    ∙ ap (λ (b : books.Book). let v : resources.Acted books.Book = record { state = b; turn = (f e.0 e.1).turn } in v) put

whole_here : (f : walks.Visit) (names : List (List ℕ)) (e : List ℕ × resources.Resource) (book : books.Book) → IsStrictlySortedBy dicts.bytes_cmp (keys_of (e ∷ book))
    → IsBelow e.0 names → IsIdleOutside f (e.0 ∷ names) (e ∷ book) → (IsIdleOutside f names book → IsWhole f names book)
    → IsWhole f (e.0 ∷ names) (e ∷ book)
whole_here f names e book sorted below idle more =
    let here : List ℕ × resources.Resource = (e.0, (f e.0 e.1).state) in
    let v : walks.visited f (e ∷ book) e.0 ≡ record { state = here ∷ book; turn = (f e.0 e.1).turn } = visited-here f e book in
    let w = more (λ k r there absent. idle k r (found_tail k r e book sorted there) (elsewhere k r there absent (is_at (dicts.bytes_cmp k) e.0) refl)) in (
      ap (λ (v : resources.Acted books.Book). walks.walked_state f names v.state) v ∙ (walked_state-past f here book names below ∙ ap (λ (b : books.Book). here ∷ b) w.0),
      ap (λ (v : resources.Acted books.Book). v.turn.told ++ walks.walked_told f names v.state) v
          ∙ ap (λ (t : List (ℕ × Event)). (f e.0 e.1).turn.told ++ t) (walked_told-past f here book names below ∙ w.1),
    )
  where
    elsewhere : (k : List ℕ) (r : resources.Resource) → dicts.found book k ≡ Some r → dicts.has_text names k ≡ false → (b : Bool) → is_at (dicts.bytes_cmp k) e.0 ≡ b
        → dicts.has_text (e.0 ∷ names) k ≡ false
    elsewhere k r there absent true t =
        let none : dicts.found book k ≡ None = ap (λ (n : List ℕ). dicts.found book n) (same_key k e.0 t) ∙ none_past_head e book sorted in
        cc
    elsewhere k r there absent false t = rw t absent

whole_above : (f : walks.Visit) (names : List (List ℕ)) (e : List ℕ × resources.Resource) (book : books.Book) → IsStrictlySortedBy dicts.bytes_cmp (keys_of (e ∷ book))
    → IsBelow e.0 names → IsIdleOutside f names (e ∷ book) → (IsIdleOutside f names book → IsWhole f names book) → IsWhole f names (e ∷ book)
whole_above f names e book sorted below idle more =
    let quiet = idle e.0 e.1 (found_head e book) (has_text-below e.0 names below) in
    let w = more (λ k r there absent. idle k r (found_tail k r e book sorted there) absent) in (
      walked_state-past f e book names below ∙ ap₂ (λ (r : resources.Resource) (b : books.Book). (e.0, r) ∷ b) (sym quiet.0) w.0,
      walked_told-past f e book names below ∙ ap₂ (λ (t u : List (ℕ × Event)). t ++ u) (sym quiet.1) w.1,
    )

-- a walk over names in order is that over the whole book, where no visit to another name changes or tells anything
pub walked_whole : (f : walks.Visit) (names : List (List ℕ)) (book : books.Book) → IsStrictlySortedBy dicts.bytes_cmp names → IsStrictlySortedBy dicts.bytes_cmp (keys_of book)
    → IsIdleOutside f names book → IsWhole f names book
walked_whole f [] [] ordered sorted idle = (refl, refl)
walked_whole f [] (e ∷ book) ordered sorted idle =
    whole_above f [] e book sorted tt idle (walked_whole f [] book ordered (sorted_tail dicts.bytes_cmp e.0 (keys_of book) sorted))
walked_whole f (n ∷ names) [] ordered sorted idle =
    walked_whole f names [] (sorted_tail dicts.bytes_cmp n names ordered) sorted (λ k r there absent. cc)
walked_whole f (n ∷ names) (e ∷ book) ordered sorted idle =
    by_order (dicts.bytes_cmp n e.0) refl
    (walked_whole f names (e ∷ book) (sorted_tail dicts.bytes_cmp n names ordered) sorted)
    (walked_whole f names book (sorted_tail dicts.bytes_cmp n names ordered) (sorted_tail dicts.bytes_cmp e.0 (keys_of book) sorted))
    (walked_whole f (n ∷ names) book ordered (sorted_tail dicts.bytes_cmp e.0 (keys_of book) sorted))
  where
    by_order : (o : Ordering) → dicts.bytes_cmp n e.0 ≡ o
        → (IsIdleOutside f names (e ∷ book) → IsWhole f names (e ∷ book))
        → (IsIdleOutside f names book → IsWhole f names book)
        → (IsIdleOutside f (n ∷ names) book → IsWhole f (n ∷ names) book)
        → IsWhole f (n ∷ names) (e ∷ book)
    by_order Less h under here over = whole_below f n names e book sorted h idle under
    by_order Equal h under here over =
        let same : n ≡ e.0 = exact_bytes n e.0 h in
        let P : List ℕ → Type 0 = λ k. IsBelow k names in
        let Q : List ℕ → Type 0 = λ k. IsIdleOutside f (k ∷ names) (e ∷ book) in
        let R : List ℕ → Type 0 = λ k. IsWhole f (k ∷ names) (e ∷ book) in
        subst R (sym same) (whole_here f names e book sorted (subst P same (sorted_head dicts.bytes_cmp n names ordered)) (subst Q same idle) here)
    by_order Greater h under here over =
        let below : dicts.bytes_cmp e.0 n ≡ Less = below_from_above n e.0 h in
        whole_above f (n ∷ names) e book sorted (below, below_all e.0 n names below (sorted_head dicts.bytes_cmp n names ordered)) idle over

-- ---- the visits at the whole book

pub whole_passed : (time : ℕ) (book : books.Book) → walks.whole_told (walks.pass_visit time) book ≡ books.passed time book
whole_passed time [] = refl
whole_passed time (e ∷ book) = ap (λ (t : List (ℕ × Event)). (walks.pass_visit time e.0 e.1).turn.told ++ t) (whole_passed time book)

pub whole_left_told : (place session : ℕ) (book : books.Book) → walks.whole_told (walks.leave_visit place session) book ≡ books.left_told place session book
whole_left_told place session [] = refl
whole_left_told place session (e ∷ book) =
    ap (λ (t : List (ℕ × Event)). (walks.leave_visit place session e.0 e.1).turn.told ++ t) (whole_left_told place session book)

-- ---- the names stay

pub whole_names : (f : walks.Visit) (book : books.Book) → keys_of (walks.whole_state f book) ≡ keys_of book
whole_names f [] = refl
whole_names f (e ∷ book) = ap (λ (names : List (List ℕ)). e.0 ∷ names) (whole_names f book)
