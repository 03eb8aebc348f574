-- The course of a session describes the items above.
use Rattle.std.proofs.Common.{◌≡◌, ℕ, zero, suc, ◌-◌, ◌≤◌, ◌<◌, Bool, true, false, cond, not, ◌&&◌, ◌||◌, nat_eq, nat_lt, List, [], ◌∷◌, ◌++◌, Option, Some, None, length, map, filter, reverse, refl, sym, ap, ap₂, ◌∙◌, arith, append-nil}
use Rattle.std.specs.Prelude.{if◌then◌else◌}
use Rattle.std.specs.List.{list_any}
use Rattle.std.proofs.lemmas.Bool.Decides.{nat_tests}
use Rattle.std.proofs.lemmas.List.{map-append}
use Rattle.std.proofs.lemmas.List.Concat.{flat_map-append}
use Rattle.std.proofs.lemmas.List.Folds.{list_any-append}
use Rattle.std.proofs.lemmas.Grind.{reverse_onto}
use Rattle.ax_types.specs.Places as lists
use Rattle.ax_types.specs.declared.ops.WindowCall.{WindowCall}
use Rattle.ax_types.specs.declared.replies.How.{How}
use Rattle.ax_types.specs.declared.replies.How.TheVariants as how
use Rattle.ax_types.specs.declared.items.Item.{Item}
use Rattle.ax_types.specs.declared.items.Item.TheVariants as item
use Rattle.spec_book.specs.History as histories
use Rattle.spec_claims.specs.Transcript as transcripts
use Rattle.spec_claims.specs.Right as right
use Rattle.spec_claims.specs.OutcomeOrder as outcome_order
use Rattle.spec_audit.specs.ItemConditions as item_conditions
use Rattle.spec_audit.specs.SessionConditions as session_conditions
use Rattle.law_audit_tables.specs.EndWalk as end_walk
use Rattle.law_audit_tables.specs.TablesFound as laws

abbrev call_of : ℕ × WindowCall → end_walk.Call
call_of w = (w.0, transcripts.is_command w.1)

record Describes (s : ℕ) (above : List Item) (c : end_walk.Course) : Type 0 where
  opened : list_any (right.is_opened s) above ≡ c.is_opened
  ended : list_any (outcome_order.is_ended s) above ≡ c.is_ended
  calls : map call_of (transcripts.calls s (reverse above)) ≡ c.calls
  outcomes : (n : ℕ) → list_any (transcripts.is_outcome s n) (reverse above) ≡ list_any (nat_eq n) c.outcomes

-- ---- the calls without an outcome

kept_by : {A B : Type 0} (f : A → B) (x : A) (xs : List A) (ys : List B) (p q b : Bool) → p ≡ q → q ≡ b → map f xs ≡ ys → map f (cond p (x ∷ xs) xs) ≡ cond q (f x ∷ ys) ys
kept_by f x xs ys p q true e g h = rw (e ∙ g) (rw g (ap (λ zs. f x ∷ zs) h))
kept_by f x xs ys p q false e g h = rw (e ∙ g) (rw g h)

filtered : {A B : Type 0} (f : A → B) (p : A → Bool) (q : B → Bool) → ((x : A) → p x ≡ q (f x)) → (xs : List A) → map f (filter p xs) ≡ filter q (map f xs)
filtered f p q h [] = refl
filtered f p q h (x ∷ xs) = kept_by f x (filter p xs) (filter q (map f xs)) (p x) (q (f x)) (q (f x)) (h x) refl (filtered f p q h xs)

left_open : (s : ℕ) (above : List Item) (c : end_walk.Course) → Describes s above c → map call_of (session_conditions.open_calls s above) ≡ end_walk.calls_left c
left_open s above c d =
    filtered call_of (λ w. not (list_any (transcripts.is_outcome s w.0) (reverse above))) (end_walk.has_no_outcome c.outcomes) (λ w. ap not (d.outcomes w.0)) (transcripts.calls s (reverse above))
    ∙ ap (filter (end_walk.has_no_outcome c.outcomes)) d.calls

none_open : (ws : List (ℕ × WindowCall)) → nat_eq (length ws) 0 ≡ end_walk.are_no_calls (map call_of ws)
none_open [] = refl
none_open (w ∷ ws) = grind (arith, nat_tests)

-- ---- one item more

or_false : (b : Bool) → (b || false) ≡ b
or_false true = refl
or_false false = refl

or_flip : (a b : Bool) → (a || b) ≡ (b || a)
or_flip true true = refl
or_flip true false = refl
or_flip false true = refl
or_flip false false = refl

below : (x : Item) (above : List Item) → reverse (x ∷ above) ≡ reverse above ++ x ∷ []
below x above = reverse_onto above x []

calls_next : (s : ℕ) (x : Item) (above : List Item) (ws : List (ℕ × WindowCall)) (cs : List end_walk.Call) → transcripts.called_by s x ≡ ws
    → map call_of (transcripts.calls s (reverse above)) ≡ cs → map call_of (transcripts.calls s (reverse (x ∷ above))) ≡ cs ++ map call_of ws
calls_next s x above ws cs e k =
    ap (λ items. map call_of (transcripts.calls s items)) (below x above)
    ∙ ap (map call_of) (flat_map-append (transcripts.called_by s) (reverse above) (x ∷ []) ∙ ap (λ us. transcripts.calls s (reverse above) ++ us) (append-nil (transcripts.called_by s x) ∙ e))
    ∙ map-append call_of (transcripts.calls s (reverse above)) ws
    ∙ ap (λ ds. ds ++ map call_of ws) k

no_call : (s : ℕ) (x : Item) (above : List Item) (c : end_walk.Course) → transcripts.called_by s x ≡ [] → Describes s above c → map call_of (transcripts.calls s (reverse (x ∷ above))) ≡ c.calls
no_call s x above c e d = calls_next s x above [] c.calls e d.calls ∙ append-nil c.calls

abbrev is_number : ℕ → Option ℕ → Bool
is_number n None = false
is_number n (Some m) = nat_eq n m

outcome_next : (s n : ℕ) (x : Item) (above : List Item) (o : Option ℕ) → transcripts.outcome_of s x ≡ o
    → list_any (transcripts.is_outcome s n) (reverse (x ∷ above)) ≡ (is_number n o || list_any (transcripts.is_outcome s n) (reverse above))
outcome_next s n x above o e =
    ap (list_any (transcripts.is_outcome s n)) (below x above)
    ∙ list_any-append (transcripts.is_outcome s n) (reverse above) (x ∷ [])
    ∙ ap (λ p. list_any (transcripts.is_outcome s n) (reverse above) || (is_number n p || false)) e
    ∙ or_flip (list_any (transcripts.is_outcome s n) (reverse above)) (is_number n o || false)
    ∙ ap (λ b. b || list_any (transcripts.is_outcome s n) (reverse above)) (or_false (is_number n o))

abbrev with_number : Option ℕ → List ℕ → List ℕ
with_number None ns = ns
with_number (Some n) ns = n ∷ ns

numbered : (n : ℕ) (o : Option ℕ) (ns : List ℕ) → (is_number n o || list_any (nat_eq n) ns) ≡ list_any (nat_eq n) (with_number o ns)
numbered n None ns = refl
numbered n (Some m) ns = refl

-- with one item more, of which it is known what it tells of the session
next : (s : ℕ) (x : Item) (above : List Item) (c k : end_walk.Course) (o e : Bool) (ws : List (ℕ × WindowCall)) (n : Option ℕ)
    → right.is_opened s x ≡ o → outcome_order.is_ended s x ≡ e → transcripts.called_by s x ≡ ws → transcripts.outcome_of s x ≡ n → Describes s above c
    → (o || c.is_opened) ≡ k.is_opened → (e || c.is_ended) ≡ k.is_ended → (c.calls ++ map call_of ws) ≡ k.calls → with_number n c.outcomes ≡ k.outcomes
    → Describes s (x ∷ above) k
next s x above c k o e ws n io ie ic io2 d ko ke kc kn = record {
  opened = ap₂ (λ a b. a || b) io d.opened ∙ ko;
  ended = ap₂ (λ a b. a || b) ie d.ended ∙ ke;
  calls = calls_next s x above ws c.calls ic d.calls ∙ kc;
  outcomes = λ m. outcome_next s m x above n io2 ∙ ap (λ b. is_number m n || b) (d.outcomes m) ∙ numbered m n c.outcomes ∙ ap (list_any (nat_eq m)) kn;
}

-- an item of another session, or of none
quiet : (s : ℕ) (x : Item) (above : List Item) (c : end_walk.Course) → right.is_opened s x ≡ false → outcome_order.is_ended s x ≡ false → transcripts.called_by s x ≡ []
    → transcripts.outcome_of s x ≡ None → Describes s above c → Describes s (x ∷ above) c
quiet s x above c o e w n d = next s x above c c false false [] None o e w n d refl refl (append-nil c.calls) refl

-- an outcome
answered : (s m : ℕ) (x : Item) (above : List Item) (c : end_walk.Course) → right.is_opened s x ≡ false → outcome_order.is_ended s x ≡ false → transcripts.called_by s x ≡ []
    → transcripts.outcome_of s x ≡ Some m → Describes s above c → Describes s (x ∷ above) (end_walk.course_with_outcome c m)
answered s m x above c o e w n d = next s x above c (end_walk.course_with_outcome c m) false false [] (Some m) o e w n d refl refl (append-nil c.calls) refl

-- ---- steps of the walk

abbrev by_expected : histories.History → ℕ → end_walk.Course → Item → List Item → List end_walk.Call → Bool
by_expected h s c x items ds = end_walk.run_item h s c x (λ k. end_walk.run_course h s k items) ds

-- what the conditions say of the items below, where so many are to be in doubt
abbrev conditions : histories.History → ℕ → List Item → ℕ → List Item → Bool
conditions h s above left items = item_conditions.each_below (session_conditions.is_in_session h s) above items && session_conditions.are_ends s left above items

abbrev Runs : histories.History → ℕ → List Item → end_walk.Course → List (ℕ × WindowCall) → List Item → Type 0
Runs h s above c ws items = end_walk.run_course h s c items ≡ (session_conditions.are_doubted s ws items && conditions h s above (length ws) items)

-- the tests of one item, before those of the items below
joined : (t f e i g a : Bool) → t ≡ true → i ≡ true → (f ≡ (e && a)) → f ≡ ((t && e) && (i && a))
joined t f e i g a p q r = r ∙ sym (ap₂ (λ x y. (x && e) && (y && a)) p q)

stood : (m f t e i a : Bool) → t ≡ m → i ≡ true → (f ≡ (e && a)) → (m && f) ≡ ((t && e) && (i && a))
stood true f t e i a p q r = r ∙ sym (ap₂ (λ x y. (x && e) && (y && a)) p q)
stood false f t e i a p q r = sym (ap (λ x. (x && e) && (i && a)) p)

-- an item of another session, or of none
other : (h : histories.History) (s : ℕ) (above : List Item) (c : end_walk.Course) (x : Item) (items : List Item) → end_walk.is_of_course s x ≡ false
    → session_conditions.is_in_session h s above x ≡ true → session_conditions.is_ending s 0 above items x ≡ true → session_conditions.left_below s 0 above x ≡ 0
    → Runs h s (x ∷ above) c [] items → by_expected h s c x items [] ≡ conditions h s above 0 (x ∷ items)
other h s above c x items o t i l r =
    ap (λ b. if b then end_walk.may_stand h s c x && end_walk.run_course h s (end_walk.course_with c x) items else end_walk.run_course h s c items) o ∙ r
    ∙ sym (ap₂ (λ y z. (y && item_conditions.each_below (session_conditions.is_in_session h s) (x ∷ above) items) && (z && session_conditions.are_ends s (session_conditions.left_below s 0 above x) (x ∷ above) items)) t i
    ∙ ap (λ n. item_conditions.each_below (session_conditions.is_in_session h s) (x ∷ above) items && session_conditions.are_ends s n (x ∷ above) items) l)

-- an item of the session that is no end
stands : (h : histories.History) (s : ℕ) (above : List Item) (c : end_walk.Course) (x : Item) (items : List Item) → end_walk.is_of_course s x ≡ true
    → session_conditions.is_in_session h s above x ≡ end_walk.may_stand h s c x → session_conditions.is_ending s 0 above items x ≡ true → session_conditions.left_below s 0 above x ≡ 0
    → Runs h s (x ∷ above) (end_walk.course_with c x) [] items → by_expected h s c x items [] ≡ conditions h s above 0 (x ∷ items)
stands h s above c x items o t i l r =
    ap (λ b. if b then end_walk.may_stand h s c x && end_walk.run_course h s (end_walk.course_with c x) items else end_walk.run_course h s c items) o
    ∙ stood (end_walk.may_stand h s c x) (end_walk.run_course h s (end_walk.course_with c x) items) (session_conditions.is_in_session h s above x)
    (item_conditions.each_below (session_conditions.is_in_session h s) (x ∷ above) items) (session_conditions.is_ending s 0 above items x)
    (session_conditions.are_ends s (session_conditions.left_below s 0 above x) (x ∷ above) items) t i
    (r ∙ ap (λ n. item_conditions.each_below (session_conditions.is_in_session h s) (x ∷ above) items && session_conditions.are_ends s n (x ∷ above) items) (sym l))

open_now : (s : ℕ) (above : List Item) (c : end_walk.Course) → Describes s above c → session_conditions.is_open_for s above ≡ end_walk.course_is_open c
open_now s above c d = ap₂ (λ a b. a && not b) d.opened d.ended

-- Doubt or Lost where none is expected
undue : (t e a : Bool) → false ≡ ((t && e) && (false && a))
undue true true a = refl
undue true false a = refl
undue false e a = refl

-- an end after which the calls that are left are to be in doubt
expires : (m f t e i a : Bool) → t ≡ m → f ≡ (i && (e && a)) → (m && f) ≡ ((t && e) && (i && a))
expires true f t e true a p r = r ∙ sym (ap (λ x. (x && e) && a) p)
expires true f t true false a p r = r ∙ sym (ap (λ x. (x && true) && false) p)
expires true f t false false a p r = r ∙ sym (ap (λ x. (x && false) && false) p)
expires false f t e i a p r = sym (ap (λ x. (x && e) && (i && a)) p)

-- an end at which none is left
closes : (o n f t e i a : Bool) → t ≡ o → i ≡ n → f ≡ (e && a) → ((o && n) && f) ≡ ((t && e) && (i && a))
closes true true f t e i a p q r = r ∙ sym (ap₂ (λ x y. (x && e) && (y && a)) p q)
closes true false f t true i a p q r = sym (ap₂ (λ x y. (x && true) && (y && a)) p q)
closes true false f t false i a p q r = sym (ap₂ (λ x y. (x && false) && (y && a)) p q)
closes false n f t e i a p q r = sym (ap (λ x. (x && e) && (i && a)) p)

-- a call in doubt that was expected
doubted : (b f d e i a : Bool) → i ≡ true → f ≡ (d && (e && a)) → (b && f) ≡ ((b && d) && (e && (i && a)))
doubted true f d e i a p r = r ∙ sym (ap (λ x. d && (e && (x && a))) p)
doubted false f d e i a p r = refl

some_left : (n : ℕ) → nat_lt 0 (suc n) ≡ true
some_left n = grind (arith, nat_tests)

one_less : (n : ℕ) → suc n - 1 ≡ n
one_less n = omega arith

equal : (a b : ℕ) → nat_eq a b ≡ true → a ≡ b
equal a b e = grind (arith, nat_tests)

first_two : (a b c : Bool) → (a && b && c) ≡ true → (a ≡ true) × (b ≡ true)
first_two true true c e = (refl, refl)
first_two true false c e = absurd (cc)
first_two false b c e = absurd (cc)

-- what holds of the items below
abbrev Below : histories.History → ℕ → List Item → Type 0
Below h s items = (up : List Item) (k : end_walk.Course) (ws : List (ℕ × WindowCall)) → k.expected ≡ map call_of ws → Describes s up k → Runs h s up k ws items

-- a call is expected in doubt
expected_next : (h : histories.History) (s : ℕ) (above : List Item) (c : end_walk.Course) (w : ℕ × WindowCall) (ws : List (ℕ × WindowCall)) (x : Item) (items : List Item) → Describes s above c
    → Below h s items → by_expected h s c x items (map call_of (w ∷ ws)) ≡ (session_conditions.are_doubted s (w ∷ ws) (x ∷ items) && conditions h s above (suc (length ws)) (x ∷ items))
expected_next h s above c w ws x items d below_too = expected x
  where
    k : end_walk.Course
    k = end_walk.with_doubt c (call_of w) (map call_of ws)

    -- the next item is what becomes of the first call
    due : (t n : ℕ) (y : Item) (b : Bool) → b ≡ session_conditions.is_doubted s w y → (session_conditions.is_doubted s w y ≡ true → (nat_eq s t ≡ true) × (nat_eq w.0 n ≡ true))
        → right.is_opened s y ≡ false → outcome_order.is_ended s y ≡ false → transcripts.called_by s y ≡ [] → transcripts.outcome_of s y ≡ (if nat_eq s t then Some n else None)
        → session_conditions.is_in_session h s above y ≡ true
        → session_conditions.is_ending s (suc (length ws)) above items y ≡ (if nat_eq s t then nat_lt 0 (suc (length ws)) else true)
        → session_conditions.left_below s (suc (length ws)) above y ≡ (if nat_eq s t then suc (length ws) - 1 else suc (length ws))
        → (b && end_walk.run_course h s k items) ≡ ((b && session_conditions.are_doubted s ws items) && conditions h s above (suc (length ws)) (y ∷ items))
    due t n y false f g o n2 a u i j l = refl
    due t n y true f g o n2 a u i j l =
        let same = g (sym f) in
        let next_course : Describes s (y ∷ above) k =
        next s y above c k false false [] (Some n) o n2 a (u ∙ ap (λ b. if b then Some n else None) same.0) d refl refl (append-nil c.calls) (ap (λ m. m ∷ c.outcomes) (sym (equal w.0 n same.1))) in
        let ending : session_conditions.is_ending s (suc (length ws)) above items y ≡ true = j ∙ ap (λ b. if b then nat_lt 0 (suc (length ws)) else true) same.0 ∙ some_left (length ws) in
        let left : session_conditions.left_below s (suc (length ws)) above y ≡ length ws = l ∙ ap (λ b. if b then suc (length ws) - 1 else suc (length ws)) same.0 ∙ one_less (length ws) in
        below_too (y ∷ above) k ws refl next_course
        ∙ sym (ap₂ (λ p q. session_conditions.are_doubted s ws items && ((p && item_conditions.each_below (session_conditions.is_in_session h s) (y ∷ above) items)
        && (q && session_conditions.are_ends s (session_conditions.left_below s (suc (length ws)) above y) (y ∷ above) items))) i ending
        ∙ ap (λ m. session_conditions.are_doubted s ws items && (item_conditions.each_below (session_conditions.is_in_session h s) (y ∷ above) items && session_conditions.are_ends s m (y ∷ above) items)) left)

    expected : (y : Item) → (end_walk.is_told_open s (call_of w) y && end_walk.run_course h s k items)
        ≡ ((session_conditions.is_doubted s w y && session_conditions.are_doubted s ws items) && conditions h s above (suc (length ws)) (y ∷ items))
    expected (item.Doubt t n) = due t n (item.Doubt t n) (session_conditions.is_doubted s w (item.Doubt t n)) refl (first_two (nat_eq s t) (nat_eq w.0 n) (transcripts.is_command w.1)) refl refl refl refl refl refl refl
    expected (item.Lost t n) = due t n (item.Lost t n) (session_conditions.is_doubted s w (item.Lost t n)) refl (first_two (nat_eq s t) (nat_eq w.0 n) (not (transcripts.is_command w.1))) refl refl refl refl refl refl refl
    expected y = refl

-- none is expected
free_next : (h : histories.History) (s : ℕ) (above : List Item) (c : end_walk.Course) (x : Item) (items : List Item) → c.expected ≡ [] → Describes s above c → Below h s items
    → by_expected h s c x items [] ≡ conditions h s above 0 (x ∷ items)
free_next h s above c x items e d below_too = free x
  where
    free : (y : Item) → by_expected h s c y items [] ≡ conditions h s above 0 (y ∷ items)
    free (item.Opened t cl) = go (nat_eq s t) refl
      where
        y : Item
        y = item.Opened t cl

        go : (b : Bool) → nat_eq s t ≡ b → by_expected h s c y items [] ≡ conditions h s above 0 (y ∷ items)
        go true f = stands h s above c y items f refl refl refl (below_too (y ∷ above) (end_walk.course_with_opening c) [] e
            (next s y above c (end_walk.course_with_opening c) true false [] None f refl refl refl d refl refl (append-nil c.calls) refl))
        go false f = other h s above c y items f refl refl refl (below_too (y ∷ above) c [] e (quiet s y above c f refl refl refl d))
    free (item.Called t n call) = go (nat_eq s t) refl
      where
        y : Item
        y = item.Called t n call

        go : (b : Bool) → nat_eq s t ≡ b → by_expected h s c y items [] ≡ conditions h s above 0 (y ∷ items)
        go true f = stands h s above c y items f (ap (λ b. if b then session_conditions.is_open_for s above else true) f ∙ open_now s above c d) refl refl
            (below_too (y ∷ above) (end_walk.course_with_call c (n, transcripts.is_command call)) [] e
            (next s y above c (end_walk.course_with_call c (n, transcripts.is_command call)) false false ((n, call) ∷ []) None refl refl (ap (λ b. if b then (n, call) ∷ [] else []) f) refl d refl refl refl refl))
        go false f = other h s above c y items f (ap (λ b. if b then session_conditions.is_open_for s above else true) f) refl refl
            (below_too (y ∷ above) c [] e (quiet s y above c refl refl (ap (λ b. if b then (n, call) ∷ [] else []) f) refl d))
    free (item.Event t p prev es) = go (nat_eq s t) refl
      where
        y : Item
        y = item.Event t p prev es

        go : (b : Bool) → nat_eq s t ≡ b → by_expected h s c y items [] ≡ conditions h s above 0 (y ∷ items)
        go true f = stands h s above c y items f (ap (λ b. if b then session_conditions.is_open_for s above else true) f ∙ open_now s above c d) refl refl
            (below_too (y ∷ above) c [] e (quiet s y above c refl refl refl refl d))
        go false f = other h s above c y items f (ap (λ b. if b then session_conditions.is_open_for s above else true) f) refl refl
            (below_too (y ∷ above) c [] e (quiet s y above c refl refl refl refl d))
    free (item.Reply t n p r) = go (nat_eq s t) refl
      where
        y : Item
        y = item.Reply t n p r

        go : (b : Bool) → nat_eq s t ≡ b → by_expected h s c y items [] ≡ conditions h s above 0 (y ∷ items)
        go true f = stands h s above c y items f (ap (λ b. if b then session_conditions.is_open_for s above else true) f ∙ open_now s above c d) refl refl
            (below_too (y ∷ above) (end_walk.course_with_outcome c n) [] e (answered s n y above c refl refl refl (ap (λ b. if b then Some n else None) f) d))
        go false f = other h s above c y items f (ap (λ b. if b then session_conditions.is_open_for s above else true) f) refl refl
            (below_too (y ∷ above) c [] e (quiet s y above c refl refl refl (ap (λ b. if b then Some n else None) f) d))
    free (item.Read t n l p reach r) = go (nat_eq s t) refl
      where
        y : Item
        y = item.Read t n l p reach r

        go : (b : Bool) → nat_eq s t ≡ b → by_expected h s c y items [] ≡ conditions h s above 0 (y ∷ items)
        go true f = stands h s above c y items f (ap (λ b. if b then session_conditions.is_open_for s above else true) f ∙ open_now s above c d) refl refl
            (below_too (y ∷ above) (end_walk.course_with_outcome c n) [] e (answered s n y above c refl refl refl (ap (λ b. if b then Some n else None) f) d))
        go false f = other h s above c y items f (ap (λ b. if b then session_conditions.is_open_for s above else true) f) refl refl
            (below_too (y ∷ above) c [] e (quiet s y above c refl refl refl (ap (λ b. if b then Some n else None) f) d))
    free (item.Unsent t n) = go (nat_eq s t) refl
      where
        y : Item
        y = item.Unsent t n

        go : (b : Bool) → nat_eq s t ≡ b → by_expected h s c y items [] ≡ conditions h s above 0 (y ∷ items)
        go true f = stands h s above c y items f (ap (λ b. if b then list_any (outcome_order.is_ended s) above else true) f ∙ d.ended) refl refl
            (below_too (y ∷ above) (end_walk.course_with_outcome c n) [] e (answered s n y above c refl refl refl (ap (λ b. if b then Some n else None) f) d))
        go false f = other h s above c y items f (ap (λ b. if b then list_any (outcome_order.is_ended s) above else true) f) refl refl
            (below_too (y ∷ above) c [] e (quiet s y above c refl refl refl (ap (λ b. if b then Some n else None) f) d))
    free (item.Unanswered t n) = go (nat_eq s t) refl
      where
        y : Item
        y = item.Unanswered t n

        go : (b : Bool) → nat_eq s t ≡ b → by_expected h s c y items [] ≡ conditions h s above 0 (y ∷ items)
        go true f = stands h s above c y items f refl refl refl
            (below_too (y ∷ above) (end_walk.course_with_outcome c n) [] e (answered s n y above c refl refl refl (ap (λ b. if b then Some n else None) f) d))
        go false f = other h s above c y items f refl refl refl
            (below_too (y ∷ above) c [] e (quiet s y above c refl refl refl (ap (λ b. if b then Some n else None) f) d))
    free (item.Doubt t n) = go (nat_eq s t) refl
      where
        y : Item
        y = item.Doubt t n

        go : (b : Bool) → nat_eq s t ≡ b → by_expected h s c y items [] ≡ conditions h s above 0 (y ∷ items)
        go true f =
            ap (λ b. if b then false else end_walk.run_course h s c items) f
            ∙ undue true (item_conditions.each_below (session_conditions.is_in_session h s) (y ∷ above) items) (session_conditions.are_ends s (session_conditions.left_below s 0 above y) (y ∷ above) items)
            ∙ sym (ap (λ b. (true && item_conditions.each_below (session_conditions.is_in_session h s) (y ∷ above) items)
            && ((if b then nat_lt 0 0 else true) && session_conditions.are_ends s (session_conditions.left_below s 0 above y) (y ∷ above) items)) f)
        go false f = other h s above c y items f refl (ap (λ b. if b then nat_lt 0 0 else true) f) (ap (λ b. if b then 0 - 1 else 0) f)
            (below_too (y ∷ above) c [] e (quiet s y above c refl refl refl (ap (λ b. if b then Some n else None) f) d))
    free (item.Lost t n) = go (nat_eq s t) refl
      where
        y : Item
        y = item.Lost t n

        go : (b : Bool) → nat_eq s t ≡ b → by_expected h s c y items [] ≡ conditions h s above 0 (y ∷ items)
        go true f =
            ap (λ b. if b then false else end_walk.run_course h s c items) f
            ∙ undue true (item_conditions.each_below (session_conditions.is_in_session h s) (y ∷ above) items) (session_conditions.are_ends s (session_conditions.left_below s 0 above y) (y ∷ above) items)
            ∙ sym (ap (λ b. (true && item_conditions.each_below (session_conditions.is_in_session h s) (y ∷ above) items)
            && ((if b then nat_lt 0 0 else true) && session_conditions.are_ends s (session_conditions.left_below s 0 above y) (y ∷ above) items)) f)
        go false f = other h s above c y items f refl (ap (λ b. if b then nat_lt 0 0 else true) f) (ap (λ b. if b then 0 - 1 else 0) f)
            (below_too (y ∷ above) c [] e (quiet s y above c refl refl refl (ap (λ b. if b then Some n else None) f) d))
    free (item.Ended t p how.Expired) = go (nat_eq s t) refl
      where
        y : Item
        y = item.Ended t p how.Expired

        us : List (ℕ × WindowCall)
        us = session_conditions.open_calls s above

        k : end_walk.Course
        k = end_walk.with_end c (end_walk.calls_left c)

        go : (b : Bool) → nat_eq s t ≡ b → by_expected h s c y items [] ≡ conditions h s above 0 (y ∷ items)
        go true f =
            ap (λ b. if b then end_walk.may_stand h s c y && end_walk.run_course h s k items else end_walk.run_course h s c items) f
            ∙ expires (end_walk.may_stand h s c y) (end_walk.run_course h s k items) (session_conditions.is_in_session h s above y) (item_conditions.each_below (session_conditions.is_in_session h s) (y ∷ above) items)
            (session_conditions.is_ending s 0 above items y) (session_conditions.are_ends s (session_conditions.left_below s 0 above y) (y ∷ above) items)
            (ap (λ b. if b then session_conditions.is_open_for s above && session_conditions.is_end_of s how.Expired (lists.at_place h p) else true) f
            ∙ ap (λ b. b && session_conditions.is_end_of s how.Expired (lists.at_place h p)) (open_now s above c d))
            (below_too (y ∷ above) k us (sym (left_open s above c d)) (next s y above c k false true [] None refl f refl refl d refl refl (append-nil c.calls) refl)
            ∙ sym (ap₂ (λ (b : Bool) (n : ℕ). b && (item_conditions.each_below (session_conditions.is_in_session h s) (y ∷ above) items && session_conditions.are_ends s n (y ∷ above) items))
            (ap (λ b. if b then session_conditions.are_doubted s us items else true) f) (ap (λ b. if b then length us else 0) f)))
        go false f = other h s above c y items f
            (ap (λ b. if b then session_conditions.is_open_for s above && session_conditions.is_end_of s how.Expired (lists.at_place h p) else true) f)
            (ap (λ b. if b then session_conditions.are_doubted s us items else true) f) (ap (λ b. if b then length us else 0) f)
            (below_too (y ∷ above) c [] e (quiet s y above c refl f refl refl d))
    free (item.Ended t p how.Closed) = go (nat_eq s t) refl
      where
        y : Item
        y = item.Ended t p how.Closed

        us : List (ℕ × WindowCall)
        us = session_conditions.open_calls s above

        k : end_walk.Course
        k = end_walk.with_end c []

        go : (b : Bool) → nat_eq s t ≡ b → by_expected h s c y items [] ≡ conditions h s above 0 (y ∷ items)
        go true f =
            ap (λ b. if b then end_walk.may_stand h s c y && end_walk.run_course h s k items else end_walk.run_course h s c items) f
            ∙ closes (end_walk.course_is_open c && session_conditions.is_end_of s how.Closed (lists.at_place h p)) (end_walk.are_no_calls (end_walk.calls_left c)) (end_walk.run_course h s k items)
            (session_conditions.is_in_session h s above y) (item_conditions.each_below (session_conditions.is_in_session h s) (y ∷ above) items)
            (session_conditions.is_ending s 0 above items y) (session_conditions.are_ends s (session_conditions.left_below s 0 above y) (y ∷ above) items)
            (ap (λ b. if b then session_conditions.is_open_for s above && session_conditions.is_end_of s how.Closed (lists.at_place h p) else true) f
            ∙ ap (λ b. b && session_conditions.is_end_of s how.Closed (lists.at_place h p)) (open_now s above c d))
            (ap (λ b. if b then nat_eq (length us) 0 else true) f ∙ none_open us ∙ ap end_walk.are_no_calls (left_open s above c d))
            (below_too (y ∷ above) k [] refl (next s y above c k false true [] None refl f refl refl d refl refl (append-nil c.calls) refl))
        go false f = other h s above c y items f
            (ap (λ b. if b then session_conditions.is_open_for s above && session_conditions.is_end_of s how.Closed (lists.at_place h p) else true) f)
            (ap (λ b. if b then nat_eq (length us) 0 else true) f) refl
            (below_too (y ∷ above) c [] e (quiet s y above c refl f refl refl d))
    free y = other h s above c y items refl refl refl refl (below_too (y ∷ above) c [] e (quiet s y above c refl refl refl refl d))

runs : (h : histories.History) (s : ℕ) (above : List Item) (c : end_walk.Course) (ws : List (ℕ × WindowCall)) (items : List Item) → c.expected ≡ map call_of ws → Describes s above c
    → Runs h s above c ws items
runs h s above c [] [] e d = ap end_walk.are_no_calls e
runs h s above c (w ∷ ws) [] e d = ap end_walk.are_no_calls e
runs h s above c (w ∷ ws) (x ∷ items) e d = ap (by_expected h s c x items) e ∙ expected_next h s above c w ws x items d (λ up k us f g. runs h s up k us items f g)
runs h s above c [] (x ∷ items) e d = ap (by_expected h s c x items) e ∙ free_next h s above c x items e d (λ up k us f g. runs h s up k us items f g)

pub ends_are_walked : laws.EndsAreWalked
ends_are_walked h s items = runs h s [] end_walk.nothing_yet [] items refl (record { opened = refl; ended = refl; calls = refl; outcomes = λ n. refl })
