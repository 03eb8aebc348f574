-- What is known of a session describes the items above.
use Rattle.std.proofs.Common.{◌≡◌, ℕ, zero, suc, ◌+◌, ◌≤◌, ◌<◌, Bool, true, false, cond, not, ◌&&◌, ◌||◌, nat_eq, nat_lt, List, [], ◌∷◌, ◌++◌, Option, Some, None, length, count_by, refl, sym, ap, ap₂, ◌∙◌, arith}
use Rattle.std.specs.Prelude.{if◌then◌else◌}
use Rattle.std.specs.List.{list_any, list_all}
use Rattle.std.proofs.lemmas.Bool.Decides.{nat_tests}
use Rattle.std.proofs.lemmas.List.{length-append}
use Rattle.std.proofs.lemmas.List.Sums.{sum_by-cons}
use Rattle.std.proofs.lemmas.List.Concat.{flat_map-cons}
use Rattle.ax_types.specs.Places as lists
use Rattle.ax_types.specs.declared.ops.WindowCall.{WindowCall}
use Rattle.ax_types.specs.declared.items.Item.{Item}
use Rattle.ax_types.specs.declared.items.Item.TheVariants as item
use Rattle.law_told.proofs.Lists.{at_within, at_end}
use Rattle.spec_claims.specs.Transcript as transcripts
use Rattle.spec_claims.specs.OutcomeOrder as outcome_order
use Rattle.spec_audit.specs.ItemConditions as item_conditions
use Rattle.spec_audit.specs.SessionConditions as session_conditions
use Rattle.law_audit_tables.specs.OutcomeWalk as outcome_walk
use Rattle.law_audit_tables.specs.TablesFound as laws
use Rattle.law_audit_tables.proofs.Lists.{at_past, longer}

record Describes (s : ℕ) (above : List Item) (k : outcome_walk.Known) : Type 0 where
  size : length (transcripts.calls s above) ≡ length k.commands
  commands : (n : ℕ) → list_any (item_conditions.is_command_numbered n) (transcripts.calls s above) ≡ outcome_walk.is_some_command (lists.at_place k.commands n)
  queries : (n : ℕ) → list_any (session_conditions.is_query_numbered n) (transcripts.calls s above) ≡ outcome_walk.is_some_query (lists.at_place k.commands n)
  unsent : count_by (outcome_order.is_unsent s) above ≡ k.unsent
  highest : (n : ℕ) → list_all (λ y. session_conditions.is_below_number n (transcripts.outcome_of s y)) above ≡ outcome_walk.exceeds k.highest n
  left_open : list_any (outcome_order.is_unanswered s) above ≡ k.left_open

-- ---- tests

and_true : (b : Bool) → (b && true) ≡ b
and_true true = refl
and_true false = refl

equal : (a b : ℕ) → nat_eq a b ≡ true → a ≡ b
equal a b e = grind (arith, nat_tests)

first_holds : (a b : Bool) → (a && b) ≡ true → a ≡ true
first_holds true b e = refl
first_holds false b e = absurd (cc)

second_holds : (a b : Bool) → (a && b) ≡ true → b ≡ true
second_holds true b e = e
second_holds false b e = absurd (cc)

-- ---- what one more item adds

calls_next : (s : ℕ) (x : Item) (above : List Item) (cs : List (ℕ × WindowCall)) → transcripts.called_by s x ≡ cs → transcripts.calls s (x ∷ above) ≡ cs ++ transcripts.calls s above
calls_next s x above cs e = flat_map-cons (transcripts.called_by s) x above ∙ ap (λ ds. ds ++ transcripts.calls s above) e

unsent_next : (s : ℕ) (x : Item) (above : List Item) (b : Bool) → outcome_order.is_unsent s x ≡ b
    → count_by (outcome_order.is_unsent s) (x ∷ above) ≡ cond b 1 0 + count_by (outcome_order.is_unsent s) above
unsent_next s x above b e = sum_by-cons (λ y. cond (outcome_order.is_unsent s y) 1 0) x above ∙ ap (λ c. cond c 1 0 + count_by (outcome_order.is_unsent s) above) e

-- with no call
record AddsNoCall (s : ℕ) (above : List Item) (k : outcome_walk.Known) (x : Item) : Type 0 where
  size : length (transcripts.calls s (x ∷ above)) ≡ length k.commands
  commands : (n : ℕ) → list_any (item_conditions.is_command_numbered n) (transcripts.calls s (x ∷ above)) ≡ outcome_walk.is_some_command (lists.at_place k.commands n)
  queries : (n : ℕ) → list_any (session_conditions.is_query_numbered n) (transcripts.calls s (x ∷ above)) ≡ outcome_walk.is_some_query (lists.at_place k.commands n)

no_call : (s : ℕ) (above : List Item) (k : outcome_walk.Known) (x : Item) → Describes s above k → transcripts.called_by s x ≡ [] → AddsNoCall s above k x
no_call s above k x d e =
    let c : transcripts.calls s (x ∷ above) ≡ transcripts.calls s above = calls_next s x above [] e in
    record {
      size = ap (λ cs. length cs) c ∙ d.size;
      commands = λ n. ap (list_any (item_conditions.is_command_numbered n)) c ∙ d.commands n;
      queries = λ n. ap (list_any (session_conditions.is_query_numbered n)) c ∙ d.queries n;
    }

not_unsent : (s : ℕ) (above : List Item) (k : outcome_walk.Known) (x : Item) → Describes s above k → outcome_order.is_unsent s x ≡ false
    → count_by (outcome_order.is_unsent s) (x ∷ above) ≡ k.unsent
not_unsent s above k x d e = let u = unsent_next s x above false e in let v = d.unsent in omega (arith, u, v)

no_outcome : (s : ℕ) (above : List Item) (k : outcome_walk.Known) (x : Item) → Describes s above k → transcripts.outcome_of s x ≡ None
    → (n : ℕ) → list_all (λ y. session_conditions.is_below_number n (transcripts.outcome_of s y)) (x ∷ above) ≡ outcome_walk.exceeds k.highest n
no_outcome s above k x d e n =
    ap (λ o. session_conditions.is_below_number n o && list_all (λ y. session_conditions.is_below_number n (transcripts.outcome_of s y)) above) e ∙ d.highest n

-- the least of two bounds is the one that is above the other
higher : (h : Option ℕ) (m n : ℕ) → outcome_walk.exceeds h m ≡ true → (nat_lt m n && outcome_walk.exceeds h n) ≡ nat_lt m n
higher None m n e = and_true (nat_lt m n)
higher (Some j) m n e = go (nat_lt m n) refl
  where
    go : (b : Bool) → nat_lt m n ≡ b → (b && nat_lt j n) ≡ b
    go true f = grind (arith, nat_tests)
    go false f = refl

one_outcome : (s : ℕ) (above : List Item) (k : outcome_walk.Known) (x : Item) (m : ℕ) → Describes s above k → transcripts.outcome_of s x ≡ Some m → outcome_walk.exceeds k.highest m ≡ true
    → (n : ℕ) → list_all (λ y. session_conditions.is_below_number n (transcripts.outcome_of s y)) (x ∷ above) ≡ nat_lt m n
one_outcome s above k x m d e h n =
    ap₂ (λ (o : Option ℕ) (b : Bool). session_conditions.is_below_number n o && b) e (d.highest n) ∙ higher k.highest m n h

still_open : (s : ℕ) (above : List Item) (k : outcome_walk.Known) (x : Item) → Describes s above k → outcome_order.is_unanswered s x ≡ false
    → list_any (outcome_order.is_unanswered s) (x ∷ above) ≡ k.left_open
still_open s above k x d e = ap (λ b. b || list_any (outcome_order.is_unanswered s) above) e ∙ d.left_open

-- an item of another session, or that is neither a call nor an outcome
quiet : (s : ℕ) (above : List Item) (k : outcome_walk.Known) (x : Item) → Describes s above k → transcripts.called_by s x ≡ [] → outcome_order.is_unsent s x ≡ false
    → transcripts.outcome_of s x ≡ None → outcome_order.is_unanswered s x ≡ false → Describes s (x ∷ above) k
quiet s above k x d c u o l =
    let n = no_call s above k x d c in
    record {
      size = n.size;
      commands = n.commands;
      queries = n.queries;
      unsent = not_unsent s above k x d u;
      highest = no_outcome s above k x d o;
      left_open = still_open s above k x d l;
    }

-- an outcome of a call that was sent
outcome : (s : ℕ) (above : List Item) (k : outcome_walk.Known) (x : Item) (m : ℕ) → Describes s above k → transcripts.called_by s x ≡ [] → outcome_order.is_unsent s x ≡ false
    → transcripts.outcome_of s x ≡ Some m → outcome_order.is_unanswered s x ≡ false → outcome_walk.exceeds k.highest m ≡ true → Describes s (x ∷ above) (outcome_walk.known_with_outcome k m)
outcome s above k x m d c u o l h =
    let n = no_call s above k x d c in
    record {
      size = n.size;
      commands = n.commands;
      queries = n.queries;
      unsent = not_unsent s above k x d u;
      highest = one_outcome s above k x m d o h;
      left_open = still_open s above k x d l;
    }

-- ---- a call

-- the new call stands at the next place
found_last : (bs : List Bool) (b : Bool) (test : Option Bool → Bool) (n : ℕ) → test None ≡ false
    → test (lists.at_place (bs ++ b ∷ []) n) ≡ (nat_eq n (length bs + 1) && test (Some b) || test (lists.at_place bs n))
found_last bs b test n none = go (nat_eq n (length bs + 1)) refl (nat_lt n (length bs + 1)) refl
  where
    go : (c : Bool) → nat_eq n (length bs + 1) ≡ c → (e : Bool) → nat_lt n (length bs + 1) ≡ e → test (lists.at_place (bs ++ b ∷ []) n) ≡ (c && test (Some b) || test (lists.at_place bs n))
    go true f e g =
        let last : n ≡ suc (length bs) = (let i = equal n (length bs + 1) f in omega (arith, i)) in
        ap (λ p. test (lists.at_place (bs ++ b ∷ []) p)) last ∙ ap test (at_end bs b [])
        ∙ sym (ap (λ o. test (Some b) || test o) (at_past bs n (omega (arith, last))) ∙ ap (λ o. test (Some b) || o) none ∙ or_false (test (Some b)))
      where
        or_false : (x : Bool) → (x || false) ≡ x
        or_false true = refl
        or_false false = refl
    go false f true g = ap test (at_within bs (b ∷ []) n (grind (arith, nat_tests)))
    go false f false g =
        let past : length (bs ++ b ∷ []) < n = (let i = longer bs b in let j : length bs + 1 < n = grind (arith, nat_tests) in omega (arith, i, j)) in
        ap test (at_past (bs ++ b ∷ []) n past) ∙ sym (ap test (at_past bs n (omega (arith, past, longer bs b))))

called : (s : ℕ) (above : List Item) (k : outcome_walk.Known) (t m : ℕ) (c : WindowCall) → Describes s above k → nat_eq s t ≡ true → nat_eq m (length k.commands + 1) ≡ true
    → Describes s (item.Called t m c ∷ above) (outcome_walk.known_with k (item.Called t m c))
called s above k t m c d e f =
    let x : Item = item.Called t m c in
    let cs : transcripts.calls s (x ∷ above) ≡ (m, c) ∷ transcripts.calls s above = calls_next s x above ((m, c) ∷ []) (ap (λ b. if b then (m, c) ∷ [] else []) e) in
    let is : m ≡ length k.commands + 1 = equal m (length k.commands + 1) f in
    record {
      size = ap (λ ds. length ds) cs ∙ ap (λ n. suc n) d.size ∙ sym (longer k.commands (transcripts.is_command c));
      commands = λ n. ap (list_any (item_conditions.is_command_numbered n)) cs
          ∙ ap₂ (λ (p : ℕ) (b : Bool). nat_eq n p && transcripts.is_command c || b) is (d.commands n)
          ∙ sym (found_last k.commands (transcripts.is_command c) outcome_walk.is_some_command n refl);
      queries = λ n. ap (list_any (session_conditions.is_query_numbered n)) cs
          ∙ ap₂ (λ (p : ℕ) (b : Bool). nat_eq n p && not (transcripts.is_command c) || b) is (d.queries n)
          ∙ sym (found_last k.commands (transcripts.is_command c) outcome_walk.is_some_query n refl);
      unsent = not_unsent s above k x d refl;
      highest = no_outcome s above k x d refl;
      left_open = still_open s above k x d refl;
    }

unsent : (s : ℕ) (above : List Item) (k : outcome_walk.Known) (t m : ℕ) → Describes s above k → nat_eq s t ≡ true → outcome_walk.exceeds k.highest m ≡ true
    → Describes s (item.Unsent t m ∷ above) (outcome_walk.known_with k (item.Unsent t m))
unsent s above k t m d e h =
    let x : Item = item.Unsent t m in
    let n = no_call s above k x d refl in
    record {
      size = n.size;
      commands = n.commands;
      queries = n.queries;
      unsent = let u = unsent_next s x above true e in let v = d.unsent in omega (arith, u, v);
      highest = one_outcome s above k x m d (ap (λ b. if b then Some m else None) e) h;
      left_open = still_open s above k x d refl;
    }

unanswered : (s : ℕ) (above : List Item) (k : outcome_walk.Known) (t m : ℕ) → Describes s above k → nat_eq s t ≡ true → outcome_walk.exceeds k.highest m ≡ true
    → Describes s (item.Unanswered t m ∷ above) (outcome_walk.known_with k (item.Unanswered t m))
unanswered s above k t m d e h =
    let x : Item = item.Unanswered t m in
    let n = no_call s above k x d refl in
    record {
      size = n.size;
      commands = n.commands;
      queries = n.queries;
      unsent = not_unsent s above k x d refl;
      highest = one_outcome s above k x m d (ap (λ b. if b then Some m else None) e) h;
      left_open = ap (λ b. b || list_any (outcome_order.is_unanswered s) above) e;
    }

-- ---- the test of one item

abbrev rises : ℕ → List Item → Option ℕ → Bool
rises s above None = true
rises s above (Some n) = list_all (λ y. session_conditions.is_below_number n (transcripts.outcome_of s y)) above

-- of an own outcome
own_outcome : (s t n : ℕ) (above : List Item) (k : outcome_walk.Known) → Describes s above k → nat_eq s t ≡ true → rises s above (if nat_eq s t then Some n else None) ≡ outcome_walk.exceeds k.highest n
own_outcome s t n above k d e = ap (λ b. rises s above (if b then Some n else None)) e ∙ d.highest n

none_open : (s : ℕ) (above : List Item) (k : outcome_walk.Known) → Describes s above k → session_conditions.none_left_open s above ≡ not k.left_open
none_open s above k d = ap not d.left_open

same_test : (s : ℕ) (above : List Item) (k : outcome_walk.Known) (x : Item) → Describes s above k → outcome_walk.is_of_calls s x ≡ true → session_conditions.is_in_order s above x ≡ outcome_walk.may_follow k x
same_test s above k (item.Called t n c) d e =
    and_true (session_conditions.is_numbered s above (item.Called t n c) && true) ∙ and_true (session_conditions.is_numbered s above (item.Called t n c))
    ∙ ap (λ b. if b then nat_eq n (length (transcripts.calls s above) + 1) && nat_eq (count_by (outcome_order.is_unsent s) above) 0 else true) e
    ∙ ap₂ (λ (l u : ℕ). nat_eq n (l + 1) && nat_eq u 0) d.size d.unsent
same_test s above k (item.Unsent t n) d e =
    ap₂ (λ (a b : Bool). a && b)
    (ap₂ (λ (a b : Bool). a && b)
    (ap (λ b. if b then nat_eq n (length (transcripts.calls s above) + count_by (outcome_order.is_unsent s) above + 1) else true) e ∙ ap₂ (λ (l u : ℕ). nat_eq n (l + u + 1)) d.size d.unsent)
    (own_outcome s t n above k d e))
    (ap (λ b. if b then session_conditions.none_left_open s above else true) e ∙ none_open s above k d)
same_test s above k (item.Reply t n p r) d e =
    ap₂ (λ (a b : Bool). a && b) (own_outcome s t n above k d e)
    (ap (λ b. if b then list_any (item_conditions.is_command_numbered n) (transcripts.calls s above) && session_conditions.none_left_open s above else true) e
    ∙ ap₂ (λ (a b : Bool). a && b) (d.commands n) (none_open s above k d))
same_test s above k (item.Read t n l p reach r) d e =
    ap₂ (λ (a b : Bool). a && b) (own_outcome s t n above k d e)
    (ap (λ b. if b then list_any (session_conditions.is_query_numbered n) (transcripts.calls s above) && session_conditions.none_left_open s above else true) e
    ∙ ap₂ (λ (a b : Bool). a && b) (d.queries n) (none_open s above k d))
same_test s above k (item.Doubt t n) d e =
    ap₂ (λ (a b : Bool). a && b) (own_outcome s t n above k d e) (ap (λ b. if b then session_conditions.none_left_open s above else true) e ∙ none_open s above k d)
same_test s above k (item.Lost t n) d e =
    ap₂ (λ (a b : Bool). a && b) (own_outcome s t n above k d e) (ap (λ b. if b then session_conditions.none_left_open s above else true) e ∙ none_open s above k d)
same_test s above k (item.Unanswered t n) d e = and_true (session_conditions.is_rising s above (item.Unanswered t n)) ∙ own_outcome s t n above k d e
same_test s above k (item.Leader j t) d e = absurd (cc)
same_test s above k (item.Commit p) d e = absurd (cc)
same_test s above k (item.Reach j t a r m) d e = absurd (cc)
same_test s above k (item.Halted j) d e = absurd (cc)
same_test s above k (item.Opened r c) d e = absurd (cc)
same_test s above k (item.Event r p prev es) d e = absurd (cc)
same_test s above k (item.Watched c kind r p v) d e = absurd (cc)
same_test s above k (item.Ended r p way) d e = absurd (cc)
same_test s above k (item.Listed count) d e = absurd (cc)
same_test s above k (item.Pending m from to kind) d e = absurd (cc)
same_test s above k (item.Skip reason) d e = absurd (cc)

-- an own item that follows
own_next : (s : ℕ) (above : List Item) (k : outcome_walk.Known) (x : Item) → Describes s above k → outcome_walk.is_of_calls s x ≡ true → outcome_walk.may_follow k x ≡ true
    → Describes s (x ∷ above) (outcome_walk.known_with k x)
own_next s above k (item.Called t n c) d e f = called s above k t n c d e (first_holds (nat_eq n (length k.commands + 1)) (nat_eq k.unsent 0) f)
own_next s above k (item.Unsent t n) d e f =
    unsent s above k t n d e (second_holds (nat_eq n (length k.commands + k.unsent + 1)) (outcome_walk.exceeds k.highest n) (first_holds _ (not k.left_open) f))
own_next s above k (item.Reply t n p r) d e f =
    outcome s above k (item.Reply t n p r) n d refl refl (ap (λ b. if b then Some n else None) e) refl (first_holds (outcome_walk.exceeds k.highest n) _ f)
own_next s above k (item.Read t n l p reach r) d e f =
    outcome s above k (item.Read t n l p reach r) n d refl refl (ap (λ b. if b then Some n else None) e) refl (first_holds (outcome_walk.exceeds k.highest n) _ f)
own_next s above k (item.Doubt t n) d e f =
    outcome s above k (item.Doubt t n) n d refl refl (ap (λ b. if b then Some n else None) e) refl (first_holds (outcome_walk.exceeds k.highest n) _ f)
own_next s above k (item.Lost t n) d e f =
    outcome s above k (item.Lost t n) n d refl refl (ap (λ b. if b then Some n else None) e) refl (first_holds (outcome_walk.exceeds k.highest n) _ f)
own_next s above k (item.Unanswered t n) d e f = unanswered s above k t n d e f
own_next s above k (item.Leader j t) d e f = absurd (cc)
own_next s above k (item.Commit p) d e f = absurd (cc)
own_next s above k (item.Reach j t a r m) d e f = absurd (cc)
own_next s above k (item.Halted j) d e f = absurd (cc)
own_next s above k (item.Opened r c) d e f = absurd (cc)
own_next s above k (item.Event r p prev es) d e f = absurd (cc)
own_next s above k (item.Watched c kind r p v) d e f = absurd (cc)
own_next s above k (item.Ended r p way) d e f = absurd (cc)
own_next s above k (item.Listed count) d e f = absurd (cc)
own_next s above k (item.Pending m from to kind) d e f = absurd (cc)
own_next s above k (item.Skip reason) d e f = absurd (cc)

-- another item: nothing is asked of it, and nothing is known by it
record Other (s : ℕ) (above : List Item) (k : outcome_walk.Known) (x : Item) : Type 0 where
  test : session_conditions.is_in_order s above x ≡ true
  next : Describes s (x ∷ above) k

other : (s : ℕ) (above : List Item) (k : outcome_walk.Known) (x : Item) → Describes s above k → outcome_walk.is_of_calls s x ≡ false → Other s above k x
other s above k (item.Called t n c) d e = record {
  test = ap (λ b. (if b then nat_eq n (length (transcripts.calls s above) + 1) && nat_eq (count_by (outcome_order.is_unsent s) above) 0 else true) && true && true) e;
  next = quiet s above k (item.Called t n c) d (ap (λ b. if b then (n, c) ∷ [] else []) e) refl refl refl;
}
other s above k (item.Unsent t n) d e = record {
  test = ap (λ b. (if b then nat_eq n (length (transcripts.calls s above) + count_by (outcome_order.is_unsent s) above + 1) else true)
      && rises s above (if b then Some n else None) && (if b then session_conditions.none_left_open s above else true)) e;
  next = quiet s above k (item.Unsent t n) d refl e (ap (λ b. if b then Some n else None) e) refl;
}
other s above k (item.Reply t n p r) d e = record {
  test = ap (λ b. rises s above (if b then Some n else None)
      && (if b then list_any (item_conditions.is_command_numbered n) (transcripts.calls s above) && session_conditions.none_left_open s above else true)) e;
  next = quiet s above k (item.Reply t n p r) d refl refl (ap (λ b. if b then Some n else None) e) refl;
}
other s above k (item.Read t n l p reach r) d e = record {
  test = ap (λ b. rises s above (if b then Some n else None)
      && (if b then list_any (session_conditions.is_query_numbered n) (transcripts.calls s above) && session_conditions.none_left_open s above else true)) e;
  next = quiet s above k (item.Read t n l p reach r) d refl refl (ap (λ b. if b then Some n else None) e) refl;
}
other s above k (item.Doubt t n) d e = record {
  test = ap (λ b. rises s above (if b then Some n else None) && (if b then session_conditions.none_left_open s above else true)) e;
  next = quiet s above k (item.Doubt t n) d refl refl (ap (λ b. if b then Some n else None) e) refl;
}
other s above k (item.Lost t n) d e = record {
  test = ap (λ b. rises s above (if b then Some n else None) && (if b then session_conditions.none_left_open s above else true)) e;
  next = quiet s above k (item.Lost t n) d refl refl (ap (λ b. if b then Some n else None) e) refl;
}
other s above k (item.Unanswered t n) d e = record {
  test = ap (λ b. rises s above (if b then Some n else None) && true) e;
  next = quiet s above k (item.Unanswered t n) d refl refl (ap (λ b. if b then Some n else None) e) e;
}
other s above k (item.Leader j t) d e = record { test = refl; next = quiet s above k (item.Leader j t) d refl refl refl refl }
other s above k (item.Commit p) d e = record { test = refl; next = quiet s above k (item.Commit p) d refl refl refl refl }
other s above k (item.Reach j t a r m) d e = record { test = refl; next = quiet s above k (item.Reach j t a r m) d refl refl refl refl }
other s above k (item.Halted j) d e = record { test = refl; next = quiet s above k (item.Halted j) d refl refl refl refl }
other s above k (item.Opened r c) d e = record { test = refl; next = quiet s above k (item.Opened r c) d refl refl refl refl }
other s above k (item.Event r p prev es) d e = record { test = refl; next = quiet s above k (item.Event r p prev es) d refl refl refl refl }
other s above k (item.Watched c kind r p v) d e = record { test = refl; next = quiet s above k (item.Watched c kind r p v) d refl refl refl refl }
other s above k (item.Ended r p way) d e = record { test = refl; next = quiet s above k (item.Ended r p way) d refl refl refl refl }
other s above k (item.Listed count) d e = record { test = refl; next = quiet s above k (item.Listed count) d refl refl refl refl }
other s above k (item.Pending m from to kind) d e = record { test = refl; next = quiet s above k (item.Pending m from to kind) d refl refl refl refl }
other s above k (item.Skip reason) d e = record { test = refl; next = quiet s above k (item.Skip reason) d refl refl refl refl }

-- ---- all items

behind_test : (t d e : Bool) → (t ≡ true → d ≡ e) → (t && d) ≡ (t && e)
behind_test true d e k = k refl
behind_test false d e k = refl

abbrev in_order : ℕ → List Item → List Item → Bool
in_order s above items = item_conditions.each_below (session_conditions.is_in_order s) above items

one_item : (s : ℕ) (above : List Item) (k : outcome_walk.Known) (x : Item) (items : List Item) → Describes s above k
    → ((j : outcome_walk.Known) → Describes s (x ∷ above) j → outcome_walk.are_in_order s j items ≡ in_order s (x ∷ above) items) → (b : Bool) → outcome_walk.is_of_calls s x ≡ b
    → (if b then outcome_walk.may_follow k x && outcome_walk.are_in_order s (outcome_walk.known_with k x) items else outcome_walk.are_in_order s k items)
    ≡ (session_conditions.is_in_order s above x && in_order s (x ∷ above) items)
one_item s above k x items d next true e =
    behind_test (outcome_walk.may_follow k x) (outcome_walk.are_in_order s (outcome_walk.known_with k x) items) (in_order s (x ∷ above) items)
    (λ f. next (outcome_walk.known_with k x) (own_next s above k x d e f))
    ∙ ap (λ b. b && in_order s (x ∷ above) items) (sym (same_test s above k x d e))
one_item s above k x items d next false e =
    let o = other s above k x d e in
    next k o.next ∙ ap (λ b. b && in_order s (x ∷ above) items) (sym o.test)

in_order_from : (s : ℕ) (above : List Item) (k : outcome_walk.Known) (items : List Item) → Describes s above k → outcome_walk.are_in_order s k items ≡ in_order s above items
in_order_from s above k [] d = refl
in_order_from s above k (x ∷ items) d = one_item s above k x items d (λ j f. in_order_from s (x ∷ above) j items f) (outcome_walk.is_of_calls s x) refl

pub outcomes_are_walked : laws.OutcomesAreWalked
outcomes_are_walked s items = in_order_from s [] outcome_walk.nothing_known items (record {
  size = refl;
  commands = λ n. none n;
  queries = λ n. none_asked n;
  unsent = refl;
  highest = λ n. refl;
  left_open = refl;
})
  where
    none : (n : ℕ) → false ≡ outcome_walk.is_some_command (lists.at_place [] n)
    none zero = refl
    none (suc n) = refl

    none_asked : (n : ℕ) → false ≡ outcome_walk.is_some_query (lists.at_place [] n)
    none_asked zero = refl
    none_asked (suc n) = refl
