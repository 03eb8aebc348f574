-- The batches that are left describe what is heard above.
use Rattle.std.proofs.Common.{◌≡◌, ℕ, zero, suc, ◌+◌, ◌≤◌, ◌<◌, Bool, true, false, ◌&&◌, ◌||◌, nat_eq, nat_lt, nat_le, List, [], ◌∷◌, ◌++◌, refl, sym, ap, ap₂, ◌∙◌, subst, arith, append_assoc}
use Rattle.std.specs.Prelude.{if◌then◌else◌}
use Rattle.std.specs.List.{AllByRecursion, list_any, list_all}
use Rattle.std.proofs.lemmas.Bool.Decides.{nat_tests}
use Rattle.std.proofs.lemmas.List.Concat.{flat_map-cons}
use Rattle.ax_types.specs.declared.replies.Event.{Event}
use Rattle.ax_types.specs.declared.replies.Event.TheVariants as event
use Rattle.ax_types.specs.declared.items.Item.{Item}
use Rattle.ax_types.specs.declared.items.Item.TheVariants as item
use Rattle.law_told.specs.ToldEvents as told_events
use Rattle.law_told.proofs.Chain.{events_chain}
use Rattle.law_told.proofs.Lists.{all_since, all_append}
use Rattle.spec_book.specs.History as histories
use Rattle.spec_claims.specs.Heard as heard
use Rattle.spec_audit.specs.SameValues as same_values
use Rattle.spec_audit.specs.ItemConditions as item_conditions
use Rattle.spec_audit.specs.SessionConditions as session_conditions
use Rattle.law_audit_tables.specs.HeardWalk as heard_walk
use Rattle.law_audit_tables.specs.TablesFound as laws

-- ---- the same either way round

number_either : (a b : ℕ) → nat_eq a b ≡ nat_eq b a
number_either a b = go (nat_eq a b) refl
  where
    go : (c : Bool) → nat_eq a b ≡ c → c ≡ nat_eq b a
    go true e = grind (arith, nat_tests)
    go false e = grind (arith, nat_tests)

either : {A : Type 0} (same : A → A → Bool) → ((x y : A) → same x y ≡ same y x) → (xs ys : List A) → same_values.are_same same xs ys ≡ same_values.are_same same ys xs
either same h [] [] = refl
either same h [] (y ∷ ys) = refl
either same h (x ∷ xs) [] = refl
either same h (x ∷ xs) (y ∷ ys) = ap₂ (λ a b. a && b) (h x y) (either same h xs ys)

text_either : (t u : List ℕ) → same_values.is_same_text t u ≡ same_values.is_same_text u t
text_either t u = either nat_eq number_either t u

event_either : (a b : Event) → same_values.is_same_event a b ≡ same_values.is_same_event b a
event_either (event.Changed n k t) (event.Changed m l u) = ap₂ (λ a b. a && b) (ap₂ (λ a b. a && b) (text_either n m) (text_either k l)) (text_either t u)
event_either (event.Removed n k) (event.Removed m l) = ap₂ (λ a b. a && b) (text_either n m) (text_either k l)
event_either (event.Set n t) (event.Set m u) = ap₂ (λ a b. a && b) (text_either n m) (text_either t u)
event_either (event.Cleared n) (event.Cleared m) = text_either n m
event_either (event.Granted n f) (event.Granted m g) = ap₂ (λ a b. a && b) (text_either n m) (number_either f g)
event_either (event.Joined n s) (event.Joined m t) = ap₂ (λ a b. a && b) (text_either n m) (number_either s t)
event_either (event.Left n s) (event.Left m t) = ap₂ (λ a b. a && b) (text_either n m) (number_either s t)
event_either (event.Elected n s f) (event.Elected m t g) = ap₂ (λ a b. a && b) (ap₂ (λ a b. a && b) (text_either n m) (number_either s t)) (number_either f g)
event_either (event.Message n t) (event.Message m u) = ap₂ (λ a b. a && b) (text_either n m) (text_either t u)
event_either _ _ = refl

heard_either : (a b : histories.Heard) → same_values.is_same_heard a b ≡ same_values.is_same_heard b a
heard_either a b =
    ap₂ (λ x y. x && y) (ap₂ (λ x y. x && y) (number_either a.place b.place) (number_either a.prev b.prev)) (either same_values.is_same_event event_either a.events b.events)

same_place : (a b : histories.Heard) → same_values.is_same_heard a b ≡ true → a.place ≡ b.place
same_place a b e = go (nat_eq a.place b.place) refl e
  where
    go : (c : Bool) → nat_eq a.place b.place ≡ c → (c && nat_eq a.prev b.prev && same_values.are_same same_values.is_same_event a.events b.events) ≡ true → a.place ≡ b.place
    go true f g = grind (arith, nat_tests)
    go false f g = absurd (cc)

other_place : (a b : histories.Heard) → b.place < a.place → same_values.is_same_heard a b ≡ false
other_place a b l =
    let f : nat_eq a.place b.place ≡ false = grind (arith, nat_tests) in
    ap (λ c. c && nat_eq a.prev b.prev && same_values.are_same same_values.is_same_event a.events b.events) f

-- ---- places rise

abbrev AllBeyond : ℕ → List histories.Heard → Type 0
AllBeyond n es = AllByRecursion (λ e. n < e.place) es

abbrev Rise : List histories.Heard → Type 0
Rise [] = Unit {0}
Rise (e ∷ es) = AllBeyond e.place es × Rise es

beyond_less : (m n : ℕ) (es : List histories.Heard) → m ≤ n → AllBeyond n es → AllBeyond m es
beyond_less m n es l a = all_since (λ e. n < e.place) (λ e. m < e.place) (λ e k. omega (arith, l, k)) es a

chain_rises : (prev : ℕ) (es : List histories.Heard) → told_events.IsChain prev es → AllBeyond prev es × Rise es
chain_rises prev [] c = (tt, tt)
chain_rises prev (e ∷ es) c =
    let r = chain_rises e.place es c.2 in
    let l : prev < e.place = c.1 in
    ((l, beyond_less prev e.place es (omega (arith, l)) r.0), r)

tail_rises : (xs : List histories.Heard) (e : histories.Heard) (es : List histories.Heard) → Rise (xs ++ e ∷ es) → AllBeyond e.place es
tail_rises [] e es r = r.0
tail_rises (x ∷ xs) e es r = tail_rises xs e es r.1

-- ---- what is heard above

-- what comes before the batches that are left was heard, and those were not
record Stands (h : histories.History) (s : ℕ) (above : List Item) (done rest : List histories.Heard) : Type 0 where
  split : histories.events h s ≡ done ++ rest
  told : AllByRecursion (λ e. session_conditions.is_heard_in above s e ≡ true) done
  left : AllByRecursion (λ e. session_conditions.is_heard_in above s e ≡ false) rest

abbrev is_told_upto : ℕ → List Item → ℕ → histories.Heard → Bool
is_told_upto s above p e = if nat_le e.place p then session_conditions.is_heard_in above s e else true

told_all : (s p : ℕ) (above : List Item) (done rest : List histories.Heard) → AllByRecursion (λ e. session_conditions.is_heard_in above s e ≡ true) done
    → list_all (is_told_upto s above p) (done ++ rest) ≡ list_all (is_told_upto s above p) rest
told_all s p above [] rest a = refl
told_all s p above (e ∷ done) rest a = ap (λ b. b && list_all (is_told_upto s above p) (done ++ rest)) (one (nat_le e.place p) a.0) ∙ told_all s p above done rest a.1
  where
    one : (b : Bool) → session_conditions.is_heard_in above s e ≡ true → (if b then session_conditions.is_heard_in above s e else true) ≡ true
    one true f = f
    one false f = refl

far_all : (s p : ℕ) (above : List Item) (rest : List histories.Heard) → AllBeyond p rest → list_all (is_told_upto s above p) rest ≡ true
far_all s p above [] a = refl
far_all s p above (e ∷ rest) a =
    let l : p < e.place = a.0 in
    let f : nat_le e.place p ≡ false = grind (arith, nat_tests) in
    ap₂ (λ b c. (if b then session_conditions.is_heard_in above s e else true) && c) f (far_all s p above rest a.1)

heard_upto : (h : histories.History) (s p : ℕ) (above : List Item) (done rest : List histories.Heard) → Stands h s above done rest
    → session_conditions.are_heard_upto h s p above ≡ heard_walk.none_upto p rest
heard_upto h s p above done rest k = ap (list_all (is_told_upto s above p)) k.split ∙ told_all s p above done rest k.told ∙ left rest k.left rises
  where
    rises : Rise (done ++ rest)
    rises = subst Rise k.split (chain_rises 0 (histories.events h s) (events_chain h s).chain).1

    left : (es : List histories.Heard) → AllByRecursion (λ e. session_conditions.is_heard_in above s e ≡ false) es → Rise (done ++ es) → list_all (is_told_upto s above p) es ≡ heard_walk.none_upto p es
    left [] a r = refl
    left (e ∷ es) a r = go (nat_lt p e.place) refl
      where
        go : (b : Bool) → nat_lt p e.place ≡ b → list_all (is_told_upto s above p) (e ∷ es) ≡ b
        go true f = let l : p < e.place = grind (arith, nat_tests) in far_all s p above (e ∷ es) (l, beyond_less p e.place es (omega (arith, l)) (tail_rises done e es r))
        go false f =
            let i : nat_le e.place p ≡ true = grind (arith, nat_tests) in
            ap (λ b. (if b then session_conditions.is_heard_in above s e else true) && list_all (is_told_upto s above p) es) i ∙ ap (λ b. b && list_all (is_told_upto s above p) es) a.0

-- ---- what an item is to the walk

record IsNothing (h : histories.History) (s : ℕ) (x : Item) : Type 0 where
  walk : (rest : List histories.Heard) (items : List Item) → heard_walk.hears s rest (x ∷ items) ≡ heard_walk.hears s rest items
  heard : heard.heard_by s x ≡ []
  test : (above : List Item) → session_conditions.is_after_events h s above x ≡ true

record IsBatch (h : histories.History) (s : ℕ) (x : Item) (e : histories.Heard) : Type 0 where
  walk : (rest : List histories.Heard) (items : List Item) → heard_walk.hears s rest (x ∷ items) ≡ (heard_walk.is_next e rest && heard_walk.hears s (heard_walk.behind_next rest) items)
  heard : heard.heard_by s x ≡ e ∷ []
  test : (above : List Item) → session_conditions.is_after_events h s above x ≡ true

record IsResponse (h : histories.History) (s : ℕ) (x : Item) (p : ℕ) : Type 0 where
  walk : (rest : List histories.Heard) (items : List Item) → heard_walk.hears s rest (x ∷ items) ≡ (heard_walk.none_upto p rest && heard_walk.hears s rest items)
  heard : heard.heard_by s x ≡ []
  test : (above : List Item) → session_conditions.is_after_events h s above x ≡ session_conditions.are_heard_upto h s p above

data Shows (h : histories.History) (s : ℕ) (x : Item) : Type 0 where
  batch : (e : histories.Heard) → IsBatch h s x e → Shows h s x
  response : (p : ℕ) → IsResponse h s x p → Shows h s x
  nothing : IsNothing h s x → Shows h s x

shows_event : (h : histories.History) (s t p prev : ℕ) (es : List Event) (b : Bool) → nat_eq s t ≡ b → Shows h s (item.Event t p prev es)
shows_event h s t p prev es true f =
    let e : histories.Heard = record { place = p; prev = prev; events = es } in
    batch e (record {
      walk = λ rest items. ap (λ b. if b then heard_walk.is_next e rest && heard_walk.hears s (heard_walk.behind_next rest) items else heard_walk.hears s rest items) f;
      heard = ap (λ b. if b then e ∷ [] else []) f;
      test = λ above. refl;
    })
shows_event h s t p prev es false f =
    let e : histories.Heard = record { place = p; prev = prev; events = es } in
    nothing (record {
      walk = λ rest items. ap (λ b. if b then heard_walk.is_next e rest && heard_walk.hears s (heard_walk.behind_next rest) items else heard_walk.hears s rest items) f;
      heard = ap (λ b. if b then e ∷ [] else []) f;
      test = λ above. refl;
    })

shows : (h : histories.History) (s : ℕ) (x : Item) → Shows h s x
shows h s (item.Event t p prev es) = shows_event h s t p prev es (nat_eq s t) refl
shows h s (item.Reply t n p r) = go (nat_eq s t) refl
  where
    go : (b : Bool) → nat_eq s t ≡ b → Shows h s (item.Reply t n p r)
    go true f = response p (record {
      walk = λ rest items. ap (λ b. if b then heard_walk.none_upto p rest && heard_walk.hears s rest items else heard_walk.hears s rest items) f;
      heard = refl;
      test = λ above. ap (λ b. if b then session_conditions.are_heard_upto h s p above else true) f;
    })
    go false f = nothing (record {
      walk = λ rest items. ap (λ b. if b then heard_walk.none_upto p rest && heard_walk.hears s rest items else heard_walk.hears s rest items) f;
      heard = refl;
      test = λ above. ap (λ b. if b then session_conditions.are_heard_upto h s p above else true) f;
    })
shows h s (item.Read t n l p reach r) = go (nat_eq s t) refl
  where
    go : (b : Bool) → nat_eq s t ≡ b → Shows h s (item.Read t n l p reach r)
    go true f = response p (record {
      walk = λ rest items. ap (λ b. if b then heard_walk.none_upto p rest && heard_walk.hears s rest items else heard_walk.hears s rest items) f;
      heard = refl;
      test = λ above. ap (λ b. if b then session_conditions.are_heard_upto h s p above else true) f;
    })
    go false f = nothing (record {
      walk = λ rest items. ap (λ b. if b then heard_walk.none_upto p rest && heard_walk.hears s rest items else heard_walk.hears s rest items) f;
      heard = refl;
      test = λ above. ap (λ b. if b then session_conditions.are_heard_upto h s p above else true) f;
    })
shows h s _ = nothing (record { walk = λ rest items. refl; heard = refl; test = λ above. refl })

-- ---- all items

heard_next : (s : ℕ) (x : Item) (items : List Item) (es : List histories.Heard) → heard.heard_by s x ≡ es → heard.heard s (x ∷ items) ≡ es ++ heard.heard s items
heard_next s x items es e = flat_map-cons (heard.heard_by s) x items ∙ ap (λ fs. fs ++ heard.heard s items) e

still : (h : histories.History) (s : ℕ) (x : Item) (above : List Item) (done rest : List histories.Heard) → heard.heard_by s x ≡ [] → Stands h s above done rest → Stands h s (x ∷ above) done rest
still h s x above done rest e k = record {
  split = k.split;
  told = all_since (λ f. session_conditions.is_heard_in above s f ≡ true) (λ f. session_conditions.is_heard_in (x ∷ above) s f ≡ true)
      (λ f i. ap (list_any (same_values.is_same_heard f)) (heard_next s x above [] e) ∙ i) done k.told;
  left = all_since (λ f. session_conditions.is_heard_in above s f ≡ false) (λ f. session_conditions.is_heard_in (x ∷ above) s f ≡ false)
      (λ f i. ap (list_any (same_values.is_same_heard f)) (heard_next s x above [] e) ∙ i) rest k.left;
}

or_true : (b : Bool) → (b || true) ≡ true
or_true true = refl
or_true false = refl

-- with the next batch
heard_too : (h : histories.History) (s : ℕ) (x : Item) (above : List Item) (done : List histories.Heard) (f : histories.Heard) (rest : List histories.Heard) (e : histories.Heard)
    → heard.heard_by s x ≡ e ∷ [] → same_values.is_same_heard e f ≡ true → Stands h s above done (f ∷ rest) → Stands h s (x ∷ above) (done ++ f ∷ []) rest
heard_too h s x above done f rest e is same k = record {
  split = k.split ∙ sym (append_assoc done (f ∷ []) rest);
  told = all_append (λ g. session_conditions.is_heard_in (x ∷ above) s g ≡ true) done (f ∷ [])
      (all_since (λ g. session_conditions.is_heard_in above s g ≡ true) (λ g. session_conditions.is_heard_in (x ∷ above) s g ≡ true)
      (λ g i. next g ∙ ap (λ b. same_values.is_same_heard g e || b) i ∙ or_true (same_values.is_same_heard g e)) done k.told)
      (next f ∙ ap (λ b. b || session_conditions.is_heard_in above s f) (heard_either f e ∙ same), tt);
  left = later rest k.left.1 (tail_rises done f rest (subst Rise k.split (chain_rises 0 (histories.events h s) (events_chain h s).chain).1));
}
  where
    next : (g : histories.Heard) → session_conditions.is_heard_in (x ∷ above) s g ≡ (same_values.is_same_heard g e || session_conditions.is_heard_in above s g)
    next g = ap (list_any (same_values.is_same_heard g)) (heard_next s x above (e ∷ []) is)

    place : e.place ≡ f.place
    place = same_place e f same

    later : (es : List histories.Heard) → AllByRecursion (λ g. session_conditions.is_heard_in above s g ≡ false) es → AllBeyond f.place es → AllByRecursion (λ g. session_conditions.is_heard_in (x ∷ above) s g ≡ false) es
    later [] a b = tt
    later (g ∷ es) a b =
        let l : f.place < g.place = b.0 in
        (next g ∙ ap₂ (λ c d. c || d) (other_place g e (omega (arith, l, place))) a.0, later es a.1 b.1)

swapped : (n b e : Bool) → (n && (b && e)) ≡ (b && (n && e))
swapped true b e = refl
swapped false true e = refl
swapped false false e = refl

regroup : (a b e : Bool) → (a && (b && e)) ≡ ((a && b) && e)
regroup true b e = refl
regroup false b e = refl

abbrev Hears : histories.History → ℕ → List Item → List histories.Heard → List Item → Type 0
Hears h s above rest items =
    heard_walk.hears s rest items
    ≡ (same_values.begins same_values.is_same_heard (heard.heard s items) rest && item_conditions.each_below (session_conditions.is_after_events h s) above items)

-- what holds of the items below
abbrev Below : histories.History → ℕ → List Item → List Item → Type 0
Below h s up items = (done rest : List histories.Heard) → Stands h s up done rest → Hears h s up rest items

at_batch : (h : histories.History) (s : ℕ) (above : List Item) (done rest : List histories.Heard) (x : Item) (items : List Item) (e : histories.Heard) → Stands h s above done rest → IsBatch h s x e
    → Below h s (x ∷ above) items → Hears h s above rest (x ∷ items)
at_batch h s above done [] x items e k n next =
    n.walk [] items
    ∙ sym (ap (λ (es : List histories.Heard). same_values.begins same_values.is_same_heard es []
    && (session_conditions.is_after_events h s above x && item_conditions.each_below (session_conditions.is_after_events h s) (x ∷ above) items)) (heard_next s x items (e ∷ []) n.heard))
at_batch h s above done (f ∷ rest) x items e k n next =
    n.walk (f ∷ rest) items ∙ matched (same_values.is_same_heard e f) refl
    ∙ regroup (same_values.is_same_heard e f) (same_values.begins same_values.is_same_heard (heard.heard s items) rest) below
    ∙ sym (ap₂ (λ (es : List histories.Heard) (b : Bool). same_values.begins same_values.is_same_heard es (f ∷ rest) && (b && below)) (heard_next s x items (e ∷ []) n.heard) (n.test above))
  where
    below : Bool
    below = item_conditions.each_below (session_conditions.is_after_events h s) (x ∷ above) items

    matched : (b : Bool) → same_values.is_same_heard e f ≡ b
        → (same_values.is_same_heard e f && heard_walk.hears s rest items)
        ≡ (same_values.is_same_heard e f && (same_values.begins same_values.is_same_heard (heard.heard s items) rest && below))
    matched true i = ap (λ b. same_values.is_same_heard e f && b) (next (done ++ f ∷ []) rest (heard_too h s x above done f rest e n.heard i k))
    matched false i =
        ap (λ b. b && heard_walk.hears s rest items) i
        ∙ sym (ap (λ b. b && (same_values.begins same_values.is_same_heard (heard.heard s items) rest && below)) i)

at_item : (h : histories.History) (s : ℕ) (above : List Item) (done rest : List histories.Heard) (x : Item) (items : List Item) → Stands h s above done rest → Below h s (x ∷ above) items → Shows h s x
    → Hears h s above rest (x ∷ items)
at_item h s above done rest x items k next (nothing n) =
    n.walk rest items ∙ next done rest (still h s x above done rest n.heard k)
    ∙ sym (ap₂ (λ (es : List histories.Heard) (b : Bool). same_values.begins same_values.is_same_heard es rest
    && (b && item_conditions.each_below (session_conditions.is_after_events h s) (x ∷ above) items)) (heard_next s x items [] n.heard) (n.test above))
at_item h s above done rest x items k next (response p n) =
    n.walk rest items ∙ ap (λ b. heard_walk.none_upto p rest && b) (next done rest (still h s x above done rest n.heard k))
    ∙ swapped (heard_walk.none_upto p rest) (same_values.begins same_values.is_same_heard (heard.heard s items) rest) (item_conditions.each_below (session_conditions.is_after_events h s) (x ∷ above) items)
    ∙ sym (ap₂ (λ (es : List histories.Heard) (b : Bool). same_values.begins same_values.is_same_heard es rest
    && (b && item_conditions.each_below (session_conditions.is_after_events h s) (x ∷ above) items)) (heard_next s x items [] n.heard) (n.test above ∙ heard_upto h s p above done rest k))
at_item h s above done rest x items k next (batch e n) = at_batch h s above done rest x items e k n next

all_heard : (h : histories.History) (s : ℕ) (above : List Item) (done rest : List histories.Heard) (items : List Item) → Stands h s above done rest → Hears h s above rest items
all_heard h s above done rest [] k = refl
all_heard h s above done rest (x ∷ items) k = at_item h s above done rest x items k (λ d r kept. all_heard h s (x ∷ above) d r items kept) (shows h s x)

pub heard_is_walked : laws.HeardIsWalked
heard_is_walked h s items = all_heard h s [] [] (histories.events h s) items (record { split = refl; told = tt; left = none (histories.events h s) })
  where
    none : (es : List histories.Heard) → AllByRecursion (λ e. session_conditions.is_heard_in [] s e ≡ false) es
    none [] = tt
    none (e ∷ es) = (refl, none es)
