-- The numbers of the commands called above and the greatest place read above describe the items above.
use Rattle.std.proofs.Common.{◌≡◌, ℕ, zero, suc, max, ◌+◌, ◌≤◌, ◌<◌, Bool, true, false, cond, ◌&&◌, nat_eq, nat_lt, nat_le, List, [], ◌∷◌, ◌++◌, map, count_by, refl, sym, ap, ap₂, ◌∙◌, arith}
use Rattle.std.specs.Prelude.{if◌then◌else◌}
use Rattle.std.specs.List.{list_all}
use Rattle.std.proofs.lemmas.Bool.Decides.{nat_tests}
use Rattle.std.proofs.lemmas.List.Sums.{sum_by-cons}
use Rattle.std.proofs.lemmas.List.Concat.{flat_map-cons}
use Rattle.ax_types.specs.declared.ops.Op.{Op}
use Rattle.ax_types.specs.declared.ops.WindowCall.{WindowCall}
use Rattle.ax_types.specs.declared.ops.WindowCall.TheVariants as call
use Rattle.ax_types.specs.declared.items.Item.{Item}
use Rattle.ax_types.specs.declared.items.Item.TheVariants as item
use Rattle.spec_book.specs.History as histories
use Rattle.spec_claims.specs.Transcript as transcripts
use Rattle.spec_claims.specs.Once as once
use Rattle.spec_audit.specs.ItemConditions as item_conditions
use Rattle.spec_audit.specs.SessionConditions as session_conditions
use Rattle.law_audit_tables.specs.ReadWalk as read_walk
use Rattle.law_audit_tables.specs.TablesFound as laws

-- the places of acts
abbrev places : histories.History → ℕ → List ℕ
places h s = map (λ d. d.0) (histories.dos h s)

places_upto : (p : ℕ) (ds : List (ℕ × (List ℕ × Op))) → count_by (λ d. nat_le d.0 p) ds ≡ read_walk.count_upto p (map (λ d. d.0) ds)
places_upto p [] = refl
places_upto p (d ∷ ds) =
    sum_by-cons (λ x. cond (nat_le x.0 p) 1 0) d ds ∙ ap (λ n. cond (nat_le d.0 p) 1 0 + n) (places_upto p ds)
    ∙ sym (sum_by-cons (λ q. cond (nat_le q p) 1 0) d.0 (map (λ x. x.0) ds))

record Describes (s : ℕ) (above : List Item) (numbers : List ℕ) (greatest : ℕ) : Type 0 where
  below : (n : ℕ) → transcripts.commands_below s n above ≡ read_walk.count_below n numbers
  reads : (p : ℕ) → list_all (session_conditions.is_read_upto s p) above ≡ nat_le greatest p

-- ---- what an item is to the walk

record IsNothing (h : histories.History) (s : ℕ) (x : Item) : Type 0 where
  walk : (ps numbers : List ℕ) (greatest : ℕ) (items : List Item) → read_walk.grow s ps numbers greatest (x ∷ items) ≡ read_walk.grow s ps numbers greatest items
  below : (n : ℕ) (above : List Item) → transcripts.commands_below s n (x ∷ above) ≡ transcripts.commands_below s n above
  reads : (p : ℕ) → session_conditions.is_read_upto s p x ≡ true
  test : (above : List Item) → session_conditions.is_growing h s above x ≡ true

record IsCommand (h : histories.History) (s : ℕ) (x : Item) (m : ℕ) : Type 0 where
  walk : (ps numbers : List ℕ) (greatest : ℕ) (items : List Item) → read_walk.grow s ps numbers greatest (x ∷ items) ≡ read_walk.grow s ps (m ∷ numbers) greatest items
  below : (n : ℕ) (above : List Item) → transcripts.commands_below s n (x ∷ above) ≡ cond (nat_lt m n) 1 0 + transcripts.commands_below s n above
  reads : (p : ℕ) → session_conditions.is_read_upto s p x ≡ true
  test : (above : List Item) → session_conditions.is_growing h s above x ≡ true

record IsRead (h : histories.History) (s : ℕ) (x : Item) (m q : ℕ) : Type 0 where
  walk : (ps numbers : List ℕ) (greatest : ℕ) (items : List Item) → read_walk.grow s ps numbers greatest (x ∷ items)
      ≡ (nat_le greatest q && nat_le (read_walk.count_below m numbers) (read_walk.count_upto q ps) && read_walk.grow s ps numbers (max greatest q) items)
  below : (n : ℕ) (above : List Item) → transcripts.commands_below s n (x ∷ above) ≡ transcripts.commands_below s n above
  reads : (p : ℕ) → session_conditions.is_read_upto s p x ≡ nat_le q p
  test : (above : List Item) → session_conditions.is_growing h s above x
      ≡ (list_all (session_conditions.is_read_upto s q) above && nat_le (transcripts.commands_below s m above) (once.dos_upto h s q))

data Shows (h : histories.History) (s : ℕ) (x : Item) : Type 0 where
  command : (m : ℕ) → IsCommand h s x m → Shows h s x
  read : (m q : ℕ) → IsRead h s x m q → Shows h s x
  nothing : IsNothing h s x → Shows h s x

calls_next : (s : ℕ) (x : Item) (above : List Item) (cs : List (ℕ × WindowCall)) → transcripts.called_by s x ≡ cs → transcripts.calls s (x ∷ above) ≡ cs ++ transcripts.calls s above
calls_next s x above cs e = flat_map-cons (transcripts.called_by s) x above ∙ ap (λ ds. ds ++ transcripts.calls s above) e

abbrev is_below : ℕ → ℕ × WindowCall → Bool
is_below n c = transcripts.is_command c.1 && nat_lt c.0 n

no_call : (s n : ℕ) (x : Item) (above : List Item) → transcripts.called_by s x ≡ [] → transcripts.commands_below s n (x ∷ above) ≡ transcripts.commands_below s n above
no_call s n x above e = ap (count_by (is_below n)) (calls_next s x above [] e)

one_call : (s n : ℕ) (x : Item) (above : List Item) (c : ℕ × WindowCall) (b : Bool) → transcripts.called_by s x ≡ c ∷ [] → is_below n c ≡ b
    → transcripts.commands_below s n (x ∷ above) ≡ cond b 1 0 + transcripts.commands_below s n above
one_call s n x above c b e f =
    ap (count_by (is_below n)) (calls_next s x above (c ∷ []) e)
    ∙ sum_by-cons (λ d. cond (is_below n d) 1 0) c (transcripts.calls s above)
    ∙ ap (λ g. cond g 1 0 + transcripts.commands_below s n above) f

shows_call : (h : histories.History) (s t m : ℕ) (c : WindowCall) (b : Bool) → nat_eq s t ≡ b → Shows h s (item.Called t m c)
shows_call h s t m (call.Command name op) true e = command m (record {
  walk = λ ps numbers greatest items. ap (λ b. if b then read_walk.grow s ps (m ∷ numbers) greatest items else read_walk.grow s ps numbers greatest items) e;
  below = λ n above. one_call s n (item.Called t m (call.Command name op)) above (m, call.Command name op) (nat_lt m n) (ap (λ b. if b then (m, call.Command name op) ∷ [] else []) e) refl;
  reads = λ p. refl;
  test = λ above. refl;
})
shows_call h s t m (call.Command name op) false e = nothing (record {
  walk = λ ps numbers greatest items. ap (λ b. if b then read_walk.grow s ps (m ∷ numbers) greatest items else read_walk.grow s ps numbers greatest items) e;
  below = λ n above. no_call s n (item.Called t m (call.Command name op)) above (ap (λ b. if b then (m, call.Command name op) ∷ [] else []) e);
  reads = λ p. refl;
  test = λ above. refl;
})
shows_call h s t m (call.Query level name query) true e = nothing (record {
  walk = λ ps numbers greatest items. refl;
  below = λ n above.
      one_call s n (item.Called t m (call.Query level name query)) above (m, call.Query level name query) false (ap (λ b. if b then (m, call.Query level name query) ∷ [] else []) e) refl
      ∙ (let z : 0 + transcripts.commands_below s n above ≡ transcripts.commands_below s n above = omega arith in z);
  reads = λ p. refl;
  test = λ above. refl;
})
shows_call h s t m (call.Query level name query) false e = nothing (record {
  walk = λ ps numbers greatest items. refl;
  below = λ n above. no_call s n (item.Called t m (call.Query level name query)) above (ap (λ b. if b then (m, call.Query level name query) ∷ [] else []) e);
  reads = λ p. refl;
  test = λ above. refl;
})

shows : (h : histories.History) (s : ℕ) (x : Item) → Shows h s x
shows h s (item.Called t m c) = shows_call h s t m c (nat_eq s t) refl
shows h s (item.Read t m l q reach r) = go (nat_eq s t) refl
  where
    x : Item
    x = item.Read t m l q reach r

    go : (b : Bool) → nat_eq s t ≡ b → Shows h s x
    go true e = read m q (record {
      walk = λ ps numbers greatest items.
          ap (λ b. if b then nat_le greatest q && nat_le (read_walk.count_below m numbers) (read_walk.count_upto q ps) && read_walk.grow s ps numbers (max greatest q) items
          else read_walk.grow s ps numbers greatest items) e;
      below = λ n above. no_call s n x above refl;
      reads = λ p. ap (λ b. if b then nat_le q p else true) e;
      test = λ above. ap (λ b. if b then list_all (session_conditions.is_read_upto s q) above && nat_le (transcripts.commands_below s m above) (once.dos_upto h s q) else true) e;
    })
    go false e = nothing (record {
      walk = λ ps numbers greatest items.
          ap (λ b. if b then nat_le greatest q && nat_le (read_walk.count_below m numbers) (read_walk.count_upto q ps) && read_walk.grow s ps numbers (max greatest q) items
          else read_walk.grow s ps numbers greatest items) e;
      below = λ n above. no_call s n x above refl;
      reads = λ p. ap (λ b. if b then nat_le q p else true) e;
      test = λ above. ap (λ b. if b then list_all (session_conditions.is_read_upto s q) above && nat_le (transcripts.commands_below s m above) (once.dos_upto h s q) else true) e;
    })
shows h s x = nothing (record { walk = λ ps numbers greatest items. refl; below = λ n above. no_call s n x above refl; reads = λ p. refl; test = λ above. refl })

-- ---- all items

greater : (a q p : ℕ) → (nat_le q p && nat_le a p) ≡ nat_le (max a q) p
greater a q p = go (nat_le q p) refl (nat_le a p) refl
  where
    go : (b : Bool) → nat_le q p ≡ b → (c : Bool) → nat_le a p ≡ c → (b && c) ≡ nat_le (max a q) p
    go true e true f = grind (arith, nat_tests)
    go true e false f = grind (arith, nat_tests)
    go false e c f = grind (arith, nat_tests)

abbrev Grows : histories.History → ℕ → List Item → List ℕ → ℕ → List Item → Type 0
Grows h s above numbers greatest items = read_walk.grow s (places h s) numbers greatest items ≡ item_conditions.each_below (session_conditions.is_growing h s) above items

one_item : (h : histories.History) (s : ℕ) (above : List Item) (numbers : List ℕ) (greatest : ℕ) (x : Item) (items : List Item) → Describes s above numbers greatest
    → ((ns : List ℕ) (g : ℕ) → Describes s (x ∷ above) ns g → Grows h s (x ∷ above) ns g items) → Shows h s x → Grows h s above numbers greatest (x ∷ items)
one_item h s above numbers greatest x items d next (nothing n) =
    n.walk (places h s) numbers greatest items
    ∙ next numbers greatest (record {
      below = λ m. n.below m above ∙ d.below m;
      reads = λ p. ap (λ b. b && list_all (session_conditions.is_read_upto s p) above) (n.reads p) ∙ d.reads p;
    })
    ∙ sym (ap (λ b. b && item_conditions.each_below (session_conditions.is_growing h s) (x ∷ above) items) (n.test above))
one_item h s above numbers greatest x items d next (command m n) =
    n.walk (places h s) numbers greatest items
    ∙ next (m ∷ numbers) greatest (record {
      below = λ k. n.below k above ∙ ap (λ j. cond (nat_lt m k) 1 0 + j) (d.below k) ∙ sym (sum_by-cons (λ j. cond (nat_lt j k) 1 0) m numbers);
      reads = λ p. ap (λ b. b && list_all (session_conditions.is_read_upto s p) above) (n.reads p) ∙ d.reads p;
    })
    ∙ sym (ap (λ b. b && item_conditions.each_below (session_conditions.is_growing h s) (x ∷ above) items) (n.test above))
one_item h s above numbers greatest x items d next (read m q n) =
    n.walk (places h s) numbers greatest items
    ∙ ap (λ b. nat_le greatest q && nat_le (read_walk.count_below m numbers) (read_walk.count_upto q (places h s)) && b)
    (next numbers (max greatest q) (record {
      below = λ k. n.below k above ∙ d.below k;
      reads = λ p. ap₂ (λ b c. b && c) (n.reads p) (d.reads p) ∙ greater greatest q p;
    }))
    ∙ sym (ap (λ b. b && item_conditions.each_below (session_conditions.is_growing h s) (x ∷ above) items)
    (n.test above ∙ ap₂ (λ b c. b && c) (d.reads q) (ap₂ (λ j k. nat_le j k) (d.below m) (places_upto q (histories.dos h s)))))

all_grow : (h : histories.History) (s : ℕ) (above : List Item) (numbers : List ℕ) (greatest : ℕ) (items : List Item) → Describes s above numbers greatest → Grows h s above numbers greatest items
all_grow h s above numbers greatest [] d = refl
all_grow h s above numbers greatest (x ∷ items) d = one_item h s above numbers greatest x items d (λ ns g k. all_grow h s (x ∷ above) ns g items k) (shows h s x)

pub reads_are_walked : laws.ReadsAreWalked
reads_are_walked h s items = all_grow h s [] [] 0 items (record { below = λ n. refl; reads = λ p. none p })
  where
    none : (p : ℕ) → true ≡ nat_le 0 p
    none p = grind (arith, nat_tests)
