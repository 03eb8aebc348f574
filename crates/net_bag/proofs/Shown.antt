-- The packets that are shown, and the nodes that are up.
use Rattle.std.proofs.Common.{◌≡◌, ℕ, zero, suc, ◌+◌, ◌-◌, ◌<◌, ◌≤◌, Bool, true, false, not, ◌||◌, ◌&&◌, nat_eq, cond, Option, Some, None, List, [], ◌∷◌, ◌++◌, length, drop, take, map, refl, sym, ap, ◌∙◌, arith, length-append, append-nil, append_assoc, min, get_or, drop-cons}
use Rattle.std.specs.Prelude.{slice_get}
use Rattle.std.specs.List.{list_any}
use Rattle.std.proofs.lemmas.Bool.Decides.{nat_tests}
use Rattle.ax_types.specs.Places as lists
use Rattle.ax_types.specs.declared.items.Item.{Item}
use Rattle.spec_raft.specs.Majority as majorities
use Rattle.std.proofs.lemmas.List.{take_min}
use Rattle.spec_cluster.specs.Bag as bags
use Rattle.net_bag.specs.Ways as way_lists
use Rattle.net_bag.specs.KeptPackets as kept_packets
use Rattle.net_bag.specs.Reasons as reasons

apart : (x y : ℕ) → x < y → nat_eq x y ≡ false
apart x y h = grind (arith, nat_tests)

under : (x y : ℕ) → y < x → nat_eq x y ≡ false
under x y h = grind (arith, nat_tests)

same : (x y : ℕ) → x ≡ y → nat_eq x y ≡ true
same x y h = grind (arith, nat_tests)

none_below : (k a : ℕ) (flags : List Bool) → k < a → majorities.is_in (lists.numbers_passing (λ b. b) a flags) k ≡ false
none_below k a [] h = refl
none_below k a (b ∷ flags) h = step b (none_below k (suc a) flags (omega (arith, h)))
  where
    step : (c : Bool) → majorities.is_in (lists.numbers_passing (λ d. d) (suc a) flags) k ≡ false → majorities.is_in (cond c (a ∷ lists.numbers_passing (λ d. d) (suc a) flags) (lists.numbers_passing (λ d. d) (suc a) flags)) k ≡ false
    step true g = ap (λ d. d || majorities.is_in (lists.numbers_passing (λ e. e) (suc a) flags) k) (under a k h) ∙ g
    step false g = g

up_from : (a i k : ℕ) (flags : List Bool) → k ≡ a + i → majorities.is_in (lists.numbers_passing (λ b. b) a flags) k ≡ get_or flags i false
up_from a i k [] e = refl
up_from a zero k (b ∷ flags) e = step b
  where
    step : (c : Bool) → majorities.is_in (cond c (a ∷ lists.numbers_passing (λ d. d) (suc a) flags) (lists.numbers_passing (λ d. d) (suc a) flags)) k ≡ c
    step true = ap (λ d. d || majorities.is_in (lists.numbers_passing (λ f. f) (suc a) flags) k) (same a k (omega (arith, e)))
    step false = none_below k (suc a) flags (omega (arith, e))
up_from a (suc i) k (b ∷ flags) e = step b (up_from (suc a) i k flags (omega (arith, e)))
  where
    step : (c : Bool) → majorities.is_in (lists.numbers_passing (λ d. d) (suc a) flags) k ≡ get_or flags i false → majorities.is_in (cond c (a ∷ lists.numbers_passing (λ d. d) (suc a) flags) (lists.numbers_passing (λ d. d) (suc a) flags)) k ≡ get_or flags i false
    step true g = ap (λ d. d || majorities.is_in (lists.numbers_passing (λ f. f) (suc a) flags) k) (apart a k (omega (arith, e))) ∙ g
    step false g = g

-- whether a node is up, by its flag
pub up_at : (flags : List Bool) (k : ℕ) → 1 ≤ k → majorities.is_in (reasons.nodes_up flags) k ≡ get_or flags (k - 1) false
up_at flags k h = up_from 1 (k - 1) k flags (omega (arith, h))

-- one more packet is shown, or passed over
pub show_more : (most n m : ℕ) (items : List Item) (s : bags.KeptPacket) (rest : List bags.KeptPacket) (whole : List Item) → length items < most → s.is_marked ≡ false → m ≡ suc n
    → items ++ map bags.pending_item (take (most - length items) (bags.unmarked_from n (s ∷ rest))) ≡ whole
    → (items ++ bags.pending_item (n, s.packet) ∷ []) ++ map bags.pending_item (take (most - length (items ++ bags.pending_item (n, s.packet) ∷ [])) (bags.unmarked_from m rest)) ≡ whole
show_more most n m items s rest whole lt out next h =
    let x : Item = bags.pending_item (n, s.packet) in
    let left : most - length (items ++ x ∷ []) ≡ most - length items - 1 = omega (arith, length-append items (x ∷ []), lt) in
    let more : most - length items ≡ suc (most - length items - 1) = omega (arith, lt) in
    append_assoc items (x ∷ []) (map bags.pending_item (take (most - length (items ++ x ∷ [])) (bags.unmarked_from m rest)))
    ∙ ap (λ k. items ++ x ∷ map bags.pending_item (take k (bags.unmarked_from m rest))) left
    ∙ ap (λ k. items ++ x ∷ map bags.pending_item (take (most - length items - 1) (bags.unmarked_from k rest))) next
    ∙ sym (ap (λ k. items ++ map bags.pending_item (take k (bags.unmarked_from n (s ∷ rest)))) more
    ∙ ap (λ b. items ++ map bags.pending_item (take (suc (most - length items - 1)) (cond b (bags.unmarked_from (suc n) rest) ((n, s.packet) ∷ bags.unmarked_from (suc n) rest)))) out)
    ∙ h

pub show_skip : (most n m : ℕ) (items : List Item) (s : bags.KeptPacket) (rest : List bags.KeptPacket) (whole : List Item) → s.is_marked ≡ true → m ≡ suc n
    → items ++ map bags.pending_item (take (most - length items) (bags.unmarked_from n (s ∷ rest))) ≡ whole
    → items ++ map bags.pending_item (take (most - length items) (bags.unmarked_from m rest)) ≡ whole
show_skip most n m items s rest whole out next h =
    ap (λ k. items ++ map bags.pending_item (take (most - length items) (bags.unmarked_from k rest))) next
    ∙ sym (ap (λ b. items ++ map bags.pending_item (take (most - length items) (cond b (bags.unmarked_from (suc n) rest) ((n, s.packet) ∷ bags.unmarked_from (suc n) rest)))) out)
    ∙ h

pub show_all : (most n : ℕ) (items : List Item) (rest : List bags.KeptPacket) (whole : List Item) → most ≤ length items
    → items ++ map bags.pending_item (take (most - length items) (bags.unmarked_from n rest)) ≡ whole → items ≡ whole
show_all most n items rest whole le h =
    let none : most - length items ≡ 0 = omega (arith, le) in
    sym (ap (λ k. items ++ map bags.pending_item (take k (bags.unmarked_from n rest))) none ∙ append-nil items) ∙ h

pub up_past : (flags : List Bool) (k : ℕ) → 1 ≤ k → length flags ≤ k - 1 → majorities.is_in (reasons.nodes_up flags) k ≡ false
up_past flags k h past = up_at flags k h ∙ none flags (k - 1) past
  where
    none : (fs : List Bool) (i : ℕ) → length fs ≤ i → get_or fs i false ≡ false
    none [] i le = refl
    none (b ∷ fs) zero le = absurd (omega (arith, le))
    none (b ∷ fs) (suc i) le = none fs i (omega (arith, le))

show_step : (most n m : ℕ) (items : List Item) (s : bags.KeptPacket) (rest : List bags.KeptPacket) (whole : List Item) (b : Bool) → s.is_marked ≡ b → length items < most → m ≡ suc n
    → items ++ map bags.pending_item (take (most - length items) (bags.unmarked_from n (s ∷ rest))) ≡ whole
    → cond b items (items ++ bags.pending_item (n, s.packet) ∷ []) ++ map bags.pending_item (take (most - length (cond b items (items ++ bags.pending_item (n, s.packet) ∷ []))) (bags.unmarked_from m rest)) ≡ whole
show_step most n m items s rest whole true e lt next h = show_skip most n m items s rest whole e next h
show_step most n m items s rest whole false e lt next h = show_more most n m items s rest whole lt e next h

-- the next packet is shown
pub show_next : (most gone i number : ℕ) (kept : List bags.KeptPacket) (s : bags.KeptPacket) (items after whole : List Item) → s ≡ get_or kept i s → i < length kept → length items < most → number ≡ gone + i + 1 → after ≡ kept_packets.with_pending items number s
    → items ++ map bags.pending_item (take (most - length items) (bags.unmarked_from (suc (gone + i)) (drop i kept))) ≡ whole
    → after ++ map bags.pending_item (take (most - length after) (bags.unmarked_from (suc (gone + (i + 1))) (drop (i + 1) kept))) ≡ whole
show_next most gone i number kept s items after whole e within lt f g h =
    let one : number ≡ suc (gone + i) = omega (arith, f) in
    let next : suc (gone + (i + 1)) ≡ suc (suc (gone + i)) = omega arith in
    let two : i + 1 ≡ suc i = omega arith in
    let split : drop i kept ≡ s ∷ drop (i + 1) kept = drop-cons kept i s within ∙ ap (λ (x : bags.KeptPacket). x ∷ drop (suc i) kept) (sym e) ∙ ap (λ k. s ∷ drop k kept) (sym two) in
    let now : items ++ map bags.pending_item (take (most - length items) (bags.unmarked_from (suc (gone + i)) (s ∷ drop (i + 1) kept))) ≡ whole = ap (λ (ks : List bags.KeptPacket). items ++ map bags.pending_item (take (most - length items) (bags.unmarked_from (suc (gone + i)) ks))) (sym split) ∙ h in
    let shown : after ≡ cond s.is_marked items (items ++ bags.pending_item (suc (gone + i), s.packet) ∷ []) = g ∙ ap (λ k. cond s.is_marked items (items ++ bags.pending_item (k, s.packet) ∷ [])) one in
    ap (λ (xs : List Item). xs ++ map bags.pending_item (take (most - length xs) (bags.unmarked_from (suc (gone + (i + 1))) (drop (i + 1) kept)))) shown
    ∙ show_step most (suc (gone + i)) (suc (gone + (i + 1))) items s (drop (i + 1) kept) whole s.is_marked refl lt next now

-- the first of those that wait
pub shown_first : (sent unmarked m g : ℕ) (kept : List bags.KeptPacket) (ways : List way_lists.Way) (bag : bags.Bag) → record { sent = sent; kept = kept; cuts = [] } ≡ bag → m ≡ min 64 unmarked → g ≡ bags.gone bag
    → kept_packets.ArePackets sent (sent - length kept) kept unmarked ways → map bags.pending_item (take m (bags.unmarked_from (suc g) kept)) ≡ bags.pending_items bag
shown_first sent unmarked m g kept ways bag e f same h =
    let gone : g ≡ sent - length kept = same ∙ ap bags.gone (sym e) in
    let most : m ≡ min 64 (length (bags.unmarked_from (suc (sent - length kept)) kept)) = f ∙ ap (λ n. min 64 n) h.counted in
    ap (λ k. map bags.pending_item (take m (bags.unmarked_from (suc k) kept))) gone
    ∙ ap (λ n. map bags.pending_item (take n (bags.unmarked_from (suc (sent - length kept)) kept))) most
    ∙ ap (map bags.pending_item) (take_min 64 (bags.unmarked_from (suc (sent - length kept)) kept))
    ∙ ap bags.pending_items e
