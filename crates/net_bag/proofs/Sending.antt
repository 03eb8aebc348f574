-- The numbers on the ways stay those of the packets that wait, after one is sent and after the oldest goes.
use Rattle.std.proofs.Common.{◌≡◌, ◌≢◌, ℕ, zero, suc, ◌+◌, ◌-◌, ◌<◌, ◌≤◌, Bool, true, false, not, ◌||◌, ◌&&◌, nat_eq, cond, Option, Some, None, List, [], ◌∷◌, ◌++◌, length, filter, drop, refl, sym, ap, ◌∙◌, arith, ◌⊎◌, inl, inr, subst, append-nil, length-append}
use Rattle.std.specs.Prelude.{slice_get}
use Rattle.std.specs.List.{list_any}
use Rattle.std.proofs.lemmas.Bool.{cases_eq}
use Rattle.std.proofs.lemmas.Bool.Decides.{nat_tests}
use Rattle.std.proofs.lemmas.Option.{same_Some}
use Rattle.std.proofs.lemmas.List.Elements.{filter-append}
use Rattle.ax_types.specs.Places as lists
use Rattle.ax_types.specs.declared.ids.End.{End}
use Rattle.ax_types.specs.declared.ids.End.TheVariants as end
use Rattle.ax_types.specs.declared.packets.Packet.{Packet}
use Rattle.spec_raft.specs.Positions as positions
use Rattle.spec_cluster.specs.Bag as bags
use Rattle.net_bag.specs.Ways as way_lists
use Rattle.net_bag.specs.KeptPackets as kept_packets
use Rattle.net_bag.proofs.Numbers.{same_end-true, same_end-refl, both}
use Rattle.net_bag.proofs.Flags.{not_true}
use Rattle.net_bag.proofs.Table.{get-last, get-push, get-before, is_from-same, any-at, any-none, any-place}
use Rattle.net_bag.proofs.Waiting.{filter_given, goes_same, goes_there, served_changed, changed_at}

given_more : (m : ℕ) (ns : List ℕ) → kept_packets.AreGiven m ns → kept_packets.AreGiven (suc m) ns
given_more m [] g = g
given_more m (n ∷ ns) g = (omega (arith, g.0), given_more m ns g.1)

given_push : (m n : ℕ) (ns : List ℕ) → n ≤ m → kept_packets.AreGiven m ns → kept_packets.AreGiven m (ns ++ n ∷ [])
given_push m n [] le g = (le, tt)
given_push m n (k ∷ ns) le g = (g.0, given_push m n ns le g.1)

front_push : (xs ys : List ℕ) (x : ℕ) → slice_get xs 0 ≡ slice_get ys 0 → slice_get (xs ++ x ∷ []) 0 ≡ slice_get (ys ++ x ∷ []) 0
front_push [] [] x e = refl
front_push [] (y ∷ ys) x e = cc
front_push (z ∷ xs) [] x e = cc
front_push (z ∷ xs) (y ∷ ys) x e = e

numbers_push : (a b : End) (n : ℕ) (slots : List bags.KeptPacket) (s : bags.KeptPacket) → way_lists.numbers_on a b n (slots ++ s ∷ []) ≡ way_lists.numbers_on a b n slots ++ way_lists.numbers_on a b (n + length slots) (s ∷ [])
numbers_push a b n [] s = ap (λ k. way_lists.numbers_on a b k (s ∷ [])) (let e : n ≡ n + 0 = omega arith in e)
numbers_push a b n (t ∷ slots) s = step (not t.is_marked && way_lists.is_on a b t.packet) (numbers_push a b (suc n) slots s ∙ ap (λ k. way_lists.numbers_on a b (suc n) slots ++ way_lists.numbers_on a b k (s ∷ [])) (let e : suc n + length slots ≡ n + suc (length slots) = omega arith in e))
  where
    step : (c : Bool) → way_lists.numbers_on a b (suc n) (slots ++ s ∷ []) ≡ way_lists.numbers_on a b (suc n) slots ++ way_lists.numbers_on a b (n + suc (length slots)) (s ∷ [])
        → cond c (n ∷ way_lists.numbers_on a b (suc n) (slots ++ s ∷ [])) (way_lists.numbers_on a b (suc n) (slots ++ s ∷ [])) ≡ cond c (n ∷ way_lists.numbers_on a b (suc n) slots) (way_lists.numbers_on a b (suc n) slots) ++ way_lists.numbers_on a b (n + suc (length slots)) (s ∷ [])
    step true h = ap (λ (ns : List ℕ). n ∷ ns) h
    step false h = h

place_before : (slots : List bags.KeptPacket) (s : bags.KeptPacket) (q : ℕ) → q ≤ length slots → lists.at_place (slots ++ s ∷ []) q ≡ lists.at_place slots q
place_before slots s zero h = refl
place_before [] s (suc q) h = absurd (omega (arith, h))
place_before (t ∷ slots) s (suc zero) h = refl
place_before (t ∷ slots) s (suc (suc q)) h = place_before slots s (suc q) (omega (arith, h))

-- a packet is sent on a way, or not
indexed_on : (sent gone : ℕ) (slots : List bags.KeptPacket) (p : Packet) (w : way_lists.Way) → length slots ≤ sent → gone ≡ sent - length slots → way_lists.goes p w ≡ true → kept_packets.IsWayIndexed sent gone slots w
    → kept_packets.IsWayIndexed (suc sent) gone (slots ++ record { is_marked = false; packet = p } ∷ []) (way_lists.with_number (suc sent) w)
indexed_on sent gone slots p w within rest on h =
    let s : bags.KeptPacket = record { is_marked = false; packet = p } in
    let test : ℕ → Bool = way_lists.open_at gone (slots ++ s ∷ []) in
    let number : suc gone + length slots ≡ suc sent = omega (arith, within, rest) in
    let numbers : way_lists.numbers_on w.«from» w.to (suc gone) (slots ++ s ∷ []) ≡ way_lists.numbers_on w.«from» w.to (suc gone) slots ++ suc sent ∷ [] =
    numbers_push w.«from» w.to (suc gone) slots s
    ∙ ap (λ c. way_lists.numbers_on w.«from» w.to (suc gone) slots ++ cond c ((suc gone + length slots) ∷ []) []) on
    ∙ ap (λ k. way_lists.numbers_on w.«from» w.to (suc gone) slots ++ k ∷ []) number in
    let last : test (suc sent) ≡ true =
    ap (λ q. way_lists.is_waiting (lists.at_place (slots ++ s ∷ []) q)) (let e : suc sent - gone ≡ suc (length slots) = omega (arith, within, rest) in e)
    ∙ ap way_lists.is_waiting (get-last slots s) in
    let waits : filter test (w.waiting ++ suc sent ∷ []) ≡ way_lists.numbers_on w.«from» w.to (suc gone) (slots ++ s ∷ []) =
    filter-append test w.waiting (suc sent ∷ [])
    ∙ ap (λ c. filter test w.waiting ++ cond c (suc sent ∷ []) []) last
    ∙ ap (λ (ns : List ℕ). ns ++ suc sent ∷ []) (filter_given sent test (way_lists.open_at gone slots) (λ n le. ap way_lists.is_waiting (place_before slots s (n - gone) (omega (arith, le, within, rest)))) w.waiting h.given ∙ h.waits)
    ∙ sym numbers in
    record {
      given = given_push (suc sent) (suc sent) w.waiting (omega arith) (given_more sent w.waiting h.given);
      waits = waits;
      front = front_push w.waiting (way_lists.numbers_on w.«from» w.to (suc gone) slots) (suc sent) h.front ∙ ap (λ (ns : List ℕ). slice_get ns 0) (sym numbers);
    }

indexed_off : (sent gone : ℕ) (slots : List bags.KeptPacket) (p : Packet) (w : way_lists.Way) → length slots ≤ sent → gone ≡ sent - length slots → way_lists.goes p w ≡ false → kept_packets.IsWayIndexed sent gone slots w
    → kept_packets.IsWayIndexed (suc sent) gone (slots ++ record { is_marked = false; packet = p } ∷ []) w
indexed_off sent gone slots p w within rest off h =
    let s : bags.KeptPacket = record { is_marked = false; packet = p } in
    let test : ℕ → Bool = way_lists.open_at gone (slots ++ s ∷ []) in
    let numbers : way_lists.numbers_on w.«from» w.to (suc gone) (slots ++ s ∷ []) ≡ way_lists.numbers_on w.«from» w.to (suc gone) slots =
    numbers_push w.«from» w.to (suc gone) slots s
    ∙ ap (λ c. way_lists.numbers_on w.«from» w.to (suc gone) slots ++ cond c ((suc gone + length slots) ∷ []) []) off
    ∙ append-nil (way_lists.numbers_on w.«from» w.to (suc gone) slots) in
    record {
      given = given_more sent w.waiting h.given;
      waits = filter_given sent test (way_lists.open_at gone slots) (λ n le. ap way_lists.is_waiting (place_before slots s (n - gone) (omega (arith, le, within, rest)))) w.waiting h.given ∙ h.waits ∙ sym numbers;
      front = h.front ∙ ap (λ (ns : List ℕ). slice_get ns 0) (sym numbers);
    }

served_push : (ways : List way_lists.Way) (slots : List bags.KeptPacket) (s : bags.KeptPacket) → kept_packets.AreServed ways slots → list_any (way_lists.goes s.packet) ways ≡ true → kept_packets.AreServed ways (slots ++ s ∷ [])
served_push ways [] s h on = (on, tt)
served_push ways (t ∷ slots) s h on = (h.0, served_push ways slots s h.1 on)

count_push : (n : ℕ) (slots : List bags.KeptPacket) (p : Packet) → length (bags.unmarked_from n (slots ++ record { is_marked = false; packet = p } ∷ [])) ≡ suc (length (bags.unmarked_from n slots))
count_push n [] p = refl
count_push n (t ∷ slots) p = step t.is_marked (count_push (suc n) slots p)
  where
    step : (b : Bool) → length (bags.unmarked_from (suc n) (slots ++ record { is_marked = false; packet = p } ∷ [])) ≡ suc (length (bags.unmarked_from (suc n) slots))
        → length (cond b (bags.unmarked_from (suc n) (slots ++ record { is_marked = false; packet = p } ∷ [])) ((n, t.packet) ∷ bags.unmarked_from (suc n) (slots ++ record { is_marked = false; packet = p } ∷ []))) ≡ suc (length (cond b (bags.unmarked_from (suc n) slots) ((n, t.packet) ∷ bags.unmarked_from (suc n) slots)))
    step true h = h
    step false h = ap suc h

-- all, after a packet is sent
pub packets_more : (sent gone unmarked j : ℕ) (slots : List bags.KeptPacket) (p : Packet) (ways : List way_lists.Way) → way_lists.IsPlaceOf ways p.«from» p.to j → kept_packets.ArePackets sent gone slots unmarked ways
    → kept_packets.ArePackets (suc sent) gone (slots ++ record { is_marked = false; packet = p } ∷ []) (suc unmarked) (positions.change_place (way_lists.with_number (suc sent)) ways (suc j))
packets_more sent gone unmarked j slots p ways place h =
    let s : bags.KeptPacket = record { is_marked = false; packet = p } in
    let long : length (slots ++ s ∷ []) ≡ length slots + 1 = length-append slots (s ∷ []) in
    record {
      within = omega (arith, long, h.within);
      rest = omega (arith, long, h.rest);
      counted = ap suc h.counted ∙ sym (count_push (suc gone) slots p);
      indexed = λ k v g. elim (changed_at (way_lists.with_number (suc sent)) ways j k v g) [
        | inl t ↦
            let w : way_lists.Way = t.1.0 in
            let same : w ≡ place.there.0 = same_Some w place.there.0 (sym t.1.1 ∙ ap (slice_get ways) t.0 ∙ place.there.1) in
            let on : way_lists.goes p w ≡ true = goes_there p w (ap (λ (u : way_lists.Way). u.«from») same ∙ place.there.2) (ap (λ (u : way_lists.Way). u.to) same ∙ place.there.3) in
            let P : way_lists.Way → Type 0 = kept_packets.IsWayIndexed (suc sent) gone (slots ++ s ∷ []) in
            subst P (sym t.1.2) (indexed_on sent gone slots p w h.within h.rest on (h.indexed k w t.1.1))
        | inr t ↦ indexed_off sent gone slots p v h.within h.rest (not_true (way_lists.goes p v) (λ on. let same = goes_same p.«from» p.to p v refl refl on in t.0 (place.only k v t.1 same.0 same.1))) (h.indexed k v t.1)
      ];
      served = served_changed (way_lists.with_number (suc sent)) (λ q w. refl) ways (suc j) (slots ++ s ∷ []) (served_push ways slots s h.served (any-at (way_lists.goes p) ways j place.there.0 place.there.1 (goes_there p place.there.0 place.there.2 place.there.3)));
    }

-- a way on which nothing was sent yet
any_more : (p : way_lists.Way → Bool) (ws more : List way_lists.Way) → list_any p ws ≡ true → list_any p (ws ++ more) ≡ true
any_more p [] more e = cc
any_more p (w ∷ ws) more e = step (p w) (any_more p ws more) e
  where
    step : (b : Bool) → (list_any p ws ≡ true → list_any p (ws ++ more) ≡ true) → b || list_any p ws ≡ true → b || list_any p (ws ++ more) ≡ true
    step true f h = refl
    step false f h = f h

served_more : (ways more : List way_lists.Way) (slots : List bags.KeptPacket) → kept_packets.AreServed ways slots → kept_packets.AreServed (ways ++ more) slots
served_more ways more [] h = h
served_more ways more (s ∷ slots) h = (any_more (way_lists.goes s.packet) ways more h.0, served_more ways more slots h.1)

pub any_same : (p q : way_lists.Way → Bool) → ((w : way_lists.Way) → p w ≡ q w) → (ways : List way_lists.Way) → list_any p ways ≡ list_any q ways
any_same p q same [] = refl
any_same p q same (w ∷ ways) = ap (λ b. b || list_any p ways) (same w) ∙ ap (λ b. q w || b) (any_same p q same ways)

eq_swap : (j k : ℕ) → nat_eq j k ≡ nat_eq k j
eq_swap j k = grind (arith, nat_tests)

same_end-swap : (a b : End) → bags.same_end a b ≡ bags.same_end b a
same_end-swap (end.Node j) (end.Node k) = eq_swap j k
same_end-swap (end.Node j) (end.Client d) = refl
same_end-swap (end.Client c) (end.Node k) = refl
same_end-swap (end.Client c) (end.Client d) = eq_swap c d

pub on_ends : (a b : End) (p : Packet) → way_lists.is_on a b p ≡ true → (w : way_lists.Way) → way_lists.goes p w ≡ way_lists.is_from a b w
on_ends a b p on w =
    let t = both (bags.same_end a p.«from») (bags.same_end b p.to) on in
    ap (λ (x : End). bags.same_end w.«from» x && bags.same_end w.to p.to) (sym (same_end-true a p.«from» t.0))
    ∙ ap (λ (x : End). bags.same_end w.«from» a && bags.same_end w.to x) (sym (same_end-true b p.to t.1))
    ∙ ap (λ c. c && bags.same_end w.to b) (same_end-swap w.«from» a)
    ∙ ap (λ c. bags.same_end a w.«from» && c) (same_end-swap w.to b)

-- where there is no way between two ends, no packet that is served goes from one to the other
unserved : (a b : End) (n : ℕ) (ways : List way_lists.Way) (slots : List bags.KeptPacket) → list_any (way_lists.is_from a b) ways ≡ false → kept_packets.AreServed ways slots → way_lists.numbers_on a b n slots ≡ []
unserved a b n ways [] none h = refl
unserved a b n ways (s ∷ slots) none h = ap (λ c. cond c (n ∷ way_lists.numbers_on a b (suc n) slots) (way_lists.numbers_on a b (suc n) slots)) (off (not s.is_marked) (not_true (way_lists.is_on a b s.packet) (λ on. let c : true ≡ false = sym h.0 ∙ any_same (way_lists.goes s.packet) (way_lists.is_from a b) (on_ends a b s.packet on) ways ∙ none in absurd (let d : ⊥ = cc in d)))) ∙ unserved a b (suc n) ways slots none h.1
  where
    off : (x : Bool) → way_lists.is_on a b s.packet ≡ false → x && way_lists.is_on a b s.packet ≡ false
    off true e = e
    off false e = refl

pub packets_way : (sent gone unmarked : ℕ) (slots : List bags.KeptPacket) (a b : End) (ways : List way_lists.Way) → kept_packets.ArePackets sent gone slots unmarked ways
    → kept_packets.ArePackets sent gone slots unmarked (way_lists.with_way ways a b)
packets_way sent gone unmarked slots a b ways h = step (list_any (way_lists.is_from a b) ways) refl
  where
    new : way_lists.Way
    new = record { «from» = a; to = b; waiting = [] }

    step : (c : Bool) → list_any (way_lists.is_from a b) ways ≡ c → kept_packets.ArePackets sent gone slots unmarked (cond c ways (ways ++ new ∷ []))
    step true e = h
    step false e = record {
      within = h.within;
      rest = h.rest;
      counted = h.counted;
      indexed = λ k v g. elim (get-push ways new v k g) [
        | inl old ↦ h.indexed k v old
        | inr last ↦ let P : way_lists.Way → Type 0 = kept_packets.IsWayIndexed sent gone slots in subst P last.1 (record {
          given = tt;
          waits = sym (unserved a b (suc gone) ways slots e h.served);
          front = ap (λ (ns : List ℕ). slice_get ns 0) (sym (unserved a b (suc gone) ways slots e h.served));
        })
      ];
      served = served_more ways (new ∷ []) slots h.served;
    }

-- the oldest, which is marked, is no longer kept
pub packets_fewer : (sent gone unmarked : ℕ) (s : bags.KeptPacket) (slots : List bags.KeptPacket) (ways : List way_lists.Way) → s.is_marked ≡ true → kept_packets.ArePackets sent gone (s ∷ slots) unmarked ways → kept_packets.ArePackets sent (suc gone) slots unmarked ways
packets_fewer sent gone unmarked s slots ways m h = record {
  within = omega (arith, h.within);
  rest = omega (arith, h.within, h.rest);
  counted = h.counted ∙ ap (λ b. length (cond b (bags.unmarked_from (suc (suc gone)) slots) ((suc gone, s.packet) ∷ bags.unmarked_from (suc (suc gone)) slots))) m;
  indexed = λ k v g. let old : kept_packets.IsWayIndexed sent gone (s ∷ slots) v = h.indexed k v g in record {
    given = old.given;
    waits = filter_given sent (way_lists.open_at (suc gone) slots) (way_lists.open_at gone (s ∷ slots)) (λ n le. shifted n (n - gone) refl) v.waiting old.given ∙ old.waits ∙ numbers v;
    front = old.front ∙ ap (λ (ns : List ℕ). slice_get ns 0) (numbers v);
  };
  served = h.served.1;
}
  where
    numbers : (v : way_lists.Way) → way_lists.numbers_on v.«from» v.to (suc gone) (s ∷ slots) ≡ way_lists.numbers_on v.«from» v.to (suc (suc gone)) slots
    numbers v = ap (λ b. cond (not b && way_lists.is_on v.«from» v.to s.packet) (suc gone ∷ way_lists.numbers_on v.«from» v.to (suc (suc gone)) slots) (way_lists.numbers_on v.«from» v.to (suc (suc gone)) slots)) m

    shifted : (n q : ℕ) → q ≡ n - gone → way_lists.is_waiting (lists.at_place slots (n - suc gone)) ≡ way_lists.is_waiting (lists.at_place (s ∷ slots) q)
    shifted n zero e = ap (λ k. way_lists.is_waiting (lists.at_place slots k)) (let d : n - suc gone ≡ 0 = omega (arith, e) in d)
    shifted n (suc zero) e = ap (λ k. way_lists.is_waiting (lists.at_place slots k)) (let d : n - suc gone ≡ 0 = omega (arith, e) in d) ∙ sym (ap not m)
    shifted n (suc (suc k)) e = ap (λ j. way_lists.is_waiting (lists.at_place slots j)) (let d : n - suc gone ≡ suc k = omega (arith, e) in d)
