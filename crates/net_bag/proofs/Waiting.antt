-- The numbers on the ways stay those of the packets that wait, whatever happens to the packets.
use Rattle.std.proofs.Common.{◌≡◌, ◌≢◌, ℕ, zero, suc, ◌+◌, ◌-◌, ◌<◌, ◌≤◌, Bool, true, false, not, ◌||◌, ◌&&◌, nat_eq, cond, Option, Some, None, List, [], ◌∷◌, ◌++◌, length, filter, drop, refl, sym, ap, ◌∙◌, arith, ◌⊎◌, inl, inr, subst, append-nil}
use Rattle.std.specs.Prelude.{slice_get, option_map}
use Rattle.std.specs.List.{list_any}
use Rattle.std.proofs.lemmas.Bool.{cases_eq, cases_Bool}
use Rattle.std.proofs.lemmas.Bool.Decides.{nat_tests}
use Rattle.std.proofs.lemmas.Option.{same_Some, slice_get_within}
use Rattle.std.proofs.lemmas.List.Elements.{filter_agree, filter-append}
use Rattle.ax_types.specs.Places as lists
use Rattle.ax_types.specs.declared.ids.End.{End}
use Rattle.ax_types.specs.declared.packets.Packet.{Packet}
use Rattle.spec_raft.specs.Positions as positions
use Rattle.spec_raft.proofs.Placing.{length-change_place, at_place-changed, at_place-others}
use Rattle.spec_cluster.specs.Bag as bags
use Rattle.net_bag.specs.Ways as way_lists
use Rattle.net_bag.specs.KeptPackets as kept_packets
use Rattle.net_bag.proofs.Numbers.{same_end-true, same_end-refl, both}
use Rattle.net_bag.proofs.Flags.{not_true}
use Rattle.net_bag.proofs.Table.{get-last, get-push, get-before, is_from-same, is_from-true, any-at}

abbrev pub marked : bags.KeptPacket → bags.KeptPacket
marked s = record s { is_marked = true }

-- filters
pub filter_and : {X : Type 0} (p q : X → Bool) (xs : List X) → filter (λ x. p x && q x) xs ≡ filter q (filter p xs)
filter_and p q [] = refl
filter_and p q (x ∷ xs) = step (p x) (q x) refl (filter_and p q xs)
  where
    step : (b c : Bool) → c ≡ q x → filter (λ y. p y && q y) xs ≡ filter q (filter p xs) → cond (b && c) (x ∷ filter (λ y. p y && q y) xs) (filter (λ y. p y && q y) xs) ≡ filter q (cond b (x ∷ filter p xs) (filter p xs))
    step true true e h = ap (λ ys. x ∷ ys) h ∙ ap (λ c. cond c (x ∷ filter q (filter p xs)) (filter q (filter p xs))) e
    step true false e h = h ∙ ap (λ c. cond c (x ∷ filter q (filter p xs)) (filter q (filter p xs))) e
    step false c e h = h

pub filter_given : (m : ℕ) (p q : ℕ → Bool) → ((n : ℕ) → n ≤ m → p n ≡ q n) → (ns : List ℕ) → kept_packets.AreGiven m ns → filter p ns ≡ filter q ns
filter_given m p q same [] g = refl
filter_given m p q same (n ∷ ns) g =
    ap (λ b. cond b (n ∷ filter p ns) (filter p ns)) (same n g.0)
    ∙ ap (λ (rest : List ℕ). cond (q n) (n ∷ rest) rest) (filter_given m p q same ns g.1)

pub filter-from_first : (p : ℕ → Bool) (ns : List ℕ) → filter p (way_lists.from_first p ns) ≡ filter p ns
filter-from_first p [] = refl
filter-from_first p (n ∷ ns) = step (p n) refl (filter-from_first p ns)
  where
    step : (b : Bool) → b ≡ p n → filter p (way_lists.from_first p ns) ≡ filter p ns → filter p (cond b (n ∷ ns) (way_lists.from_first p ns)) ≡ cond b (n ∷ filter p ns) (filter p ns)
    step true e h = ap (λ b. cond b (n ∷ filter p ns) (filter p ns)) (sym e)
    step false e h = h

pub front-from_first : (p : ℕ → Bool) (ns : List ℕ) → slice_get (way_lists.from_first p ns) 0 ≡ slice_get (filter p ns) 0
front-from_first p [] = refl
front-from_first p (n ∷ ns) = step (p n) (front-from_first p ns)
  where
    step : (b : Bool) → slice_get (way_lists.from_first p ns) 0 ≡ slice_get (filter p ns) 0 → slice_get (cond b (n ∷ ns) (way_lists.from_first p ns)) 0 ≡ slice_get (cond b (n ∷ filter p ns) (filter p ns)) 0
    step true h = refl
    step false h = h

pub given-from_first : (m : ℕ) (p : ℕ → Bool) (ns : List ℕ) → kept_packets.AreGiven m ns → kept_packets.AreGiven m (way_lists.from_first p ns)
given-from_first m p [] g = g
given-from_first m p (n ∷ ns) g = step (p n) (given-from_first m p ns g.1)
  where
    step : (b : Bool) → kept_packets.AreGiven m (way_lists.from_first p ns) → kept_packets.AreGiven m (cond b (n ∷ ns) (way_lists.from_first p ns))
    step true h = g
    step false h = h

-- a kept packet is marked
pub numbers_above : (a b : End) (k n : ℕ) (slots : List bags.KeptPacket) → k < n → filter (λ m. not (nat_eq m k)) (way_lists.numbers_on a b n slots) ≡ way_lists.numbers_on a b n slots
numbers_above a b k n [] h = refl
numbers_above a b k n (s ∷ slots) h = step (not s.is_marked && way_lists.is_on a b s.packet) (not (nat_eq n k)) (differ n k h) (numbers_above a b k (suc n) slots (omega (arith, h)))
  where
    differ : (x y : ℕ) → y < x → not (nat_eq x y) ≡ true
    differ x y lt = grind (arith, nat_tests)

    step : (c d : Bool) → not (nat_eq n k) ≡ true → filter (λ m. not (nat_eq m k)) (way_lists.numbers_on a b (suc n) slots) ≡ way_lists.numbers_on a b (suc n) slots
        → filter (λ m. not (nat_eq m k)) (cond c (n ∷ way_lists.numbers_on a b (suc n) slots) (way_lists.numbers_on a b (suc n) slots)) ≡ cond c (n ∷ way_lists.numbers_on a b (suc n) slots) (way_lists.numbers_on a b (suc n) slots)
    step true d e f = ap (λ x. cond x (n ∷ filter (λ m. not (nat_eq m k)) (way_lists.numbers_on a b (suc n) slots)) (filter (λ m. not (nat_eq m k)) (way_lists.numbers_on a b (suc n) slots))) e ∙ ap (λ (ns : List ℕ). n ∷ ns) f
    step false d e f = f

apart : (n k : ℕ) → n < k → not (nat_eq n k) ≡ true
apart n k h = grind (arith, nat_tests)

alike : (n k : ℕ) → n ≡ k → not (nat_eq n k) ≡ false
alike n k h = grind (arith, nat_tests)

pub numbers_marked : (a b : End) (n i k : ℕ) (slots : List bags.KeptPacket) → k ≡ n + i
    → way_lists.numbers_on a b n (positions.change_place marked slots (suc i)) ≡ filter (λ m. not (nat_eq m k)) (way_lists.numbers_on a b n slots)
numbers_marked a b n i k [] e = refl
numbers_marked a b n zero k (s ∷ slots) e = step (not s.is_marked && way_lists.is_on a b s.packet)
  where
    still : filter (λ m. not (nat_eq m k)) (way_lists.numbers_on a b (suc n) slots) ≡ way_lists.numbers_on a b (suc n) slots
    still = numbers_above a b k (suc n) slots (omega (arith, e))

    out : not (nat_eq n k) ≡ false
    out = alike n k (omega (arith, e))

    step : (c : Bool) → way_lists.numbers_on a b (suc n) slots ≡ filter (λ m. not (nat_eq m k)) (cond c (n ∷ way_lists.numbers_on a b (suc n) slots) (way_lists.numbers_on a b (suc n) slots))
    step true = sym (ap (λ x. cond x (n ∷ filter (λ m. not (nat_eq m k)) (way_lists.numbers_on a b (suc n) slots)) (filter (λ m. not (nat_eq m k)) (way_lists.numbers_on a b (suc n) slots))) out ∙ still)
    step false = sym still
numbers_marked a b n (suc i) k (s ∷ slots) e = step (not s.is_marked && way_lists.is_on a b s.packet) (numbers_marked a b (suc n) i k slots (omega (arith, e)))
  where
    stays : not (nat_eq n k) ≡ true
    stays = apart n k (omega (arith, e))

    step : (c : Bool) → way_lists.numbers_on a b (suc n) (positions.change_place marked slots (suc i)) ≡ filter (λ m. not (nat_eq m k)) (way_lists.numbers_on a b (suc n) slots)
        → cond c (n ∷ way_lists.numbers_on a b (suc n) (positions.change_place marked slots (suc i))) (way_lists.numbers_on a b (suc n) (positions.change_place marked slots (suc i)))
        ≡ filter (λ m. not (nat_eq m k)) (cond c (n ∷ way_lists.numbers_on a b (suc n) slots) (way_lists.numbers_on a b (suc n) slots))
    step true h = ap (λ (ns : List ℕ). n ∷ ns) h ∙ sym (ap (λ x. cond x (n ∷ filter (λ m. not (nat_eq m k)) (way_lists.numbers_on a b (suc n) slots)) (filter (λ m. not (nat_eq m k)) (way_lists.numbers_on a b (suc n) slots))) stays)
    step false h = h

-- a packet that is marked changes nothing on another way
pub numbers_beside : (a b : End) (n i : ℕ) (slots : List bags.KeptPacket) (s : bags.KeptPacket) → slice_get slots i ≡ Some s → way_lists.is_on a b s.packet ≡ false
    → way_lists.numbers_on a b n (positions.change_place marked slots (suc i)) ≡ way_lists.numbers_on a b n slots
numbers_beside a b n i [] s e out = refl
numbers_beside a b n zero (t ∷ slots) s e out = sym (ap (λ c. cond c (n ∷ way_lists.numbers_on a b (suc n) slots) (way_lists.numbers_on a b (suc n) slots)) (none (not t.is_marked) (way_lists.is_on a b t.packet) (ap (λ (u : bags.KeptPacket). way_lists.is_on a b u.packet) (same_Some t s e) ∙ out)))
  where
    none : (x y : Bool) → y ≡ false → x && y ≡ false
    none true y h = h
    none false y h = refl
numbers_beside a b n (suc i) (t ∷ slots) s e out = ap (λ (ns : List ℕ). cond (not t.is_marked && way_lists.is_on a b t.packet) (n ∷ ns) ns) (numbers_beside a b (suc n) i slots s e out)

and_true : (b : Bool) → b && true ≡ b
and_true true = refl
and_true false = refl

and_false : (b : Bool) → b && false ≡ false
and_false true = refl
and_false false = refl

differ : (x y : ℕ) → y < x → not (nat_eq x y) ≡ true
differ x y h = grind (arith, nat_tests)

shift : (x y : ℕ) → nat_eq x y ≡ nat_eq (suc x) (suc y)
shift x y = grind (arith, nat_tests)

open_place : (slots : List bags.KeptPacket) (i k : ℕ) → way_lists.is_waiting (slice_get (positions.change_place marked slots (suc i)) k) ≡ way_lists.is_waiting (slice_get slots k) && not (nat_eq k i)
open_place [] i k = refl
open_place (s ∷ slots) zero zero = sym (ap (λ b. not s.is_marked && b) (alike 0 0 refl) ∙ and_false (not s.is_marked))
open_place (s ∷ slots) zero (suc k) = sym (ap (λ b. way_lists.is_waiting (slice_get slots k) && b) (differ (suc k) 0 (omega arith)) ∙ and_true (way_lists.is_waiting (slice_get slots k)))
open_place (s ∷ slots) (suc i) zero = sym (ap (λ b. not s.is_marked && b) (apart 0 (suc i) (omega arith)) ∙ and_true (not s.is_marked))
open_place (s ∷ slots) (suc i) (suc k) = open_place slots i k ∙ ap (λ b. way_lists.is_waiting (slice_get slots k) && not b) (shift k i)

same_number : (k i m g : ℕ) → suc k ≡ m - g → nat_eq k i ≡ nat_eq m (suc g + i)
same_number k i m g e = grind (arith, nat_tests)

pub open_marked : (gone i : ℕ) (slots : List bags.KeptPacket) (m : ℕ) → way_lists.open_at gone (positions.change_place marked slots (suc i)) m ≡ way_lists.open_at gone slots m && not (nat_eq m (suc gone + i))
open_marked gone i slots m = at (m - gone) refl
  where
    at : (q : ℕ) → q ≡ m - gone → way_lists.is_waiting (lists.at_place (positions.change_place marked slots (suc i)) q) ≡ way_lists.is_waiting (lists.at_place slots q) && not (nat_eq m (suc gone + i))
    at zero e = refl
    at (suc k) e = open_place slots i k ∙ ap (λ b. way_lists.is_waiting (slice_get slots k) && not b) (same_number k i m gone e)

-- one way, after a packet is marked
waits_marked : (sent gone i : ℕ) (slots : List bags.KeptPacket) (w : way_lists.Way) → kept_packets.IsWayIndexed sent gone slots w
    → filter (way_lists.open_at gone (positions.change_place marked slots (suc i))) w.waiting ≡ way_lists.numbers_on w.«from» w.to (suc gone) (positions.change_place marked slots (suc i))
waits_marked sent gone i slots w h =
    filter_agree (way_lists.open_at gone (positions.change_place marked slots (suc i))) (λ m. way_lists.open_at gone slots m && not (nat_eq m (suc gone + i))) (open_marked gone i slots) w.waiting
    ∙ filter_and (way_lists.open_at gone slots) (λ m. not (nat_eq m (suc gone + i))) w.waiting
    ∙ ap (filter (λ m. not (nat_eq m (suc gone + i)))) h.waits
    ∙ sym (numbers_marked w.«from» w.to (suc gone) i (suc gone + i) slots refl)

pub indexed_beside : (sent gone i : ℕ) (slots : List bags.KeptPacket) (s : bags.KeptPacket) (w : way_lists.Way) → slice_get slots i ≡ Some s → way_lists.goes s.packet w ≡ false → kept_packets.IsWayIndexed sent gone slots w
    → kept_packets.IsWayIndexed sent gone (positions.change_place marked slots (suc i)) w
indexed_beside sent gone i slots s w e out h = record {
  given = h.given;
  waits = waits_marked sent gone i slots w h;
  front = h.front ∙ ap (λ (ns : List ℕ). slice_get ns 0) (sym (numbers_beside w.«from» w.to (suc gone) i slots s e out));
}

pub indexed_trimmed : (sent gone i : ℕ) (slots : List bags.KeptPacket) (w : way_lists.Way) → kept_packets.IsWayIndexed sent gone slots w
    → kept_packets.IsWayIndexed sent gone (positions.change_place marked slots (suc i)) (way_lists.without_front (way_lists.open_at gone (positions.change_place marked slots (suc i))) w)
indexed_trimmed sent gone i slots w h =
    let test : ℕ → Bool = way_lists.open_at gone (positions.change_place marked slots (suc i)) in
    let waits : filter test w.waiting ≡ way_lists.numbers_on w.«from» w.to (suc gone) (positions.change_place marked slots (suc i)) = waits_marked sent gone i slots w h in
    record {
      given = given-from_first sent test w.waiting h.given;
      waits = filter-from_first test w.waiting ∙ waits;
      front = front-from_first test w.waiting ∙ ap (λ (ns : List ℕ). slice_get ns 0) waits;
    }

-- the packets that are served
pub served_marked : (ways : List way_lists.Way) (slots : List bags.KeptPacket) (p : ℕ) → kept_packets.AreServed ways slots → kept_packets.AreServed ways (positions.change_place marked slots p)
served_marked ways slots zero h = h
served_marked ways [] (suc p) h = h
served_marked ways (s ∷ slots) (suc zero) h = h
served_marked ways (s ∷ slots) (suc (suc p)) h = (h.0, served_marked ways slots (suc p) h.1)

any_changed : (f : way_lists.Way → way_lists.Way) (p : Packet) → ((w : way_lists.Way) → way_lists.goes p (f w) ≡ way_lists.goes p w) → (ways : List way_lists.Way) (k : ℕ) → list_any (way_lists.goes p) (positions.change_place f ways k) ≡ list_any (way_lists.goes p) ways
any_changed f p same ways zero = refl
any_changed f p same [] (suc k) = refl
any_changed f p same (w ∷ ways) (suc zero) = ap (λ b. b || list_any (way_lists.goes p) ways) (same w)
any_changed f p same (w ∷ ways) (suc (suc k)) = ap (λ b. way_lists.goes p w || b) (any_changed f p same ways (suc k))

pub served_changed : (f : way_lists.Way → way_lists.Way) → ((p : Packet) (w : way_lists.Way) → way_lists.goes p (f w) ≡ way_lists.goes p w) → (ways : List way_lists.Way) (k : ℕ) (slots : List bags.KeptPacket) → kept_packets.AreServed ways slots → kept_packets.AreServed (positions.change_place f ways k) slots
served_changed f same ways k [] h = h
served_changed f same ways k (s ∷ slots) h = (any_changed f s.packet (same s.packet) ways k ∙ h.0, served_changed f same ways k slots h.1)

-- how many are not marked
pub count_marked : (n i : ℕ) (slots : List bags.KeptPacket) (s : bags.KeptPacket) → slice_get slots i ≡ Some s → s.is_marked ≡ false
    → suc (length (bags.unmarked_from n (positions.change_place marked slots (suc i)))) ≡ length (bags.unmarked_from n slots)
count_marked n i [] s e m = cc
count_marked n zero (t ∷ slots) s e m = sym (ap (λ b. length (cond b (bags.unmarked_from (suc n) slots) ((n, t.packet) ∷ bags.unmarked_from (suc n) slots))) (ap (λ (u : bags.KeptPacket). u.is_marked) (same_Some t s e) ∙ m))
count_marked n (suc i) (t ∷ slots) s e m = step t.is_marked (count_marked (suc n) i slots s e m)
  where
    step : (b : Bool) → suc (length (bags.unmarked_from (suc n) (positions.change_place marked slots (suc i)))) ≡ length (bags.unmarked_from (suc n) slots)
        → suc (length (cond b (bags.unmarked_from (suc n) (positions.change_place marked slots (suc i))) ((n, t.packet) ∷ bags.unmarked_from (suc n) (positions.change_place marked slots (suc i))))) ≡ length (cond b (bags.unmarked_from (suc n) slots) ((n, t.packet) ∷ bags.unmarked_from (suc n) slots))
    step true h = h
    step false h = ap suc h

-- a packet goes on a way where the way is between its ends
pub goes_same : (a b : End) (p : Packet) (w : way_lists.Way) → p.«from» ≡ a → p.to ≡ b → way_lists.goes p w ≡ true → (w.«from» ≡ a) × (w.to ≡ b)
goes_same a b p w e f h = let t = both (bags.same_end w.«from» p.«from») (bags.same_end w.to p.to) h in (same_end-true w.«from» p.«from» t.0 ∙ e, same_end-true w.to p.to t.1 ∙ f)

pub goes_there : (p : Packet) (w : way_lists.Way) → w.«from» ≡ p.«from» → w.to ≡ p.to → way_lists.goes p w ≡ true
goes_there p w e f = rw (e, f, same_end-refl p.«from», same_end-refl p.to)

-- what stands at a place of the ways, one of which changed
pub changed_at : (f : way_lists.Way → way_lists.Way) (ways : List way_lists.Way) (j i : ℕ) (v : way_lists.Way) → slice_get (positions.change_place f ways (suc j)) i ≡ Some v
    → ((i ≡ j) × ((w : way_lists.Way) × (slice_get ways i ≡ Some w) × (v ≡ f w))) ⊎ ((i ≢ j) × (slice_get ways i ≡ Some v))
changed_at f [] j i v e = inr (absurd (let c : None ≡ Some v = e in cc), e)
changed_at f (w ∷ ways) zero zero v e = inl (refl, (w, refl, sym (same_Some (f w) v e)))
changed_at f (w ∷ ways) zero (suc i) v e = inr (λ c. omega (arith, c), e)
changed_at f (w ∷ ways) (suc j) zero v e = inr (λ c. omega (arith, c), e)
changed_at f (w ∷ ways) (suc j) (suc i) v e = elim (changed_at f ways j i v e) [
  | inl h ↦ inl (ap suc h.0, h.1)
  | inr h ↦ inr ((λ c. h.0 (omega (arith, c))), h.1)
]

-- all, after a packet is marked and its way trimmed
pub packets_marked : (sent gone i unmarked left j : ℕ) (slots : List bags.KeptPacket) (s : bags.KeptPacket) (ways : List way_lists.Way) → slice_get slots i ≡ Some s → s.is_marked ≡ false → suc left ≡ unmarked
    → way_lists.IsPlaceOf ways s.packet.«from» s.packet.to j → kept_packets.ArePackets sent gone slots unmarked ways
    → kept_packets.ArePackets sent gone (positions.change_place marked slots (suc i)) left (positions.change_place (way_lists.without_front (way_lists.open_at gone (positions.change_place marked slots (suc i)))) ways (suc j))
packets_marked sent gone i unmarked left j slots s ways e m less place h = record {
  within = omega (arith, h.within, length-change_place marked slots (suc i));
  rest = h.rest ∙ ap (λ n. sent - n) (sym (length-change_place marked slots (suc i)));
  counted = let c = count_marked (suc gone) i slots s e m in omega (arith, c, less, h.counted);
  indexed = λ k v g. elim (changed_at (way_lists.without_front (way_lists.open_at gone (positions.change_place marked slots (suc i)))) ways j k v g) [
    | inl t ↦ let P : way_lists.Way → Type 0 = kept_packets.IsWayIndexed sent gone (positions.change_place marked slots (suc i)) in subst P (sym t.1.2) (indexed_trimmed sent gone i slots t.1.0 (h.indexed k t.1.0 t.1.1))
    | inr t ↦ indexed_beside sent gone i slots s v e (not_true (way_lists.goes s.packet v) (λ on. let same = goes_same s.packet.«from» s.packet.to s.packet v refl refl on in t.0 (place.only k v t.1 same.0 same.1))) (h.indexed k v t.1)
  ];
  served = served_changed (way_lists.without_front (way_lists.open_at gone (positions.change_place marked slots (suc i)))) (λ p w. refl) ways (suc j) (positions.change_place marked slots (suc i)) (served_marked ways slots (suc i) h.served);
}
