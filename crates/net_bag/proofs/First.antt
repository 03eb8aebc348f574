-- The first packet that nothing hinders is the first among the fronts of the ways.
use Rattle.std.proofs.Common.{◌≡◌, ℕ, zero, suc, ◌+◌, ◌-◌, ◌<◌, ◌≤◌, Bool, true, false, not, ◌||◌, ◌&&◌, nat_lt, cond, Option, Some, None, List, [], ◌∷◌, ◌++◌, length, refl, sym, ap, ◌∙◌, arith, ◌⊎◌, inl, inr, subst}
use Rattle.std.specs.Prelude.{slice_get, if◌then◌else◌}
use Rattle.std.specs.List.{list_any}
use Rattle.std.proofs.lemmas.Bool.Decides.{nat_tests}
use Rattle.ax_types.specs.declared.ids.End.{End}
use Rattle.ax_types.specs.declared.packets.Packet.{Packet}
use Rattle.spec_cluster.specs.Bag as bags
use Rattle.net_bag.specs.Ways as way_lists
use Rattle.net_bag.specs.KeptPackets as kept_packets
use Rattle.net_bag.specs.Reasons as reasons
use Rattle.net_bag.specs.Fronts as fronts
use Rattle.net_bag.proofs.Waiting.{goes_same}

-- the number of the first packet that is not marked and passes
abbrev pub first_such : (Packet → Bool) → ℕ → List bags.KeptPacket → Option ℕ
first_such t n [] = None
first_such t n (s ∷ slots) = cond (not s.is_marked && t s.packet) (Some n) (first_such t (suc n) slots)

pub first_same : (t u : Packet → Bool) → ((p : Packet) → t p ≡ u p) → (n : ℕ) (slots : List bags.KeptPacket) → first_such t n slots ≡ first_such u n slots
first_same t u same n [] = refl
first_same t u same n (s ∷ slots) =
    ap (λ b. cond (not s.is_marked && b) (Some n) (first_such t (suc n) slots)) (same s.packet)
    ∙ ap (λ o. cond (not s.is_marked && u s.packet) (Some n) o) (first_same t u same (suc n) slots)

pub first_none : (n : ℕ) (slots : List bags.KeptPacket) → first_such (λ p. false) n slots ≡ None
first_none n [] = refl
first_none n (s ∷ slots) = ap (λ b. cond b (Some n) (first_such (λ p. false) (suc n) slots)) (none (not s.is_marked)) ∙ first_none (suc n) slots
  where
    none : (b : Bool) → b && false ≡ false
    none true = refl
    none false = refl

-- no number below this one
abbrev pub IsFrom : ℕ → Option ℕ → Type 0
IsFrom n None = Unit {0}
IsFrom n (Some k) = n ≤ k

first_from : (t : Packet → Bool) (n : ℕ) (slots : List bags.KeptPacket) → IsFrom n (first_such t n slots)
first_from t n [] = tt
first_from t n (s ∷ slots) = step (not s.is_marked && t s.packet) (below n (first_such t (suc n) slots) (first_from t (suc n) slots))
  where
    below : (m : ℕ) (o : Option ℕ) → IsFrom (suc m) o → IsFrom m o
    below m None h = h
    below m (Some k) h = omega (arith, h)

    step : (b : Bool) → IsFrom n (first_such t (suc n) slots) → IsFrom n (cond b (Some n) (first_such t (suc n) slots))
    step true h = omega arith
    step false h = h

least_self : (n : ℕ) → fronts.least (Some n) (Some n) ≡ Some n
least_self n = grind (arith, nat_tests)

least_first : (n : ℕ) (o : Option ℕ) → IsFrom (suc n) o → fronts.least (Some n) o ≡ Some n
least_first n None h = refl
least_first n (Some k) h = ap (λ b. cond b (Some k) (Some n)) (over k n h)
  where
    over : (x y : ℕ) → suc y ≤ x → nat_lt x y ≡ false
    over x y le = grind (arith, nat_tests)

least_second : (n : ℕ) (o : Option ℕ) → IsFrom (suc n) o → fronts.least o (Some n) ≡ Some n
least_second n None h = refl
least_second n (Some k) h = ap (λ b. cond b (Some n) (Some k)) (under n k h)
  where
    under : (x y : ℕ) → suc x ≤ y → nat_lt x y ≡ true
    under x y le = grind (arith, nat_tests)

-- the first of those that pass one of two tests is the lesser of the first ones
pub first_or : (t u : Packet → Bool) (n : ℕ) (slots : List bags.KeptPacket) → fronts.least (first_such t n slots) (first_such u n slots) ≡ first_such (λ p. t p || u p) n slots
first_or t u n [] = refl
first_or t u n (s ∷ slots) = step (not s.is_marked) (t s.packet) (u s.packet) (first_from t (suc n) slots) (first_from u (suc n) slots) (first_or t u (suc n) slots)
  where
    step : (a b c : Bool) → IsFrom (suc n) (first_such t (suc n) slots) → IsFrom (suc n) (first_such u (suc n) slots) → fronts.least (first_such t (suc n) slots) (first_such u (suc n) slots) ≡ first_such (λ p. t p || u p) (suc n) slots
        → fronts.least (cond (a && b) (Some n) (first_such t (suc n) slots)) (cond (a && c) (Some n) (first_such u (suc n) slots)) ≡ cond (a && (b || c)) (Some n) (first_such (λ p. t p || u p) (suc n) slots)
    step false b c f g h = h
    step true false false f g h = h
    step true true false f g h = least_first n (first_such u (suc n) slots) g
    step true false true f g h = least_second n (first_such t (suc n) slots) f
    step true true true f g h = least_self n

-- the front of a way is its first packet
pub front_first : (a b : End) (n : ℕ) (slots : List bags.KeptPacket) → slice_get (way_lists.numbers_on a b n slots) 0 ≡ first_such (way_lists.is_on a b) n slots
front_first a b n [] = refl
front_first a b n (s ∷ slots) = step (not s.is_marked && way_lists.is_on a b s.packet) (front_first a b (suc n) slots)
  where
    step : (c : Bool) → slice_get (way_lists.numbers_on a b (suc n) slots) 0 ≡ first_such (way_lists.is_on a b) (suc n) slots
        → slice_get (cond c (n ∷ way_lists.numbers_on a b (suc n) slots) (way_lists.numbers_on a b (suc n) slots)) 0 ≡ cond c (Some n) (first_such (way_lists.is_on a b) (suc n) slots)
    step true h = refl
    step false h = h

-- the first packet that is delivered
pub first_up_such : (bag : bags.Bag) (up : List ℕ) (n : ℕ) (slots : List bags.KeptPacket) → bags.first_up bag up (bags.unmarked_from n slots) ≡ first_such (λ p. bags.is_unhindered (bags.hindrance bag up p)) n slots
first_up_such bag up n [] = refl
first_up_such bag up n (s ∷ slots) = step s.is_marked (first_up_such bag up (suc n) slots)
  where
    step : (b : Bool) → bags.first_up bag up (bags.unmarked_from (suc n) slots) ≡ first_such (λ p. bags.is_unhindered (bags.hindrance bag up p)) (suc n) slots
        → bags.first_up bag up (cond b (bags.unmarked_from (suc n) slots) ((n, s.packet) ∷ bags.unmarked_from (suc n) slots)) ≡ cond (not b && bags.is_unhindered (bags.hindrance bag up s.packet)) (Some n) (first_such (λ p. bags.is_unhindered (bags.hindrance bag up p)) (suc n) slots)
    step true h = h
    step false h = ap (λ o. cond (bags.is_unhindered (bags.hindrance bag up s.packet)) (Some n) o) h

-- whether a packet goes on one of these ways, which nothing hinders
abbrev pub goes_up : List bags.Link → List Bool → Packet → way_lists.Way → Bool
goes_up cuts up p w = bags.is_unhindered (reasons.way_hindrance cuts up w.«from» w.to) && way_lists.goes p w

front_of_way : (cuts : List bags.Link) (up : List Bool) (n : ℕ) (slots : List bags.KeptPacket) (w : way_lists.Way) → slice_get w.waiting 0 ≡ slice_get (way_lists.numbers_on w.«from» w.to n slots) 0
    → fronts.front_up cuts up w ≡ first_such (λ p. goes_up cuts up p w) n slots
front_of_way cuts up n slots w h = step (bags.is_unhindered (reasons.way_hindrance cuts up w.«from» w.to))
  where
    step : (b : Bool) → cond b (slice_get w.waiting 0) None ≡ first_such (λ p. b && way_lists.goes p w) n slots
    step true = h ∙ front_first w.«from» w.to n slots
    step false = sym (first_none n slots)

or_last : (x y z : Bool) → (x || y) || z ≡ x || (y || z)
or_last true y z = refl
or_last false y z = refl

pub among_such : (cuts : List bags.Link) (up : List Bool) (n : ℕ) (slots : List bags.KeptPacket) (t : Packet → Bool) (best : Option ℕ) (ways : List way_lists.Way) → best ≡ first_such t n slots
    → ((i : ℕ) (w : way_lists.Way) → slice_get ways i ≡ Some w → slice_get w.waiting 0 ≡ slice_get (way_lists.numbers_on w.«from» w.to n slots) 0)
    → fronts.first_among cuts up best ways ≡ first_such (λ p. t p || list_any (goes_up cuts up p) ways) n slots
among_such cuts up n slots t best [] e h = e ∙ first_same t (λ p. t p || false) (λ p. last (t p)) n slots
  where
    last : (b : Bool) → b ≡ b || false
    last true = refl
    last false = refl
among_such cuts up n slots t best (w ∷ ways) e h =
    among_such cuts up n slots (λ p. t p || goes_up cuts up p w) (fronts.least best (fronts.front_up cuts up w)) ways
    (ap (λ o. fronts.least o (fronts.front_up cuts up w)) e ∙ ap (λ o. fronts.least (first_such t n slots) o) (front_of_way cuts up n slots w (h 0 w refl)) ∙ first_or t (λ p. goes_up cuts up p w) n slots)
    (λ i v g. h (suc i) v g)
    ∙ first_same (λ p. (t p || goes_up cuts up p w) || list_any (goes_up cuts up p) ways) (λ p. t p || (goes_up cuts up p w || list_any (goes_up cuts up p) ways)) (λ p. or_last (t p) (goes_up cuts up p w) (list_any (goes_up cuts up p) ways)) n slots

-- what hinders a packet hinders its way
hindered : (cuts : List bags.Link) (bag : bags.Bag) (up : List Bool) (p : Packet) (w : way_lists.Way) → bag.cuts ≡ cuts → way_lists.goes p w ≡ true → bags.hindrance bag (reasons.nodes_up up) p ≡ reasons.way_hindrance cuts up w.«from» w.to
hindered cuts bag up p w e on =
    let same = goes_same p.«from» p.to p w refl refl on in
    ap (λ (cs : List bags.Link). reasons.way_hindrance cs up p.«from» p.to) e
    ∙ ap (λ (x : End). reasons.way_hindrance cuts up x p.to) (sym same.0)
    ∙ ap (λ (x : End). reasons.way_hindrance cuts up w.«from» x) (sym same.1)

-- a packet that goes on a way is unhindered where one of its ways is
up_somewhere : (cuts : List bags.Link) (bag : bags.Bag) (up : List Bool) (p : Packet) → bag.cuts ≡ cuts → (ways : List way_lists.Way) → list_any (way_lists.goes p) ways ≡ true
    → list_any (goes_up cuts up p) ways ≡ bags.is_unhindered (bags.hindrance bag (reasons.nodes_up up) p)
up_somewhere cuts bag up p e ways h = same ways ∙ ap (λ b. free && b) h ∙ last free
  where
    free : Bool
    free = bags.is_unhindered (bags.hindrance bag (reasons.nodes_up up) p)

    last : (b : Bool) → b && true ≡ b
    last true = refl
    last false = refl

    spread : (a b c : Bool) → (a && b) || (a && c) ≡ a && (b || c)
    spread true b c = refl
    spread false b c = refl

    one : (w : way_lists.Way) (c : Bool) → c ≡ way_lists.goes p w → bags.is_unhindered (reasons.way_hindrance cuts up w.«from» w.to) && c ≡ free && c
    one w true f = ap (λ o. bags.is_unhindered o && true) (sym (hindered cuts bag up p w e (sym f)))
    one w false f = none (bags.is_unhindered (reasons.way_hindrance cuts up w.«from» w.to)) free
      where
        none : (a b : Bool) → a && false ≡ b && false
        none true true = refl
        none true false = refl
        none false true = refl
        none false false = refl

    same : (ws : List way_lists.Way) → list_any (goes_up cuts up p) ws ≡ free && list_any (way_lists.goes p) ws
    same [] = none free
      where
        none : (b : Bool) → false ≡ b && false
        none true = refl
        none false = refl
    same (w ∷ ws) =
        ap (λ b. b || list_any (goes_up cuts up p) ws) (one w (way_lists.goes p w) refl)
        ∙ ap (λ b. (free && way_lists.goes p w) || b) (same ws)
        ∙ spread free (way_lists.goes p w) (list_any (way_lists.goes p) ws)

first_served : (t u : Packet → Bool) (ways : List way_lists.Way) → ((p : Packet) → list_any (way_lists.goes p) ways ≡ true → t p ≡ u p) → (n : ℕ) (slots : List bags.KeptPacket) → kept_packets.AreServed ways slots → first_such t n slots ≡ first_such u n slots
first_served t u ways same n [] h = refl
first_served t u ways same n (s ∷ slots) h =
    ap (λ b. cond (not s.is_marked && b) (Some n) (first_such t (suc n) slots)) (same s.packet h.0)
    ∙ ap (λ o. cond (not s.is_marked && u s.packet) (Some n) o) (first_served t u ways same (suc n) slots h.1)

-- the packet that a flush delivers next
pub next_first : (bag : bags.Bag) (cuts : List bags.Link) (up : List Bool) (ways : List way_lists.Way) → bag.cuts ≡ cuts → fronts.AreFronts (suc (bags.gone bag)) bag.kept ways
    → fronts.first_among cuts up None ways ≡ bags.next_up bag (reasons.nodes_up up)
next_first bag cuts up ways e h =
    among_such cuts up (suc (bags.gone bag)) bag.kept (λ p. false) None ways (sym (first_none (suc (bags.gone bag)) bag.kept)) h.fronts
    ∙ first_served (λ p. list_any (goes_up cuts up p) ways) (λ p. bags.is_unhindered (bags.hindrance bag (reasons.nodes_up up) p)) ways (λ p on. up_somewhere cuts bag up p e ways on) (suc (bags.gone bag)) bag.kept h.served
    ∙ sym (first_up_such bag (reasons.nodes_up up) (suc (bags.gone bag)) bag.kept)
