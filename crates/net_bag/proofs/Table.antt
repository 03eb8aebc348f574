-- The table of places finds the one way between two ends.
use Rattle.std.proofs.Common.{◌≡◌, ◌≢◌, ℕ, zero, suc, ◌+◌, ◌-◌, ◌*◌, ◌<◌, ◌≤◌, Bool, true, false, ◌||◌, ◌&&◌, cond, Option, Some, None, List, [], ◌∷◌, ◌++◌, length, map, set, get_or, refl, sym, ap, ◌∙◌, arith, ◌⊎◌, inl, inr, replicate, length-set, subst}
use Rattle.std.specs.Prelude.{slice_get, option_map}
use Rattle.std.specs.List.{list_any}
use Rattle.std.proofs.lemmas.Bool.{cases_eq}
use Rattle.std.proofs.lemmas.Option.{same_Some, slice_get-map, slice_get-get_or, slice_get_within}
use Rattle.std.proofs.lemmas.List.{length-replicate, length-map}
use Rattle.ax_types.specs.declared.ids.End.{End}
use Rattle.spec_raft.specs.Positions as positions
use Rattle.spec_cluster.specs.Bag as bags
use Rattle.net_bag.specs.EndNumbers as ends
use Rattle.net_bag.specs.Ways as way_lists
use Rattle.net_bag.proofs.Numbers.{end_small, way_same, same_end-true, same_end-refl, both}
use Rattle.net_bag.proofs.Flags.{get-set_same, get-set_other, get-replicate, not_true}

pub get-before : {X : Type 0} (xs ys : List X) (i : ℕ) (y : X) → slice_get xs i ≡ Some y → slice_get (xs ++ ys) i ≡ Some y
get-before [] ys i y e = cc
get-before (x ∷ xs) ys zero y e = e
get-before (x ∷ xs) ys (suc i) y e = get-before xs ys i y e

pub get-last : {X : Type 0} (xs : List X) (x : X) → slice_get (xs ++ x ∷ []) (length xs) ≡ Some x
get-last [] x = refl
get-last (y ∷ xs) x = get-last xs x

pub get-push : {X : Type 0} (xs : List X) (x y : X) (i : ℕ) → slice_get (xs ++ x ∷ []) i ≡ Some y → (slice_get xs i ≡ Some y) ⊎ ((i ≡ length xs) × (x ≡ y))
get-push [] x y zero e = inr (refl, same_Some x y e)
get-push [] x y (suc i) e = cc
get-push (z ∷ xs) x y zero e = inl e
get-push (z ∷ xs) x y (suc i) e = elim (get-push xs x y i e) [ inl h ↦ inl h | inr h ↦ inr (ap suc h.0, h.1) ]

pub map-push : {X Y : Type 0} (f : X → Y) (xs : List X) (x : X) → map f (xs ++ x ∷ []) ≡ map f xs ++ f x ∷ []
map-push f [] x = refl
map-push f (y ∷ xs) x = ap (λ ys. f y ∷ ys) (map-push f xs x)

-- where one of a list passes, so does the list
pub any-at : {X : Type 0} (p : X → Bool) (xs : List X) (i : ℕ) (x : X) → slice_get xs i ≡ Some x → p x ≡ true → list_any p xs ≡ true
any-at p [] i x e h = cc
any-at p (y ∷ xs) zero x e h = ap (λ b. b || list_any p xs) (ap p (same_Some y x e) ∙ h)
any-at p (y ∷ xs) (suc i) x e h = ap (λ b. p y || b) (any-at p xs i x e h) ∙ or_last (p y)
  where
    or_last : (b : Bool) → b || true ≡ true
    or_last true = refl
    or_last false = refl

-- where none of a list passes, the list does not
pub any-none : {X : Type 0} (p : X → Bool) (xs : List X) → ((i : ℕ) (x : X) → slice_get xs i ≡ Some x → p x ≡ true → ⊥) → list_any p xs ≡ false
any-none p [] no_one = refl
any-none p (y ∷ xs) no_one = ap (λ b. b || list_any p xs) (not_true (p y) (λ e. no_one 0 y refl e)) ∙ any-none p xs (λ i x e h. no_one (suc i) x e h)

pub is_from-true : (a b : End) (w : way_lists.Way) → way_lists.is_from a b w ≡ true → (w.«from» ≡ a) × (w.to ≡ b)
is_from-true a b w e = let p = both (bags.same_end a w.«from») (bags.same_end b w.to) e in (sym (same_end-true a w.«from» p.0), sym (same_end-true b w.to p.1))

pub is_from-same : (a b : End) (w : way_lists.Way) → w.«from» ≡ a → w.to ≡ b → way_lists.is_from a b w ≡ true
is_from-same a b w e f = rw (e, f, same_end-refl a, same_end-refl b)

number_same : (a b : End) (w : way_lists.Way) → w.«from» ≡ a → w.to ≡ b → way_lists.number_of_way w ≡ ends.way_number a b
number_same a b w e f = ap (λ (x : End). ends.way_number x w.to) e ∙ ap (λ (y : End). ends.way_number a y) f

way_split : (x y : ℕ) → x < 25 → y < 25 → 25 * x + y < 625
way_split x y hx hy = omega arith

pub way_small : (a b : End) → ends.IsEnd a → ends.IsEnd b → ends.way_number a b < 625
way_small a b ha hb = way_split (ends.end_number a) (ends.end_number b) (end_small a ha) (end_small b hb)

found_at : (ways : List way_lists.Way) (a b : End) (i k : ℕ) (o : Option way_lists.Way) → o ≡ slice_get ways i → option_map way_lists.number_of_way o ≡ Some k → k ≡ ends.way_number a b → ends.IsEnd a → ends.IsEnd b
    → ((j : ℕ) (w : way_lists.Way) → slice_get ways j ≡ Some w → way_lists.IsWay w)
    → (w : way_lists.Way) × (slice_get ways i ≡ Some w) × (w.«from» ≡ a) × (w.to ≡ b)
found_at ways a b i k None e h f ha hb real = absurd (let c : None ≡ Some k = h in cc)
found_at ways a b i k (Some w) e h f ha hb real =
    let ready : way_lists.IsWay w = real i w (sym e) in
    let same : way_lists.number_of_way w ≡ ends.way_number a b = same_Some _ _ h ∙ f in
    let parts : (w.«from» ≡ a) × (w.to ≡ b) = way_same w.«from» w.to a b ready.0 ready.1 ha hb same in
    (w, sym e, parts.0, parts.1)

placed_at : (ways : List way_lists.Way) (places : List ℕ) (a b : End) (k j : ℕ) (w : way_lists.Way) → way_lists.AreWays ways places → k ≡ ends.way_number a b → slice_get ways j ≡ Some w → w.«from» ≡ a → w.to ≡ b → slice_get places k ≡ Some (suc j)
placed_at ways places a b k j w h e f g1 g2 = h.placed j k (slice_get-map way_lists.number_of_way ways j ∙ ap (option_map way_lists.number_of_way) f ∙ ap Some (number_same a b w g1 g2 ∙ sym e))

-- the place that the table has
pub place_there : (ways : List way_lists.Way) (places : List ℕ) (a b : End) (k : ℕ) → way_lists.AreWays ways places → ends.IsEnd a → ends.IsEnd b → k ≡ ends.way_number a b → 0 < get_or places k 0 → way_lists.IsPlaceOf ways a b (get_or places k 0 - 1)
place_there ways places a b k h ha hb e some =
    let within : k < length places = omega (arith, e, way_small a b ha hb, h.place_count) in
    let place : slice_get places k ≡ Some (get_or places k 0) = slice_get-get_or places k 0 within in
    let same : get_or places k 0 ≡ suc (get_or places k 0 - 1) = omega (arith, some) in
    let found : slice_get (map way_lists.number_of_way ways) (get_or places k 0 - 1) ≡ Some k = h.found (get_or places k 0 - 1) k (place ∙ ap Some same) in
    record {
      there = found_at ways a b (get_or places k 0 - 1) k (slice_get ways (get_or places k 0 - 1)) refl (sym (slice_get-map way_lists.number_of_way ways (get_or places k 0 - 1)) ∙ found) e ha hb h.real;
      only = λ j w f g1 g2. let q : suc j ≡ get_or places k 0 = same_Some _ _ (sym (placed_at ways places a b k j w h e f g1 g2) ∙ place) in omega (arith, q);
    }

-- where it has none there is no such way
pub place_nowhere : (ways : List way_lists.Way) (places : List ℕ) (a b : End) (k : ℕ) → way_lists.AreWays ways places → ends.IsEnd a → ends.IsEnd b → k ≡ ends.way_number a b → get_or places k 0 ≡ 0 → list_any (way_lists.is_from a b) ways ≡ false
place_nowhere ways places a b k h ha hb e none =
    let within : k < length places = omega (arith, e, way_small a b ha hb, h.place_count) in
    any-none (way_lists.is_from a b) ways (λ i w f t.
    let p : (w.«from» ≡ a) × (w.to ≡ b) = is_from-true a b w t in
    let q : suc i ≡ 0 = same_Some _ _ (sym (placed_at ways places a b k i w h e f p.0 p.1) ∙ slice_get-get_or places k 0 within ∙ ap Some none) in
    omega (arith, q))

-- a way that has a place is there
pub any-place : (ways : List way_lists.Way) (a b : End) (i : ℕ) → way_lists.IsPlaceOf ways a b i → list_any (way_lists.is_from a b) ways ≡ true
any-place ways a b i h = any-at (way_lists.is_from a b) ways i h.there.0 h.there.1 (is_from-same a b h.there.0 h.there.2 h.there.3)

pub place_within : (ways : List way_lists.Way) (a b : End) (i : ℕ) → way_lists.IsPlaceOf ways a b i → i < length ways
place_within ways a b i h = slice_get_within ways i h.there.0 h.there.1

pub ways_none : (n : ℕ) (places : List ℕ) → n ≡ 625 → places ≡ replicate n 0 → way_lists.AreWays [] places
ways_none n places e f = record {
  place_count = ap length f ∙ length-replicate n 0 ∙ e;
  real = λ i w g. absurd (let h : None ≡ Some w = g in cc);
  placed = λ i k g. absurd (let h : None ≡ Some k = g in cc);
  found = λ i k g. absurd (zeros n k i (sym (ap (λ (ps : List ℕ). slice_get ps k) f) ∙ g));
}
  where
    zeros : (m k i : ℕ) → slice_get (replicate m 0) k ≡ Some (suc i) → ⊥
    zeros zero k i g = let h : None ≡ Some (suc i) = g in cc
    zeros (suc m) zero i g = let h : 0 ≡ suc i = same_Some 0 (suc i) g in omega (arith, h)
    zeros (suc m) (suc k) i g = zeros m k i g

-- a way is added
pub ways_more : (ways : List way_lists.Way) (places : List ℕ) (a b : End) (k : ℕ) → way_lists.AreWays ways places → ends.IsEnd a → ends.IsEnd b → k ≡ ends.way_number a b → get_or places k 0 ≡ 0
    → way_lists.AreWays (ways ++ record { «from» = a; to = b; waiting = [] } ∷ []) (set places k (length ways + 1))
ways_more ways places a b k h ha hb e none =
    let within : k < length places = omega (arith, e, way_small a b ha hb, h.place_count) in
    let free : slice_get places k ≡ Some 0 = slice_get-get_or places k 0 within ∙ ap Some none in
    let new : way_lists.Way = record { «from» = a; to = b; waiting = [] } in
    let mapped : map way_lists.number_of_way (ways ++ new ∷ []) ≡ map way_lists.number_of_way ways ++ way_lists.number_of_way new ∷ [] = map-push way_lists.number_of_way ways new in
    record {
      place_count = length-set places k (length ways + 1) ∙ h.place_count;
      real = λ i w g. elim (get-push ways new w i g) [
        | inl old ↦ h.real i w old
        | inr last ↦ let P : way_lists.Way → Type 0 = way_lists.IsWay in subst P last.1 (ha, hb)
      ];
      placed = λ i m g. elim (get-push (map way_lists.number_of_way ways) (way_lists.number_of_way new) m i (sym (ap (λ (ns : List ℕ). slice_get ns i) mapped) ∙ g)) [
        | inl old ↦ elim (cases_eq m k) [
          | inl q ↦ absurd (let c : 0 ≡ suc i = same_Some 0 (suc i) (sym free ∙ sym (ap (slice_get places) q) ∙ h.placed i m old) in omega (arith, c))
          | inr ne ↦ get-set_other places k m (length ways + 1) ne ∙ h.placed i m old
        ]
        | inr last ↦
            let q : m ≡ k = sym last.1 ∙ sym e in
            let r : length ways + 1 ≡ suc i = omega (arith, last.0, length-map ways way_lists.number_of_way) in
            ap (slice_get (set places k (length ways + 1))) q ∙ get-set_same places k (length ways + 1) within ∙ ap Some r
      ];
      found = λ i m g. elim (cases_eq m k) [
        | inl q ↦
            let r : length ways + 1 ≡ suc i = same_Some _ _ (sym (get-set_same places k (length ways + 1) within) ∙ sym (ap (slice_get (set places k (length ways + 1))) q) ∙ g) in
            let s : i ≡ length (map way_lists.number_of_way ways) = omega (arith, r, length-map ways way_lists.number_of_way) in
            ap (λ (ns : List ℕ). slice_get ns i) mapped ∙ ap (slice_get (map way_lists.number_of_way ways ++ way_lists.number_of_way new ∷ [])) s ∙ get-last (map way_lists.number_of_way ways) (way_lists.number_of_way new) ∙ ap Some (sym e ∙ sym q)
        | inr ne ↦ ap (λ (ns : List ℕ). slice_get ns i) mapped ∙ get-before (map way_lists.number_of_way ways) (way_lists.number_of_way new ∷ []) i m (h.found i m (sym (get-set_other places k m (length ways + 1) ne) ∙ g))
      ];
    }

-- the new way is the one between its ends
pub place_new : (ways : List way_lists.Way) (a b : End) → list_any (way_lists.is_from a b) ways ≡ false → way_lists.IsPlaceOf (ways ++ record { «from» = a; to = b; waiting = [] } ∷ []) a b (length ways)
place_new ways a b none =
    let new : way_lists.Way = record { «from» = a; to = b; waiting = [] } in
    record {
      there = (new, get-last ways new, refl, refl);
      only = λ j w f g1 g2. elim (get-push ways new w j f) [
        | inl old ↦ absurd (let c : true ≡ false = sym (any-at (way_lists.is_from a b) ways j w old (is_from-same a b w g1 g2)) ∙ none in cc)
        | inr last ↦ last.0
      ];
    }

map-set_same : {X Y : Type 0} (f : X → Y) (xs : List X) (i : ℕ) (x y : X) → slice_get xs i ≡ Some x → f y ≡ f x → map f (set xs i y) ≡ map f xs
map-set_same f [] i x y e h = refl
map-set_same f (z ∷ xs) zero x y e h = ap (λ w. w ∷ map f xs) (h ∙ ap f (sym (same_Some z x e)))
map-set_same f (z ∷ xs) (suc i) x y e h = ap (λ ws. f z ∷ ws) (map-set_same f xs i x y e h)

-- a way changes but for its ends
pub ways_set : (ways : List way_lists.Way) (places : List ℕ) (i : ℕ) (w v : way_lists.Way) → slice_get ways i ≡ Some w → v.«from» ≡ w.«from» → v.to ≡ w.to → way_lists.AreWays ways places → way_lists.AreWays (set ways i v) places
ways_set ways places i w v e f g h =
    let mapped : map way_lists.number_of_way (set ways i v) ≡ map way_lists.number_of_way ways = map-set_same way_lists.number_of_way ways i w v e (number_same w.«from» w.to v f g) in
    record {
      place_count = h.place_count;
      real = λ j u d. elim (cases_eq j i) [
        | inl q ↦
            let same : v ≡ u = same_Some v u (sym (get-set_same ways i v (slice_get_within ways i w e)) ∙ sym (ap (slice_get (set ways i v)) q) ∙ d) in
            let P : way_lists.Way → Type 0 = way_lists.IsWay in
            let Q : End → Type 0 = ends.IsEnd in
            let old : way_lists.IsWay w = h.real i w e in
            subst P same (subst Q (sym f) old.0, subst Q (sym g) old.1)
        | inr ne ↦ h.real j u (sym (get-set_other ways i j v ne) ∙ d)
      ];
      placed = λ j k d. h.placed j k (sym (ap (λ (ns : List ℕ). slice_get ns j) mapped) ∙ d);
      found = λ j k d. ap (λ (ns : List ℕ). slice_get ns j) mapped ∙ h.found j k d;
    }

-- a list is set at a place, or what stands there is changed
pub set-change : {X : Type 0} (f : X → X) (xs : List X) (i : ℕ) (x y : X) → slice_get xs i ≡ Some x → y ≡ f x → set xs i y ≡ positions.change_place f xs (suc i)
set-change f [] i x y e h = refl
set-change f (z ∷ xs) zero x y e h = ap (λ w. w ∷ xs) (h ∙ ap f (sym (same_Some z x e)))
set-change f (z ∷ xs) (suc i) x y e h = ap (λ ws. z ∷ ws) (set-change f xs i x y e h)
