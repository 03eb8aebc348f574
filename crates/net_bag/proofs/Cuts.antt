-- The flags of links tell what is cut, after a link is cut and after it is joined.
use Rattle.std.proofs.Common.{◌≡◌, ◌≢◌, ℕ, zero, suc, ◌+◌, ◌*◌, nat_lt, cond, replicate, length-set, length-take, ◌<◌, ◌≤◌, Bool, true, false, not, ◌||◌, Some, None, List, [], ◌∷◌, ◌++◌, length, take, filter, set, refl, sym, ap, ◌∙◌, arith, ◌⊎◌, inl, inr}
use Rattle.std.specs.Prelude.{slice_get}
use Rattle.std.proofs.lemmas.Bool.{cases_eq}
use Rattle.std.proofs.lemmas.Option.{same_Some}
use Rattle.std.proofs.lemmas.List.{take_more_set, length-replicate}
use Rattle.std.specs.List.{list_any}
use Rattle.ax_types.specs.declared.ids.End.{End}
use Rattle.spec_cluster.specs.Bag as bags
use Rattle.net_bag.specs.EndNumbers as ends
use Rattle.net_bag.specs.Links as cut_links
use Rattle.net_bag.proofs.Numbers.{end_small, between_number, between_same, between-self}
use Rattle.net_bag.proofs.Flags.{not_true, get-replicate, get-set_same, get-set_other, any-push, any-without, any-beside, true_count, count-set_true, count-set_false, count-set_still, count_room, count_most, filter_most, filter_fewer}

-- where the numbers of two links differ, one is not between the other's ends
apart : (a b c d : End) (l : bags.Link) → ends.link_number c d ≢ ends.link_number a b → bags.is_between c d l ≡ true → bags.is_between a b l ≡ false
apart a b c d l ne e = not_true (bags.is_between a b l) (λ f. ne (sym (between_number c d l e) ∙ between_number a b l f))

other_link : (a b c d : End) → ends.link_number c d ≢ ends.link_number a b → bags.is_between c d (record { one = a; other = b }) ≡ false
other_link a b c d ne = not_true (bags.is_between c d (record { one = a; other = b })) (λ f. ne (sym (between_number c d (record { one = a; other = b }) f)))

or_true : (b : Bool) → b || true ≡ true
or_true true = refl
or_true false = refl

or_false : (b : Bool) → b || false ≡ b
or_false true = refl
or_false false = refl

-- a link is cut
pub told_cut : (links : List bags.Link) (flags : List Bool) (a b : End) → ends.IsEnd a → ends.IsEnd b → ends.link_number a b < length flags
    → cut_links.AreTold links flags → cut_links.AreTold (links ++ record { one = a; other = b } ∷ []) (set flags (ends.link_number a b) true)
told_cut links flags a b ha hb within told c d hc hd =
    let l : bags.Link = record { one = a; other = b } in
    let pushed : list_any (bags.is_between c d) (links ++ l ∷ []) ≡ list_any (bags.is_between c d) links || bags.is_between c d l = any-push (bags.is_between c d) links l in
    elim (cases_eq (ends.link_number c d) (ends.link_number a b)) [
      | inl e ↦
          ap (slice_get (set flags (ends.link_number a b) true)) e
          ∙ get-set_same flags (ends.link_number a b) true within
          ∙ ap Some (sym (pushed ∙ ap (λ x. list_any (bags.is_between c d) links || x) (between_same c d a b l hc hd ha hb e ∙ between-self a b) ∙ or_true (list_any (bags.is_between c d) links)))
      | inr ne ↦
          get-set_other flags (ends.link_number a b) (ends.link_number c d) true ne
          ∙ told c d hc hd
          ∙ ap Some (sym (pushed ∙ ap (λ x. list_any (bags.is_between c d) links || x) (other_link a b c d ne) ∙ or_false (list_any (bags.is_between c d) links)))
    ]

-- a link is joined
pub told_join : (links : List bags.Link) (flags : List Bool) (a b : End) → ends.IsEnd a → ends.IsEnd b → ends.link_number a b < length flags
    → cut_links.AreTold links flags → cut_links.AreTold (filter (λ l. not (bags.is_between a b l)) links) (set flags (ends.link_number a b) false)
told_join links flags a b ha hb within told c d hc hd =
    elim (cases_eq (ends.link_number c d) (ends.link_number a b)) [
      | inl e ↦
          ap (slice_get (set flags (ends.link_number a b) false)) e
          ∙ get-set_same flags (ends.link_number a b) false within
          ∙ ap Some (sym (any-without (bags.is_between c d) (bags.is_between a b) (λ l. between_same c d a b l hc hd ha hb e) links))
      | inr ne ↦
          get-set_other flags (ends.link_number a b) (ends.link_number c d) false ne
          ∙ told c d hc hd
          ∙ ap Some (sym (any-beside (bags.is_between c d) (bags.is_between a b) (λ l. apart a b c d l ne) links))
    ]

-- no link is cut twice
pub once_join : (links : List bags.Link) (flags : List Bool) (a b : End) (cut : Bool) → slice_get flags (ends.link_number a b) ≡ Some cut → list_any (bags.is_between a b) links ≡ cut
    → length links ≤ true_count flags → length (filter (λ l. not (bags.is_between a b l)) links) ≤ true_count (set flags (ends.link_number a b) false)
once_join links flags a b true e f h = omega (arith, count-set_false flags (ends.link_number a b) e, filter_fewer (bags.is_between a b) links f, h)
once_join links flags a b false e f h = omega (arith, count-set_still flags (ends.link_number a b) e, filter_most (λ l. not (bags.is_between a b l)) links, h)

small_split : (x y : ℕ) → x < 25 → y < 25 → (p : Bool) → cond p (25 * x + y) (25 * y + x) < 625
small_split x y hx hy true = omega arith
small_split x y hx hy false = omega arith

pub link_small : (a b : End) → ends.IsEnd a → ends.IsEnd b → ends.link_number a b < 625
link_small a b ha hb = small_split (ends.end_number a) (ends.end_number b) (end_small a ha) (end_small b hb) (nat_lt (ends.end_number a) (ends.end_number b))

count_none : (n : ℕ) → true_count (replicate n false) ≡ 0
count_none zero = refl
count_none (suc n) = omega (arith, count_none n)

-- no link is cut
pub links_none : (links : List bags.Link) (n : ℕ) (flags : List Bool) → length links ≡ 625 → n ≡ 625 → flags ≡ replicate n false → cut_links.IsLinks 0 links flags
links_none links n flags long e f = record {
  places = long;
  flag_count = ap length f ∙ length-replicate n false ∙ e;
  small = omega arith;
  told = λ a b ha hb. ap (λ (fs : List Bool). slice_get fs (ends.link_number a b)) f ∙ get-replicate n (ends.link_number a b) false (omega (arith, e, link_small a b ha hb));
  each_once = omega arith;
}

-- there is room for one more
pub room : (n k : ℕ) (links : List bags.Link) (flags : List Bool) → cut_links.IsLinks n links flags → slice_get flags k ≡ Some false → n < 625
room n k links flags h e = omega (arith, h.each_once, count_room flags k e, h.flag_count)

pub links_cut : (n k : ℕ) (links : List bags.Link) (flags : List Bool) (a b : End) → k ≡ ends.link_number a b → ends.IsEnd a → ends.IsEnd b → slice_get flags k ≡ Some false
    → cut_links.IsLinks n links flags → cut_links.IsLinks (n + 1) (set links n (record { one = a; other = b })) (set flags k true)
links_cut n k links flags a b e ha hb f h =
    let within : n < length links = omega (arith, room n k links flags h f, h.places) in
    let more : take (n + 1) (set links n (record { one = a; other = b })) ≡ take n links ++ record { one = a; other = b } ∷ [] = take_more_set links n (record { one = a; other = b }) within in
    record {
      places = length-set links n (record { one = a; other = b }) ∙ h.places;
      flag_count = length-set flags k true ∙ h.flag_count;
      small = omega (arith, room n k links flags h f);
      told = rw more (rw e (told_cut (take n links) flags a b ha hb (omega (arith, link_small a b ha hb, h.flag_count)) h.told));
      each_once = omega (arith, count-set_true flags k f, h.each_once);
    }

-- after the link between two ends is joined, those that are kept stand in front
pub links_join : (n m k : ℕ) (links after : List bags.Link) (flags : List Bool) (a b : End) → k ≡ ends.link_number a b → ends.IsEnd a → ends.IsEnd b
    → take m after ≡ filter (λ l. not (bags.is_between a b l)) (take n links) → m ≤ n → length after ≡ length links
    → cut_links.IsLinks n links flags → cut_links.IsLinks m after (set flags k false)
links_join n m k links after flags a b e ha hb f le long h =
    let counted : length (take n links) ≡ n = omega (arith, length-take n links, h.small, h.places) in
    let kept : length (take m after) ≡ m = omega (arith, length-take m after, le, h.small, h.places, long) in
    record {
      places = long ∙ h.places;
      flag_count = length-set flags k false ∙ h.flag_count;
      small = omega (arith, le, h.small);
      told = rw f (rw e (told_join (take n links) flags a b ha hb (omega (arith, link_small a b ha hb, h.flag_count)) h.told));
      each_once =
          let once : length (filter (λ l. not (bags.is_between a b l)) (take n links)) ≤ true_count (set flags (ends.link_number a b) false) = once_join (take n links) flags a b (list_any (bags.is_between a b) (take n links)) (h.told a b ha hb) refl (omega (arith, counted, h.each_once)) in
          rw e (omega (arith, once, kept, ap length f));
    }

-- what is cut then
pub cut_after : (n k : ℕ) (links value : List bags.Link) (flags : List Bool) (a b : End) → k ≡ ends.link_number a b → ends.IsEnd a → ends.IsEnd b → slice_get flags k ≡ Some false
    → cut_links.IsLinks n links flags → take n links ≡ value
    → take (n + 1) (set links n (record { one = a; other = b })) ≡ cond (list_any (bags.is_between a b) value) value (value ++ record { one = a; other = b } ∷ [])
cut_after n k links value flags a b e ha hb f h same =
    let l : bags.Link = record { one = a; other = b } in
    let within : n < length links = omega (arith, room n k links flags h f, h.places) in
    let told : Some (list_any (bags.is_between a b) (take n links)) ≡ Some false = sym (h.told a b ha hb) ∙ ap (slice_get flags) (sym e) ∙ f in
    let uncut : list_any (bags.is_between a b) value ≡ false = ap (list_any (bags.is_between a b)) (sym same) ∙ same_Some _ _ told in
    take_more_set links n l within
    ∙ ap (λ (ls : List bags.Link). ls ++ l ∷ []) same
    ∙ ap (λ x. cond x value (value ++ l ∷ [])) (sym uncut)

-- whether a link is cut
pub flag_told : (n k : ℕ) (links value : List bags.Link) (flags : List Bool) (a b : End) → k ≡ ends.link_number a b → ends.IsEnd a → ends.IsEnd b
    → cut_links.IsLinks n links flags → take n links ≡ value → slice_get flags k ≡ Some (list_any (bags.is_between a b) value)
flag_told n k links value flags a b e ha hb h same = ap (slice_get flags) e ∙ h.told a b ha hb ∙ ap (λ (ls : List bags.Link). Some (list_any (bags.is_between a b) ls)) same
