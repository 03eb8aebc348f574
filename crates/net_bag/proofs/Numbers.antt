-- Ends, ways and links are told apart by their numbers.
use Rattle.std.proofs.Common.{◌≡◌, ℕ, ◌+◌, ◌-◌, ◌*◌, ◌<◌, ◌≤◌, Bool, true, false, ◌&&◌, ◌||◌, nat_eq, nat_lt, if◌then◌else◌, ◌⊎◌, inl, inr, refl, sym, ap, ◌∙◌, arith, cond, subst}
use Rattle.std.proofs.lemmas.Bool.Decides.{nat_tests}
use Rattle.ax_types.specs.declared.ids.End.{End}
use Rattle.ax_types.specs.declared.ids.End.TheVariants as end
use Rattle.spec_cluster.specs.Bag as bags
use Rattle.net_bag.specs.EndNumbers as ends

pub end_small : (a : End) → ends.IsEnd a → ends.end_number a < 25
end_small (end.Node k) h = omega (arith, h.0, h.1)
end_small (end.Client c) h = omega (arith, h.0, h.1)

pub end_same : (a b : End) → ends.IsEnd a → ends.IsEnd b → ends.end_number a ≡ ends.end_number b → a ≡ b
end_same (end.Node j) (end.Node k) g h e = let q : j ≡ k = omega (arith, g.0, h.0, e) in ap end.Node q
end_same (end.Node j) (end.Client d) g h e = absurd (omega (arith, g.0, g.1, h.0, e))
end_same (end.Client c) (end.Node k) g h e = absurd (omega (arith, g.0, h.0, h.1, e))
end_same (end.Client c) (end.Client d) g h e = let q : c ≡ d = omega (arith, e) in ap end.Client q

nat_eq-true : (j k : ℕ) → nat_eq j k ≡ true → j ≡ k
nat_eq-true j k e = grind (arith, nat_tests)

nat_eq-refl : (k : ℕ) → nat_eq k k ≡ true
nat_eq-refl k = grind (arith, nat_tests)

pub same_end-true : (a b : End) → bags.same_end a b ≡ true → a ≡ b
same_end-true (end.Node j) (end.Node k) e = ap end.Node (nat_eq-true j k e)
same_end-true (end.Node j) (end.Client d) e = cc
same_end-true (end.Client c) (end.Node k) e = cc
same_end-true (end.Client c) (end.Client d) e = ap end.Client (nat_eq-true c d e)

pub same_end-refl : (a : End) → bags.same_end a a ≡ true
same_end-refl (end.Node k) = nat_eq-refl k
same_end-refl (end.Client c) = nat_eq-refl c

split : (x y z w : ℕ) → y < 25 → w < 25 → 25 * x + y ≡ 25 * z + w → (x ≡ z) × (y ≡ w)
split x y z w g h e = (omega arith, omega arith)

-- ways with the same number are the same
pub way_same : (a b c d : End) → ends.IsEnd a → ends.IsEnd b → ends.IsEnd c → ends.IsEnd d → ends.way_number a b ≡ ends.way_number c d → (a ≡ c) × (b ≡ d)
way_same a b c d ha hb hc hd e =
    let parts : (ends.end_number a ≡ ends.end_number c) × (ends.end_number b ≡ ends.end_number d) = split (ends.end_number a) (ends.end_number b) (ends.end_number c) (ends.end_number d) (end_small b hb) (end_small d hd) e in
    (end_same a c ha hc parts.0, end_same b d hb hd parts.1)

link_split : (x y z w : ℕ) → x < 25 → y < 25 → z < 25 → w < 25 → (p q : Bool) → cond p (25 * x + y) (25 * y + x) ≡ cond q (25 * z + w) (25 * w + z) → ((x ≡ z) × (y ≡ w)) ⊎ ((x ≡ w) × (y ≡ z))
link_split x y z w hx hy hz hw true true e = let s : (x ≡ z) × (y ≡ w) = split x y z w hy hw e in inl s
link_split x y z w hx hy hz hw true false e = let s : (x ≡ w) × (y ≡ z) = split x y w z hy hz e in inr s
link_split x y z w hx hy hz hw false true e = let s : (y ≡ z) × (x ≡ w) = split y x z w hx hw e in inr (s.1, s.0)
link_split x y z w hx hy hz hw false false e = let s : (y ≡ w) × (x ≡ z) = split y x w z hx hz e in inl (s.1, s.0)

-- links with the same number are the same
pub link_same : (a b c d : End) → ends.IsEnd a → ends.IsEnd b → ends.IsEnd c → ends.IsEnd d → ends.link_number a b ≡ ends.link_number c d → ((a ≡ c) × (b ≡ d)) ⊎ ((a ≡ d) × (b ≡ c))
link_same a b c d ha hb hc hd e =
    elim (link_split (ends.end_number a) (ends.end_number b) (ends.end_number c) (ends.end_number d) (end_small a ha) (end_small b hb) (end_small c hc) (end_small d hd) (nat_lt (ends.end_number a) (ends.end_number b)) (nat_lt (ends.end_number c) (ends.end_number d)) e) [
      | inl s ↦ inl (end_same a c ha hc s.0, end_same b d hb hd s.1)
      | inr s ↦ inr (end_same a d ha hd s.0, end_same b c hb hc s.1)
    ]

link_swap : (x y : ℕ) → cond (nat_lt x y) (25 * x + y) (25 * y + x) ≡ cond (nat_lt y x) (25 * y + x) (25 * x + y)
link_swap x y = grind (arith, nat_tests)

pub link_number-swap : (a b : End) → ends.link_number a b ≡ ends.link_number b a
link_number-swap a b = link_swap (ends.end_number a) (ends.end_number b)

or_swap : (x y : Bool) → x || y ≡ y || x
or_swap true true = refl
or_swap true false = refl
or_swap false true = refl
or_swap false false = refl

pub between-swap : (a b : End) (l : bags.Link) → bags.is_between a b l ≡ bags.is_between b a l
between-swap a b l = or_swap (bags.same_end l.one a && bags.same_end l.other b) (bags.same_end l.one b && bags.same_end l.other a)

pub both : (x y : Bool) → x && y ≡ true → (x ≡ true) × (y ≡ true)
both true true e = (refl, refl)
both true false e = cc
both false y e = cc

either : (x y : Bool) → x || y ≡ true → (x ≡ true) ⊎ (y ≡ true)
either true y e = inl refl
either false y e = inr e

pub between-true : (a b : End) (l : bags.Link) → bags.is_between a b l ≡ true → ((l.one ≡ a) × (l.other ≡ b)) ⊎ ((l.one ≡ b) × (l.other ≡ a))
between-true a b l e = elim (either (bags.same_end l.one a && bags.same_end l.other b) (bags.same_end l.one b && bags.same_end l.other a) e) [
  | inl h ↦ let p = both (bags.same_end l.one a) (bags.same_end l.other b) h in inl (same_end-true l.one a p.0, same_end-true l.other b p.1)
  | inr h ↦ let p = both (bags.same_end l.one b) (bags.same_end l.other a) h in inr (same_end-true l.one b p.0, same_end-true l.other a p.1)
]

pub between-self : (a b : End) → bags.is_between a b (record { one = a; other = b }) ≡ true
between-self a b = rw (same_end-refl a, same_end-refl b)

-- a link between two ends has their number
pub between_number : (a b : End) (l : bags.Link) → bags.is_between a b l ≡ true → ends.link_number l.one l.other ≡ ends.link_number a b
between_number a b l e = elim (between-true a b l e) [
  | inl h ↦ ap (λ (x : End). ends.link_number x l.other) h.0 ∙ ap (λ (y : End). ends.link_number a y) h.1
  | inr h ↦ ap (λ (x : End). ends.link_number x l.other) h.0 ∙ ap (λ (y : End). ends.link_number b y) h.1 ∙ link_number-swap b a
]

-- where two pairs of ends have one number, a link is between those where it is between these
pub between_same : (a b c d : End) (l : bags.Link) → ends.IsEnd a → ends.IsEnd b → ends.IsEnd c → ends.IsEnd d → ends.link_number a b ≡ ends.link_number c d → bags.is_between a b l ≡ bags.is_between c d l
between_same a b c d l ha hb hc hd e = elim (link_same a b c d ha hb hc hd e) [
  | inl h ↦ ap (λ (x : End). bags.is_between x b l) h.0 ∙ ap (λ (y : End). bags.is_between c y l) h.1
  | inr h ↦ ap (λ (x : End). bags.is_between x b l) h.0 ∙ ap (λ (y : End). bags.is_between d y l) h.1 ∙ between-swap d c l
]
