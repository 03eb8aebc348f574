-- What a step brings to a cluster, one by one.
use Rattle.std.proofs.Common.{◌≡◌, ℕ, zero, suc, ◌+◌, ◌-◌, ◌≤◌, ◌<◌, List, [], ◌∷◌, ◌++◌, length, take, map, length-append, refl, ap, sym, ◌∙◌, subst, arith}
use Rattle.std.specs.Prelude.{Bool, true, false, nat_lt, Option, Some, None, slice_get, replicate, if◌then◌else◌}
use Rattle.std.proofs.lemmas.Bool.Decides.{nat_tests}
use Rattle.ax_types.specs.Places as lists
use Rattle.ax_types.specs.declared.entries.Entry.{Entry}
use Rattle.ax_types.specs.declared.packets.Packet.{Packet}
use Rattle.spec_node.specs.Node as nodes
use Rattle.spec_cluster.specs.Bag as bags
use Rattle.spec_cluster.specs.Cluster as clusters
use Rattle.law_agreement.proofs.Members.{some_same, none_some}
use Rattle.law_agreement.proofs.Tests.{is_below, is_not_below}
use Rattle.raft_world.specs.Between.{GrowsAtEnd}

-- one more packet
pub packets_more : (bag : bags.Bag) (ps : List Packet) (p : Packet) → bags.with_packets bag (ps ++ p ∷ []) ≡ bags.with_packet (bags.with_packets bag ps) p
packets_more bag [] p = refl
packets_more bag (q ∷ ps) p = packets_more (bags.with_packet bag q) ps p

append_nested : {X : Type 0} (xs ys zs : List X) → (xs ++ ys) ++ zs ≡ xs ++ (ys ++ zs)
append_nested [] ys zs = refl
append_nested (x ∷ xs) ys zs = ap (λ ws. x ∷ ws) (append_nested xs ys zs)

append_none : {X : Type 0} (xs : List X) → xs ++ [] ≡ xs
append_none [] = refl
append_none (x ∷ xs) = ap (λ ws. x ∷ ws) (append_none xs)

-- one more of what is made of each
pub map_more : {X Y : Type 0} (f : X → Y) (zs : List Y) (xs : List X) (x : X) → (zs ++ map f xs) ++ f x ∷ [] ≡ zs ++ map f (xs ++ x ∷ [])
map_more f zs [] x = ap (λ ws. ws ++ f x ∷ []) (append_none zs)
map_more f [] (y ∷ xs) x = ap (λ ws. f y ∷ ws) (map_more f [] xs x)
map_more f (z ∷ zs) (y ∷ xs) x = ap (λ ws. z ∷ ws) (map_more f zs (y ∷ xs) x)

-- one more term
pub terms_more : (xs : List ℕ) (commit t : ℕ) → length xs < commit → xs ++ replicate (commit - length xs) t ≡ (xs ++ t ∷ []) ++ replicate (commit - length (xs ++ t ∷ [])) t
terms_more xs commit t h =
    let one : commit - length xs ≡ suc (commit - length (xs ++ t ∷ [])) = omega (arith, h, length-append xs (t ∷ [])) in
    ap (λ n. xs ++ replicate n t) one ∙ sym (append_nested xs (t ∷ []) (replicate (commit - length (xs ++ t ∷ [])) t))

pub terms_all : (xs : List ℕ) (commit t : ℕ) → commit ≤ length xs → xs ++ replicate (commit - length xs) t ≡ xs
terms_all xs commit t h =
    let none : commit - length xs ≡ 0 = omega (arith, h) in
    ap (λ n. xs ++ replicate n t) none ∙ append_none xs

-- the next entry
abbrev tail_of : {X : Type 0} → List X → List X
tail_of [] = []
tail_of (x ∷ xs) = xs

pub next_entry : {X : Type 0} (m : ℕ) (log xs rest : List X) (e : X) → take m log ≡ xs ++ rest → length xs < m → slice_get log (length xs) ≡ Some e → (more : List X) × (take m log ≡ (xs ++ e ∷ []) ++ more)
next_entry zero log xs rest e same lt at = absurd (omega (arith, lt))
next_entry (suc m) [] xs rest e same lt at = absurd (none_some e at)
next_entry (suc m) (y ∷ log) [] rest e same lt at = (take m log, ap (λ x. x ∷ take m log) (some_same y e at))
next_entry (suc m) (y ∷ log) (x ∷ xs) rest e same lt at =
    let r = next_entry m log xs rest e (ap tail_of same) (omega (arith, lt)) at in
    let head : y ≡ x = cc same in
    (r.0, (λ i. head i ∷ r.1 i))

length_take : {X : Type 0} (n : ℕ) (xs : List X) → n ≤ length xs → length (take n xs) ≡ n
length_take zero xs h = refl
length_take (suc n) [] h = absurd (omega (arith, h))
length_take (suc n) (x ∷ xs) h = ap suc (length_take n xs (omega (arith, h)))

so_far : (g : List Entry) (n : nodes.Node) → length g < n.commit → clusters.entries_so_far g n ≡ take n.commit n.log
so_far g n h = ap (λ b. if b then take n.commit n.log else g) (is_below (length g) n.commit h)

so_far_same : (g : List Entry) (n : nodes.Node) → n.commit ≤ length g → clusters.entries_so_far g n ≡ g
so_far_same g n h = ap (λ b. if b then take n.commit n.log else g) (is_not_below (length g) n.commit h)

-- what is committed so far, on the way to all of it
pub record IsOnTheWay (first now : List Entry) (n : nodes.Node) : Type 0 where
  pub grows : GrowsAtEnd now (clusters.entries_so_far first n)
  pub longer : length first ≤ length now

pub commits_more : (first now : List Entry) (n : nodes.Node) (e : Entry) → IsOnTheWay first now n → length now < n.commit → lists.at_place n.log (length now + 1) ≡ Some e → IsOnTheWay first (now ++ e ∷ []) n
commits_more first now n e w h at =
    let all : clusters.entries_so_far first n ≡ take n.commit n.log = so_far first n (omega (arith, h, w.longer)) in
    let place : length now + 1 ≡ suc (length now) = omega arith in
    let r = next_entry n.commit n.log now w.grows.0 e (sym all ∙ w.grows.1) h (sym (ap (lists.at_place n.log) place) ∙ at) in
    record { grows = (r.0, all ∙ r.1); longer = omega (arith, w.longer, length-append now (e ∷ [])) }

no_rest : {X : Type 0} (xs rest : List X) → length (xs ++ rest) ≤ length xs → xs ++ rest ≡ xs
no_rest xs [] h = append_none xs
no_rest xs (r ∷ rest) h = absurd (omega (arith, h, length-append xs (r ∷ rest)))

length_case : (first : List Entry) (n : nodes.Node) (m : ℕ) (b : Bool) → nat_lt (length first) n.commit ≡ b → n.commit ≤ length n.log → n.commit ≤ m → length first ≤ m → length (if b then take n.commit n.log else first) ≤ m
length_case first n m true e within h k = omega (arith, h, length_take n.commit n.log within)
length_case first n m false e within h k = k

pub commits_all : (first now : List Entry) (n : nodes.Node) → IsOnTheWay first now n → n.commit ≤ length now → n.commit ≤ length n.log → now ≡ clusters.entries_so_far first n
commits_all first now n w h within =
    let short : length (clusters.entries_so_far first n) ≤ length now = length_case first n (length now) (nat_lt (length first) n.commit) refl within h w.longer in
    sym (w.grows.1 ∙ no_rest now w.grows.0 (subst (λ g. length g ≤ length now) w.grows.1 short))
