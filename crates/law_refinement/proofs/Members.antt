-- A node of a system, after transitions of its own.
use Rattle.std.proofs.Common.{◌≡◌, ℕ, zero, suc, List, [], ◌∷◌, refl, ap, sym}
use Rattle.std.specs.Prelude.{true, Some}
use Rattle.ax_types.specs.Places as lists
use Rattle.spec_raft.specs.Positions as positions
use Rattle.spec_node.specs.Node as nodes
use Rattle.spec_cluster.specs.Cluster as clusters
use Rattle.spec_transitions.specs.Systems as systems

-- a place changed twice is changed once
pub change_twice : {X : Type 0} (xs : List X) (p : ℕ) (a b : X) → positions.change_place (λ old. b) (positions.change_place (λ old. a) xs p) p ≡ positions.change_place (λ old. b) xs p
change_twice xs zero a b = refl
change_twice [] (suc p) a b = refl
change_twice (x ∷ xs) (suc zero) a b = refl
change_twice (x ∷ xs) (suc (suc p)) a b = ap (λ ys. x ∷ ys) (change_twice xs (suc p) a b)

-- what stands at a place, put there again
pub change_same : {X : Type 0} (xs : List X) (p : ℕ) (a : X) → lists.at_place xs p ≡ Some a → positions.change_place (λ old. a) xs p ≡ xs
change_same xs zero a e = refl
change_same [] (suc p) a e = refl
change_same (x ∷ xs) (suc zero) a e = let h : x ≡ a = cc (e) in ap (λ y. y ∷ xs) (sym h)
change_same (x ∷ xs) (suc (suc p)) a e = ap (λ ys. x ∷ ys) (change_same xs (suc p) a e)

-- what stands at a changed place
pub change_here : {X : Type 0} (xs : List X) (p : ℕ) (a b : X) → lists.at_place xs p ≡ Some a → lists.at_place (positions.change_place (λ old. b) xs p) p ≡ Some b
change_here xs zero a b e = cc (e)
change_here [] (suc p) a b e = cc (e)
change_here (x ∷ xs) (suc zero) a b e = refl
change_here (x ∷ xs) (suc (suc p)) a b e = change_here xs (suc p) a b e

pub stands : (s : systems.System) (j : ℕ) (n m : nodes.Node) → systems.IsUp s j n → systems.IsUp (systems.with_node s j m) j m
stands s j n m up = change_here s.cluster.members j (record { is_up = true; node = n }) (record { is_up = true; node = m }) up

pub member_again : (s : systems.System) (j : ℕ) (a b : clusters.Member) → systems.member_changed (systems.member_changed s j a) j b ≡ systems.member_changed s j b
member_again s j a b = ap (λ ms. let t : systems.System = record s { cluster = record s.cluster { members = ms } } in t) (change_twice s.cluster.members j a b)

pub node_again : (s : systems.System) (j : ℕ) (n m : nodes.Node) → systems.with_node (systems.with_node s j n) j m ≡ systems.with_node s j m
node_again s j n m = member_again s j (record { is_up = true; node = n }) (record { is_up = true; node = m })

pub node_same : (s : systems.System) (j : ℕ) (n : nodes.Node) → systems.IsUp s j n → systems.with_node s j n ≡ s
node_same s j n up = ap (λ ms. let t : systems.System = record s { cluster = record s.cluster { members = ms } } in t) (change_same s.cluster.members j (record { is_up = true; node = n }) up)
