-- The members of a cluster, kept as two lists, after one of them changed.
use Rattle.std.proofs.Common.{◌≡◌, ℕ, zero, suc, ◌+◌, ◌-◌, ◌≤◌, ◌<◌, List, [], ◌∷◌, ◌++◌, length, map, set, refl, ap, sym, ◌∙◌, arith}
use Rattle.std.specs.Prelude.{Bool, true, false, Option, Some, None, slice_get, if◌then◌else◌}
use Rattle.std.specs.Option.{option_map}
use Rattle.ax_types.specs.Places as lists
use Rattle.spec_raft.specs.Positions as positions
use Rattle.spec_node.specs.Node as nodes
use Rattle.spec_cluster.specs.Cluster as clusters
use Rattle.law_agreement.proofs.Members.{some_same, none_some}
use Rattle.law_reads.proofs.Takens.{numbers_more}
use Rattle.raft_world.proofs.Gaining.{map_more}
use Rattle.raft_world.specs.Paired.{members_of, node_up, restarted_now, fallen, risen}

abbrev pub with_node : (nodes.Node → nodes.Node) → clusters.Member → clusters.Member
with_node f m = record m { node = f m.node }

abbrev pub with_both : Bool → (nodes.Node → nodes.Node) → clusters.Member → clusters.Member
with_both b f m = record { is_up = b; node = f m.node }

pub length_pairs : (us : List Bool) (ns : List nodes.Node) → length us ≡ length ns → length (members_of us ns) ≡ length ns
length_pairs [] ns e = e
length_pairs (u ∷ us) [] e = absurd (omega (arith, e))
length_pairs (u ∷ us) (n ∷ ns) e = ap suc (length_pairs us ns (omega (arith, e)))

pub at_pair : (us : List Bool) (ns : List nodes.Node) (i : ℕ) (u : Bool) (n : nodes.Node) → slice_get us i ≡ Some u → slice_get ns i ≡ Some n → lists.at_place (members_of us ns) (suc i) ≡ Some (record { is_up = u; node = n })
at_pair [] ns i u n e f = absurd (none_some u e)
at_pair (v ∷ us) [] i u n e f = absurd (none_some n f)
at_pair (v ∷ us) (o ∷ ns) zero u n e f = let a : v ≡ u = some_same v u e in let b : o ≡ n = some_same o n f in (λ j. Some (record { is_up = a j; node = b j }))
at_pair (v ∷ us) (o ∷ ns) (suc i) u n e f = at_pair us ns i u n e f

pub no_pair : (us : List Bool) (ns : List nodes.Node) (i : ℕ) → length us ≤ i → lists.at_place (members_of us ns) (suc i) ≡ None
no_pair [] ns i h = refl
no_pair (u ∷ us) [] i h = refl
no_pair (u ∷ us) (n ∷ ns) zero h = absurd (omega (arith, h))
no_pair (u ∷ us) (n ∷ ns) (suc i) h = no_pair us ns i (omega (arith, h))

-- one more at the end
pub pair_more : (us : List Bool) (ns : List nodes.Node) (u : Bool) (n : nodes.Node) → length us ≡ length ns → members_of (us ++ u ∷ []) (ns ++ n ∷ []) ≡ members_of us ns ++ record { is_up = u; node = n } ∷ []
pair_more [] [] u n e = refl
pair_more [] (m ∷ ns) u n e = absurd (omega (arith, e))
pair_more (v ∷ us) [] u n e = absurd (omega (arith, e))
pair_more (v ∷ us) (m ∷ ns) u n e = ap (λ ms. record { is_up = v; node = m } ∷ ms) (pair_more us ns u n (omega (arith, e)))

-- a node changes
pub pair_node : (f : nodes.Node → nodes.Node) (us : List Bool) (ns : List nodes.Node) (i : ℕ) → members_of us (positions.change_place f ns (suc i)) ≡ positions.change_place (with_node f) (members_of us ns) (suc i)
pair_node f [] ns i = refl
pair_node f (u ∷ us) [] i = refl
pair_node f (u ∷ us) (n ∷ ns) zero = refl
pair_node f (u ∷ us) (n ∷ ns) (suc i) = ap (λ ms. record { is_up = u; node = n } ∷ ms) (pair_node f us ns i)

-- a node changes, and whether it is up
pub pair_both : (f : nodes.Node → nodes.Node) (b : Bool) (us : List Bool) (ns : List nodes.Node) (i : ℕ)
    → members_of (positions.change_place (λ u. b) us (suc i)) (positions.change_place f ns (suc i)) ≡ positions.change_place (with_both b f) (members_of us ns) (suc i)
pair_both f b [] ns i = refl
pair_both f b (u ∷ us) [] zero = refl
pair_both f b (u ∷ us) [] (suc i) = refl
pair_both f b (u ∷ us) (n ∷ ns) zero = refl
pair_both f b (u ∷ us) (n ∷ ns) (suc i) = ap (λ ms. record { is_up = u; node = n } ∷ ms) (pair_both f b us ns i)

-- changes that are the same at what stands there
pub change_as : {X : Type 0} (f g : X → X) (xs : List X) (p : ℕ) (x : X) → lists.at_place xs p ≡ Some x → f x ≡ g x → positions.change_place f xs p ≡ positions.change_place g xs p
change_as f g xs zero x e h = refl
change_as f g [] (suc p) x e h = refl
change_as f g (y ∷ xs) (suc zero) x e h = let s : y ≡ x = some_same y x e in ap (λ z. z ∷ xs) (ap f s ∙ h ∙ ap g (sym s))
change_as f g (y ∷ xs) (suc (suc p)) x e h = ap (λ ys. y ∷ ys) (change_as f g xs (suc p) x e h)

pub change_still : {X : Type 0} (f : X → X) (xs : List X) (p : ℕ) (x : X) → lists.at_place xs p ≡ Some x → f x ≡ x → positions.change_place f xs p ≡ xs
change_still f xs zero x e h = refl
change_still f [] (suc p) x e h = refl
change_still f (y ∷ xs) (suc zero) x e h = let s : y ≡ x = some_same y x e in ap (λ z. z ∷ xs) (ap f s ∙ h ∙ sym s)
change_still f (y ∷ xs) (suc (suc p)) x e h = ap (λ ys. y ∷ ys) (change_still f xs (suc p) x e h)

pub change_none : {X : Type 0} (f : X → X) (xs : List X) (p : ℕ) → lists.at_place xs p ≡ None → positions.change_place f xs p ≡ xs
change_none f xs zero e = refl
change_none f [] (suc p) e = refl
change_none f (y ∷ xs) (suc zero) e = absurd (none_some y (sym e))
change_none f (y ∷ xs) (suc (suc p)) e = ap (λ ys. y ∷ ys) (change_none f xs (suc p) e)

-- the flags tell which members are up
flag_case : (u : Bool) (k : ℕ) (xs ys : List ℕ) → xs ≡ ys → (if u then k ∷ xs else xs) ≡ (if u then k ∷ ys else ys)
flag_case true k xs ys e = ap (λ zs. k ∷ zs) e
flag_case false k xs ys e = e

pub flags_tell : (us : List Bool) (ns : List nodes.Node) (k : ℕ) → length us ≡ length ns → lists.numbers_passing (λ b. b) k us ≡ lists.numbers_passing (λ (m : clusters.Member). m.is_up) k (members_of us ns)
flags_tell [] ns k e = refl
flags_tell (u ∷ us) [] k e = absurd (omega (arith, e))
flags_tell (u ∷ us) (n ∷ ns) k e = flag_case u k (lists.numbers_passing (λ b. b) (suc k) us) (lists.numbers_passing (λ (m : clusters.Member). m.is_up) (suc k) (members_of us ns)) (flags_tell us ns (suc k) (omega (arith, e)))

-- the first nodes of a new cluster, and one more
abbrev pub new_so_far : ℕ → ℕ → List clusters.Member
new_so_far count n = map (λ k. record { is_up = true; node = nodes.new_node k count }) (lists.numbers_from 1 n)

pub new_more : (count number : ℕ) → 1 ≤ number → new_so_far count (number - 1) ++ record { is_up = true; node = nodes.new_node number count } ∷ [] ≡ new_so_far count (number + 1 - 1)
new_more count number one =
    let here : 1 + (number - 1) ≡ number = omega (arith, one) in
    let next : suc (number - 1) ≡ number + 1 - 1 = omega (arith, one) in
    ap (λ k. new_so_far count (number - 1) ++ record { is_up = true; node = nodes.new_node k count } ∷ []) (sym here)
    ∙ map_more (λ (k : ℕ). let m : clusters.Member = record { is_up = true; node = nodes.new_node k count } in m) [] (lists.numbers_from 1 (number - 1)) (1 + (number - 1))
    ∙ ap (λ ks. map (λ (k : ℕ). let m : clusters.Member = record { is_up = true; node = nodes.new_node k count } in m) ks) (numbers_more 1 (number - 1))
    ∙ ap (new_so_far count) next

-- what stands at a place of both lists
pub node_at : (us : List Bool) (ns : List nodes.Node) (i : ℕ) (n : nodes.Node) → length us ≡ length ns → slice_get ns i ≡ Some n → option_map (λ (m : clusters.Member). m.node) (lists.at_place (members_of us ns) (suc i)) ≡ Some n
node_at [] [] i n e f = absurd (none_some n f)
node_at [] (o ∷ ns) i n e f = absurd (omega (arith, e))
node_at (u ∷ us) [] i n e f = absurd (none_some n f)
node_at (u ∷ us) (o ∷ ns) zero n e f = f
node_at (u ∷ us) (o ∷ ns) (suc i) n e f = node_at us ns i n (omega (arith, e)) f

pub up_false : (us : List Bool) (ns : List nodes.Node) (i : ℕ) → slice_get us i ≡ Some false → node_up (lists.at_place (members_of us ns) (suc i)) ≡ None
up_false [] ns i e = refl
up_false (u ∷ us) [] i e = refl
up_false (u ∷ us) (n ∷ ns) zero e = ap (λ b. if b then Some n else None) (some_same u false e)
up_false (u ∷ us) (n ∷ ns) (suc i) e = up_false us ns i e

pub up_past : (us : List Bool) (ns : List nodes.Node) (i : ℕ) → length us ≤ i → node_up (lists.at_place (members_of us ns) (suc i)) ≡ None
up_past us ns i h = ap node_up (no_pair us ns i h)

pub up_true : (us : List Bool) (ns : List nodes.Node) (i : ℕ) (n : nodes.Node) → slice_get us i ≡ Some true → slice_get ns i ≡ Some n → node_up (lists.at_place (members_of us ns) (suc i)) ≡ Some n
up_true us ns i n e f = ap node_up (at_pair us ns i true n e f)

-- what is made of a node
pub map_node : {X : Type 0} (f : nodes.Node → X) (o : Option clusters.Member) (n : nodes.Node) → option_map (λ (m : clusters.Member). m.node) o ≡ Some n → option_map (λ (m : clusters.Member). f m.node) o ≡ Some (f n)
map_node f None n e = absurd (none_some n e)
map_node f (Some m) n e = ap (λ x. Some (f x)) (some_same m.node n e)

-- a member changes, and nothing where there is none
pub change_past : (f : clusters.Member → clusters.Member) (us : List Bool) (ns : List nodes.Node) (i : ℕ) → length us ≤ i → positions.change_place f (members_of us ns) (suc i) ≡ members_of us ns
change_past f us ns i h = change_none f (members_of us ns) (suc i) (no_pair us ns i h)

pub fallen_off : (us : List Bool) (ns : List nodes.Node) (i : ℕ) → slice_get us i ≡ Some false → positions.change_place fallen (members_of us ns) (suc i) ≡ members_of us ns
fallen_off [] ns i e = refl
fallen_off (u ∷ us) [] i e = refl
fallen_off (u ∷ us) (n ∷ ns) zero e = ap (λ (m : clusters.Member). m ∷ members_of us ns) (ap (λ b. if b then clusters.fallen_member n (nodes.kept_of n) else record { is_up = u; node = n }) (some_same u false e))
fallen_off (u ∷ us) (n ∷ ns) (suc i) e = ap (λ ms. record { is_up = u; node = n } ∷ ms) (fallen_off us ns i e)

pub risen_on : (us : List Bool) (ns : List nodes.Node) (i : ℕ) → slice_get us i ≡ Some true → positions.change_place risen (members_of us ns) (suc i) ≡ members_of us ns
risen_on [] ns i e = refl
risen_on (u ∷ us) [] i e = refl
risen_on (u ∷ us) (n ∷ ns) zero e = ap (λ (m : clusters.Member). m ∷ members_of us ns) (ap (λ b. if b then record { is_up = u; node = n } else record { is_up = true; node = restarted_now n }) (some_same u true e))
risen_on (u ∷ us) (n ∷ ns) (suc i) e = ap (λ ms. record { is_up = u; node = n } ∷ ms) (risen_on us ns i e)

pub set_both : (f : nodes.Node → nodes.Node) (b : Bool) (us : List Bool) (ns : List nodes.Node) (i : ℕ) → members_of (set us i b) (positions.change_place f ns (suc i)) ≡ positions.change_place (with_both b f) (members_of us ns) (suc i)
set_both f b [] ns i = refl
set_both f b (u ∷ us) [] zero = refl
set_both f b (u ∷ us) [] (suc i) = refl
set_both f b (u ∷ us) (n ∷ ns) zero = refl
set_both f b (u ∷ us) (n ∷ ns) (suc i) = ap (λ ms. record { is_up = u; node = n } ∷ ms) (set_both f b us ns i)

pub crash_pair : (us : List Bool) (ns : List nodes.Node) (i : ℕ) → slice_get us i ≡ Some true → members_of (set us i false) (positions.change_place restarted_now ns (suc i)) ≡ positions.change_place fallen (members_of us ns) (suc i)
crash_pair [] ns i e = refl
crash_pair (u ∷ us) [] zero e = refl
crash_pair (u ∷ us) [] (suc i) e = refl
crash_pair (u ∷ us) (n ∷ ns) zero e = ap (λ (m : clusters.Member). m ∷ members_of us ns) (ap (λ b. if b then clusters.fallen_member n (nodes.kept_of n) else record { is_up = u; node = n }) (sym (some_same u true e)))
crash_pair (u ∷ us) (n ∷ ns) (suc i) e = ap (λ ms. record { is_up = u; node = n } ∷ ms) (crash_pair us ns i e)

pub start_pair : (us : List Bool) (ns : List nodes.Node) (i : ℕ) → slice_get us i ≡ Some false → members_of (set us i true) (positions.change_place restarted_now ns (suc i)) ≡ positions.change_place risen (members_of us ns) (suc i)
start_pair [] ns i e = refl
start_pair (u ∷ us) [] zero e = refl
start_pair (u ∷ us) [] (suc i) e = refl
start_pair (u ∷ us) (n ∷ ns) zero e = ap (λ (m : clusters.Member). m ∷ members_of us ns) (ap (λ b. if b then record { is_up = u; node = n } else record { is_up = true; node = restarted_now n }) (sym (some_same u false e)))
start_pair (u ∷ us) (n ∷ ns) (suc i) e = ap (λ ms. record { is_up = u; node = n } ∷ ms) (start_pair us ns i e)
