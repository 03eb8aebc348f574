-- The members of the cluster that stand for hosts.
use Rattle.std.proofs.Common.{◌≡◌, ℕ, zero, suc, ◌+◌, List, [], ◌∷◌, refl, ap, sym, ◌∙◌, subst, arith}
use Rattle.std.specs.Prelude.{◌≢◌, Bool, true, false, nat_eq, Option, Some, None, if◌then◌else◌}
use Rattle.ax_types.specs.Places as lists
use Rattle.spec_raft.specs.Positions as positions
use Rattle.spec_node.specs.Node as raft_nodes
use Rattle.spec_cluster.specs.Cluster as clusters
use Rattle.spec_world.specs.Worlds as worlds
use Rattle.law_refinement.proofs.Tests.{by_test, is_same, same_test}
use Rattle.law_growth.proofs.Cases.{none_some, some_same}
use Rattle.law_hosts.specs.Hosts as hosts

-- a host that is up, and one that is down
pub up_member : (stayed : ℕ → ℕ) (nodes k : ℕ) (h : worlds.Host) → h.is_up ≡ true → hosts.member_of stayed nodes k h ≡ record { is_up = true; node = h.server.raft }
up_member stayed nodes k h e =
    ap (λ (b : Bool). let m : clusters.Member = if b then record { is_up = true; node = h.server.raft } else record { is_up = false; node = raft_nodes.restarted k nodes (worlds.content_with h (stayed k)) } in m) e

pub down_member : (stayed : ℕ → ℕ) (nodes k : ℕ) (h : worlds.Host) → h.is_up ≡ false → hosts.member_of stayed nodes k h ≡ record { is_up = false; node = raft_nodes.restarted k nodes (worlds.content_with h (stayed k)) }
down_member stayed nodes k h e =
    ap (λ (b : Bool). let m : clusters.Member = if b then record { is_up = true; node = h.server.raft } else record { is_up = false; node = raft_nodes.restarted k nodes (worlds.content_with h (stayed k)) } in m) e

-- one host changes
changed_from : (stayed : ℕ → ℕ) (nodes a j : ℕ) (hs : List worlds.Host) (h : worlds.Host)
    → hosts.members_from stayed nodes a (positions.change_place (λ old. h) hs (suc j)) ≡ positions.change_place (λ old. hosts.member_of stayed nodes (a + j) h) (hosts.members_from stayed nodes a hs) (suc j)
changed_from stayed nodes a j [] h = refl
changed_from stayed nodes a zero (x ∷ hs) h = ap (λ n. hosts.member_of stayed nodes n h ∷ hosts.members_from stayed nodes (suc a) hs) (let e : a ≡ a + 0 = omega arith in e)
changed_from stayed nodes a (suc j) (x ∷ hs) h =
    ap (λ ms. hosts.member_of stayed nodes a x ∷ ms)
    (changed_from stayed nodes (suc a) j hs h ∙ ap (λ n. positions.change_place (λ old. hosts.member_of stayed nodes n h) (hosts.members_from stayed nodes (suc a) hs) (suc j)) (let e : suc a + j ≡ a + suc j = omega arith in e))

pub changed : (stayed : ℕ → ℕ) (nodes k : ℕ) (hs : List worlds.Host) (h : worlds.Host)
    → hosts.members_from stayed nodes 1 (positions.change_place (λ old. h) hs k) ≡ positions.change_place (λ old. hosts.member_of stayed nodes k h) (hosts.members_from stayed nodes 1 hs) k
changed stayed nodes zero hs h = refl
changed stayed nodes (suc j) hs h = changed_from stayed nodes 1 j hs h ∙ ap (λ n. positions.change_place (λ old. hosts.member_of stayed nodes n h) (hosts.members_from stayed nodes 1 hs) (suc j)) (let e : 1 + j ≡ suc j = omega arith in e)

-- what stands for a host
found_from : (stayed : ℕ → ℕ) (nodes a j : ℕ) (hs : List worlds.Host) (h : worlds.Host) → lists.at_place hs (suc j) ≡ Some h → lists.at_place (hosts.members_from stayed nodes a hs) (suc j) ≡ Some (hosts.member_of stayed nodes (a + j) h)
found_from stayed nodes a j [] h e = none_some h e
found_from stayed nodes a zero (x ∷ hs) h e = ap (λ y. Some (hosts.member_of stayed nodes a y)) (some_same x h e) ∙ ap (λ n. Some (hosts.member_of stayed nodes n h)) (let f : a ≡ a + 0 = omega arith in f)
found_from stayed nodes a (suc j) (x ∷ hs) h e = found_from stayed nodes (suc a) j hs h e ∙ ap (λ n. Some (hosts.member_of stayed nodes n h)) (let f : suc a + j ≡ a + suc j = omega arith in f)

pub found : (stayed : ℕ → ℕ) (nodes k : ℕ) (hs : List worlds.Host) (h : worlds.Host) → lists.at_place hs k ≡ Some h → lists.at_place (hosts.members_from stayed nodes 1 hs) k ≡ Some (hosts.member_of stayed nodes k h)
found stayed nodes zero hs h e = none_some h e
found stayed nodes (suc j) hs h e = found_from stayed nodes 1 j hs h e ∙ ap (λ n. Some (hosts.member_of stayed nodes n h)) (let f : 1 + j ≡ suc j = omega arith in f)

-- other hosts stand as before where only one store is taken to hold more
abbrev pub with_stayed : (ℕ → ℕ) → ℕ → ℕ → ℕ → ℕ
with_stayed stayed k added i = if nat_eq i k then added else stayed i

pub stayed_here : (stayed : ℕ → ℕ) (k added : ℕ) → with_stayed stayed k added k ≡ added
stayed_here stayed k added = ap (λ (b : Bool). if b then added else stayed k) (same_test k k refl)

stayed_there : (stayed : ℕ → ℕ) (k added i : ℕ) → i ≢ k → with_stayed stayed k added i ≡ stayed i
stayed_there stayed k added i ne = by_test (λ n. n ≡ stayed i) (nat_eq i k) added (stayed i) (λ e. absurd (ne (is_same i k e))) (λ e. refl)

same_member : (f g : ℕ → ℕ) (nodes k : ℕ) (h : worlds.Host) → f k ≡ g k → hosts.member_of f nodes k h ≡ hosts.member_of g nodes k h
same_member f g nodes k h e =
    ap (λ (c : ℕ). let m : clusters.Member = if h.is_up then record { is_up = true; node = h.server.raft } else record { is_up = false; node = raft_nodes.restarted k nodes (worlds.content_with h c) } in m) e

same_from : (f g : ℕ → ℕ) (nodes b : ℕ) (hs : List worlds.Host) → ((d : ℕ) → f (b + d) ≡ g (b + d)) → hosts.members_from f nodes b hs ≡ hosts.members_from g nodes b hs
same_from f g nodes b [] h = refl
same_from f g nodes b (x ∷ hs) h =
    let here : f b ≡ g b = subst (λ n. f n ≡ g n) (let e : b + 0 ≡ b = omega arith in e) (h 0) in
    ap (λ m. m ∷ hosts.members_from f nodes (suc b) hs) (same_member f g nodes b x here)
    ∙ ap (λ ms. hosts.member_of g nodes b x ∷ ms) (same_from f g nodes (suc b) hs (λ d. subst (λ n. f n ≡ g n) (let e : b + suc d ≡ suc b + d = omega arith in e) (h (suc d))))

others_from : (f g : ℕ → ℕ) (nodes a j : ℕ) (hs : List worlds.Host) (m : clusters.Member) → ((i : ℕ) → i ≢ a + j → f i ≡ g i)
    → positions.change_place (λ old. m) (hosts.members_from f nodes a hs) (suc j) ≡ positions.change_place (λ old. m) (hosts.members_from g nodes a hs) (suc j)
others_from f g nodes a j [] m h = refl
others_from f g nodes a zero (x ∷ hs) m h = ap (λ ms. m ∷ ms) (same_from f g nodes (suc a) hs (λ d. h (suc a + d) (λ e. omega (arith, e))))
others_from f g nodes a (suc j) (x ∷ hs) m h =
    ap (λ y. y ∷ positions.change_place (λ old. m) (hosts.members_from f nodes (suc a) hs) (suc j)) (same_member f g nodes a x (h a (λ e. omega (arith, e))))
    ∙ ap (λ ms. hosts.member_of g nodes a x ∷ ms) (others_from f g nodes (suc a) j hs m (λ i ne. h i (λ e. ne (e ∙ (let q : a + suc j ≡ suc a + j = omega arith in q)))))

-- where the store of host k is taken to hold so much, and then k changes
pub others : (stayed : ℕ → ℕ) (nodes k added : ℕ) (hs : List worlds.Host) (h : worlds.Host) (m : clusters.Member) → lists.at_place hs k ≡ Some h
    → positions.change_place (λ old. m) (hosts.members_from (with_stayed stayed k added) nodes 1 hs) k ≡ positions.change_place (λ old. m) (hosts.members_from stayed nodes 1 hs) k
others stayed nodes zero added hs h m at = none_some h at
others stayed nodes (suc j) added hs h m at = others_from (with_stayed stayed (suc j) added) stayed nodes 1 j hs m (λ i ne. stayed_there stayed (suc j) added i (λ e. ne (e ∙ (let q : suc j ≡ 1 + j = omega arith in q))))
