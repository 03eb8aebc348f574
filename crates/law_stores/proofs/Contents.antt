-- What the stores hold is what the nodes of an execution keep.
use Rattle.std.proofs.Common.{◌≡◌, ℕ, zero, suc, ◌+◌, ◌≤◌, List, [], ◌∷◌, ◌++◌, length, take, map, refl, ap, sym, ◌∙◌, subst, arith}
use Rattle.std.specs.Prelude.{Bool, true, false, nat_eq, Option, Some, None, if◌then◌else◌}
use Rattle.std.specs.List.{AllByRecursion}
use Rattle.std.proofs.lemmas.Bool.Decides.{nat_tests}
use Rattle.std.proofs.lemmas.List.{append-nil}
use Rattle.std.proofs.Math.Seq.{take-nil}
use Rattle.ax_types.specs.Places as lists
use Rattle.ax_types.specs.declared.entries.Entry.{Entry}
use Rattle.ax_types.specs.declared.entries.Loaded.{Loaded}
use Rattle.spec_node.specs.Node as raft_nodes
use Rattle.spec_node.specs.Saving as saving
use Rattle.spec_cluster.specs.Cluster as clusters
use Rattle.spec_world.specs.Worlds as worlds
use Rattle.spec_run.specs.KeptStores as kept_stores
use Rattle.law_refinement.proofs.Tests.{same_test}
use Rattle.law_growth.proofs.Cases.{none_some, some_same}
use Rattle.law_hosts.specs.Hosts as hosts
use Rattle.law_hosts.proofs.Members.{up_member, down_member}
use Rattle.law_stores.proofs.Settled.{IsSettled}

-- how many entries at stake each store holds, the first of number k
abbrev pub held_from : (k : ℕ) (hs : List worlds.Host) (cs : List Loaded) → kept_stores.AreContents hs cs → ℕ → ℕ
held_from k [] [] a i = 0
held_from k [] (c ∷ cs) a i = 0
held_from k (h ∷ hs) [] a i = 0
held_from k (h ∷ hs) (c ∷ cs) a i = if nat_eq i k then a.0.added else held_from (suc k) hs cs a.1 i

abbrev pub keeps : clusters.Member → Loaded
keeps m = raft_nodes.kept_of m.node

-- nothing at stake
none_more : (kept : Loaded) (added : ℕ) → saving.with_rest kept [] added ≡ kept
none_more kept added = ap (λ es. let x : Loaded = record kept { log = kept.log ++ es } in x) (take-nil added) ∙ ap (λ log. let x : Loaded = record kept { log = log } in x) (append-nil kept.log)

held_by_up : (h : worlds.Host) (added : ℕ) → IsSettled h → h.is_up ≡ true → worlds.content_with h added ≡ worlds.kept_by h
held_by_up h added f up = ap (λ es. saving.with_rest (worlds.kept_by h) es added) (f up) ∙ none_more (worlds.kept_by h) added

content : (f : ℕ → ℕ) (n k : ℕ) (h : worlds.Host) (c : Loaded) (x : kept_stores.IsContent h c) → IsSettled h → f k ≡ x.added → (b : Bool) → h.is_up ≡ b → c ≡ keeps (hosts.member_of f n k h)
content f n k h c x s e true up = x.same ∙ held_by_up h x.added s up ∙ sym (ap keeps (up_member f n k h up))
content f n k h c x s e false down = x.same ∙ ap (worlds.content_with h) (sym e) ∙ sym (ap keeps (down_member f n k h down))

pub contents_from : (f : ℕ → ℕ) (n k : ℕ) (hs : List worlds.Host) (cs : List Loaded) (a : kept_stores.AreContents hs cs) → AllByRecursion IsSettled hs → ((d : ℕ) → f (k + d) ≡ held_from k hs cs a (k + d)) → cs ≡ map keeps (hosts.members_from f n k hs)
contents_from f n k [] [] a s e = refl
contents_from f n k [] (c ∷ cs) a s e = absurd a
contents_from f n k (h ∷ hs) [] a s e = absurd a
contents_from f n k (h ∷ hs) (c ∷ cs) a s e =
    let here : f k ≡ a.0.added = subst (λ i. f i ≡ held_from k (h ∷ hs) (c ∷ cs) a i) (let q : k + 0 ≡ k = omega arith in q) (e 0) ∙ ap (λ b. if b then a.0.added else held_from (suc k) hs cs a.1 k) (same_test k k refl) in
    let later : (d : ℕ) → f (suc k + d) ≡ held_from (suc k) hs cs a.1 (suc k + d) =
    (λ d. let other : nat_eq (suc k + d) k ≡ false = grind (arith, nat_tests) in
    subst (λ i. f i ≡ held_from k (h ∷ hs) (c ∷ cs) a i) (let q : k + suc d ≡ suc k + d = omega arith in q) (e (suc d)) ∙ ap (λ b. if b then a.0.added else held_from (suc k) hs cs a.1 (suc k + d)) other) in
    ap (λ x. x ∷ cs) (content f n k h c a.0 s.0 here h.is_up refl) ∙ ap (λ xs. keeps (hosts.member_of f n k h) ∷ xs) (contents_from f n (suc k) hs cs a.1 s.1 later)

-- what holds at each place holds of all
pub all_places : {X : Type 0} (P : X → Type 0) (xs : List X) → ((k : ℕ) (x : X) → lists.at_place xs k ≡ Some x → P x) → AllByRecursion P xs
all_places P [] f = tt
all_places {X = X} P (x ∷ xs) f = (f 1 x refl, all_places P xs rest)
  where
    rest : (k : ℕ) (y : X) → lists.at_place xs k ≡ Some y → P y
    rest zero y e = none_some y e
    rest (suc k) y e = f (suc (suc k)) y e

-- lists by place
pub map_there : {X Y : Type 0} (f : X → Y) (xs : List X) (k : ℕ) (x : X) → lists.at_place xs k ≡ Some x → lists.at_place (map f xs) k ≡ Some (f x)
map_there f xs zero x e = none_some x e
map_there f [] (suc k) x e = none_some x e
map_there f (y ∷ xs) (suc zero) x e = ap (λ z. Some (f z)) (some_same y x e)
map_there f (y ∷ xs) (suc (suc k)) x e = map_there f xs (suc k) x e

pub record Comes {X Y : Type 0} (f : X → Y) (xs : List X) (k : ℕ) (y : Y) : Type 0 where
  pub from : X
  pub there : lists.at_place xs k ≡ Some from
  pub same : f from ≡ y

pub map_back : {X Y : Type 0} (f : X → Y) (xs : List X) (k : ℕ) (y : Y) → lists.at_place (map f xs) k ≡ Some y → Comes f xs k y
map_back f xs zero y e = none_some y e
map_back f [] (suc k) y e = none_some y e
map_back f (x ∷ xs) (suc zero) y e = record { from = x; there = refl; same = some_same (f x) y e }
map_back f (x ∷ xs) (suc (suc k)) y e = let r = map_back f xs (suc k) y e in record { from = r.from; there = r.there; same = r.same }

pub there_within : {X : Type 0} (xs : List X) (k : ℕ) → 1 ≤ k → k ≤ length xs → (x : X) × (lists.at_place xs k ≡ Some x)
there_within xs zero low high = absurd (omega (arith, low))
there_within [] (suc k) low high = absurd (omega (arith, high))
there_within (x ∷ xs) (suc zero) low high = (x, refl)
there_within (x ∷ xs) (suc (suc k)) low high = there_within xs (suc k) (omega arith) (let h : suc (suc k) ≤ suc (length xs) = high in omega (arith, h))

pub within_there : {X : Type 0} (xs : List X) (k : ℕ) (x : X) → lists.at_place xs k ≡ Some x → k ≤ length xs
within_there xs zero x e = none_some x e
within_there [] (suc k) x e = none_some x e
within_there (y ∷ xs) (suc zero) x e = omega arith
within_there (y ∷ xs) (suc (suc k)) x e = let r = within_there xs (suc k) x e in omega (arith, r)

pub there_in_take : {X : Type 0} (n : ℕ) (xs : List X) (k : ℕ) → k ≤ n → lists.at_place (take n xs) k ≡ lists.at_place xs k
there_in_take n xs zero le = refl
there_in_take zero xs (suc k) le = absurd (omega (arith, le))
there_in_take (suc n) [] (suc k) le = refl
there_in_take (suc n) (x ∷ xs) (suc zero) le = refl
there_in_take (suc n) (x ∷ xs) (suc (suc k)) le = there_in_take n xs (suc k) (let h : suc (suc k) ≤ suc n = le in omega (arith, h))
