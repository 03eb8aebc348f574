-- What the stores hold of what is committed.
use Rattle.std.proofs.Common.{◌≡◌, ℕ, zero, suc, ◌+◌, ◌≤◌, ◌<◌, List, [], ◌∷◌, ◌++◌, length, take, drop, map, refl, ap, sym, ◌∙◌, subst, arith}
use Rattle.std.specs.Prelude.{Bool, true, false, IsTrue, ◌&&◌, nat_le, nat_lt, Option, Some, None, if◌then◌else◌}
use Rattle.std.specs.List.{AllByRecursion}
use Rattle.std.proofs.lemmas.Bool.Decides.{nat_tests}
use Rattle.std.proofs.lemmas.List.{take-append-drop, take_all}
use Rattle.ax_types.specs.Places as lists
use Rattle.ax_types.specs.declared.entries.Entry.{Entry}
use Rattle.ax_types.specs.declared.entries.Loaded.{Loaded}
use Rattle.ax_types.specs.declared.steps.KeptStep.{KeptStep}
use Rattle.spec_claims.specs.Once as once
use Rattle.spec_raft.specs.Majority as majorities
use Rattle.spec_raft.specs.Log as logs
use Rattle.spec_cluster.specs.Cluster as clusters
use Rattle.spec_transitions.specs.Systems as systems
use Rattle.spec_world.specs.Worlds as worlds
use Rattle.spec_run.specs.Run as runs
use Rattle.spec_run.specs.KeptStores as kept_stores
use Rattle.law_refinement.proofs.Tests.{both, and_true, is_within, within_test}
use Rattle.law_agreement.specs.Agreement as agreements
use Rattle.law_agreement.proofs.Agreement.{majority_keeps, newest_begins}
use Rattle.law_sessions.specs.Keeping as keeping
use Rattle.law_sessions.proofs.Kept.{stores_keep_acts, logs_begin_with_acts}
use Rattle.law_hosts.specs.Ledger as ledgers
use Rattle.law_hosts.specs.Hosts as hosts
use Rattle.law_hosts.proofs.Matched.{system_of}
use Rattle.law_hosts.proofs.Growth.{past_of}
use Rattle.law_hosts.proofs.Applied.{run_so_far, history_is_of_committed}
use Rattle.law_stores.specs.Stores as laws
use Rattle.law_stores.proofs.Settled.{IsSettled, run_settled}
use Rattle.law_stores.proofs.Contents.{held_from, keeps, contents_from, all_places, map_there, map_back, there_within, within_there, there_in_take}
use Rattle.law_stores.proofs.Newest.{IsUpTo, as_new, IsNewest, newest_from, newest_passes, IsChosen, all_chosen, has_chosen, counted}

-- counting over the nodes alone
counts_same : (p q : ℕ → Bool) (a b : ℕ) → ((i : ℕ) → a ≤ i → i < a + b → p i ≡ q i) → majorities.count p (lists.numbers_from a b) ≡ majorities.count q (lists.numbers_from a b)
counts_same p q a zero h = refl
counts_same p q a (suc b) h =
    ap (λ c. (if c then 1 else 0) + majorities.count p (lists.numbers_from (suc a) b)) (h a (omega arith) (omega arith))
    ∙ ap (λ c. (if q a then 1 else 0) + c) (counts_same p q (suc a) b (λ i low high. h i (omega (arith, low)) (omega (arith, high))))

abbrev within : ℕ → ℕ → Bool
within n k = nat_le 1 k && nat_le k n

length_map : {X Y : Type 0} (f : X → Y) (xs : List X) → length (map f xs) ≡ length xs
length_map f [] = refl
length_map f (x ∷ xs) = ap suc (length_map f xs)

length_members : (f : ℕ → ℕ) (n k : ℕ) (hs : List worlds.Host) → length (hosts.members_from f n k hs) ≡ length hs
length_members f n k [] = refl
length_members f n k (h ∷ hs) = ap suc (length_members f n (suc k) hs)

-- a log that begins as what is committed holds each entry of it
holds_entry : (committed log : List Entry) (p : ℕ) (e : Entry) → take (length committed) log ≡ take (length committed) committed → lists.at_place committed p ≡ Some e → lists.at_place log p ≡ Some e
holds_entry committed log p e same at =
    let le : p ≤ length committed = within_there committed p e at in
    sym (there_in_take (length committed) log p le) ∙ ap (λ es. lists.at_place es p) same ∙ there_in_take (length committed) committed p le ∙ at

begins_log : (committed log : List Entry) → take (length committed) log ≡ take (length committed) committed → once.Begins committed log
begins_log committed log same =
    (drop (length committed) log, sym (take-append-drop (length committed) log) ∙ ap (λ es. es ++ drop (length committed) log) (same ∙ take_all (length committed) committed (omega arith)))

-- the stores of a system
pub record IsStored (n : ℕ) (s : systems.System) (committed : List Entry) (contents : List Loaded) : Type 0 where
  pub kept : contents ≡ map keeps s.cluster.members
  pub many : length contents ≡ n
  pub same : s.cluster.committed ≡ committed
  pub majority : agreements.MajorityKeeps n s.cluster
  pub newest : agreements.NewestBegins n s.cluster

stands : (n : ℕ) (s : systems.System) (committed : List Entry) (contents : List Loaded) → IsStored n s committed contents → (k p : ℕ) (e : Entry) → lists.at_place committed p ≡ Some e
    → (some : ℕ → Bool) → ((j : ℕ) (m : clusters.Member) → some j ≡ true → agreements.IsMember s.cluster j m → agreements.BeginsAs m.node.log s.cluster (length s.cluster.committed))
    → some k ≡ true → 1 ≤ k → k ≤ n → kept_stores.StandsInStore e p (lists.at_place contents k)
stands n s committed contents x k p e at some keep t low high =
    let many : length s.cluster.members ≡ n = sym (length_map keeps s.cluster.members) ∙ ap length (sym x.kept) ∙ x.many in
    let m = there_within s.cluster.members k low (omega (arith, high, many)) in
    let b = keep k m.0 t m.1 in
    let same : take (length committed) m.0.node.log ≡ take (length committed) committed = subst (λ c. take (length c) m.0.node.log ≡ take (length c) c) x.same b.2 in
    let there : lists.at_place contents k ≡ Some (keeps m.0) = ap (λ cs. lists.at_place cs k) x.kept ∙ map_there keeps s.cluster.members k m.0 m.1 in
    subst (kept_stores.StandsInStore e p) (sym there) (holds_entry committed m.0.node.log p e same at)

held_by_most : (n : ℕ) (s : systems.System) (committed : List Entry) (contents : List Loaded) → IsStored n s committed contents → (p : ℕ) (e : Entry) → lists.at_place committed p ≡ Some e → kept_stores.IsHeldByMost contents p e
held_by_most n s committed contents x p e at =
    let some : ℕ → Bool = x.majority.0 in
    let holders : ℕ → Bool = λ k. some k && within n k in
    let same : majorities.count holders (majorities.cluster_of n) ≡ majorities.count some (majorities.cluster_of n) =
    counts_same holders some 1 n (λ i low high. by_bool (some i) (within n i) (and_true (nat_le 1 i) (nat_le i n) (within_test 1 i low) (within_test i n (omega (arith, high))))) in
    record {
      holders = holders;
      most = subst (λ c. majorities.is_most (majorities.count holders (majorities.cluster_of c)) c ≡ true) (sym x.many) (subst (λ c. majorities.is_most c n ≡ true) (sym same) x.majority.1);
      stands = λ k t.
          let parts = both (some k) (within n k) t in
          let range = both (nat_le 1 k) (nat_le k n) parts.1 in
          stands n s committed contents x k p e at some x.majority.2 parts.0 (is_within 1 k range.0) (is_within k n range.1);
    }
  where
    by_bool : (a b : Bool) → b ≡ true → (a && b) ≡ a
    by_bool true b e = e
    by_bool false b e = refl

-- the newest of any majority
some_chosen : (n : ℕ) (contents : List Loaded) (choice : ℕ → Bool) → IsTrue (majorities.is_most (majorities.count choice (majorities.cluster_of (length contents))) (length contents)) → 1 ≤ length (kept_stores.chosen choice contents)
some_chosen n contents choice most =
    let c = counted choice contents in
    let h : length contents < majorities.count choice (majorities.cluster_of (length contents)) + majorities.count choice (majorities.cluster_of (length contents)) = grind (arith, nat_tests, most) in
    omega (arith, c, h)

newest_found : (n : ℕ) (s : systems.System) (committed : List Entry) (contents : List Loaded) (choice : ℕ → Bool) → IsStored n s committed contents
    → IsTrue (majorities.is_most (majorities.count choice (majorities.cluster_of (length contents))) (length contents))
    → (found : List kept_stores.FoundStore) → kept_stores.chosen choice contents ≡ found → 1 ≤ length found → keeping.BeginsWith committed (kept_stores.newest found)
newest_found n s committed contents choice x most [] e some = absurd (omega (arith, some))
newest_found n s committed contents choice x most (f ∷ found) e some =
    let r : kept_stores.FoundStore = kept_stores.newest_from f found in
    let all : AllByRecursion (IsChosen choice contents) (f ∷ found) = subst (AllByRecursion (IsChosen choice contents)) e (all_chosen choice contents) in
    let is : IsChosen choice contents r = newest_passes (IsChosen choice contents) f found all.0 all.1 in
    let top : IsNewest f found r = newest_from f found in
    let each : AllByRecursion (λ (g : kept_stores.FoundStore). IsUpTo g.content.log r.content.log) (kept_stores.chosen choice contents) = subst (AllByRecursion (λ (g : kept_stores.FoundStore). IsUpTo g.content.log r.content.log)) (sym e) (top.first, top.rest) in
    let m = map_back keeps s.cluster.members r.node r.content (ap (λ cs. lists.at_place cs r.node) (sym x.kept) ∙ is.there) in
    let same_log : m.from.node.log ≡ r.content.log = ap (λ (c : Loaded). c.log) m.same in
    let b = x.newest choice r.node m.from (subst (λ c. majorities.is_most (majorities.count choice (majorities.cluster_of c)) c ≡ true) x.many most) m.there
    (λ k y t at.
    let there : lists.at_place contents k ≡ Some (keeps y) = ap (λ cs. lists.at_place cs k) x.kept ∙ map_there keeps s.cluster.members k y at in
    let up_to : IsUpTo y.node.log r.content.log = has_chosen (λ (g : kept_stores.FoundStore). IsUpTo g.content.log r.content.log) choice contents k (keeps y) each there t in
    as_new y.node.log m.from.node.log (subst (IsUpTo y.node.log) (sym same_log) up_to)) in
    let same : take (length committed) m.from.node.log ≡ take (length committed) committed = subst (λ c. take (length c) m.from.node.log ≡ take (length c) c) x.same b.2 in
    begins_log committed r.content.log (subst (λ log. take (length committed) log ≡ take (length committed) committed) same_log same)

-- the stores of a run
stored : (n clients time : ℕ) (steps : List KeptStep) (contents : List Loaded) → 1 ≤ n → (a : kept_stores.AreContents (runs.run n clients time steps).world.hosts contents)
    → (s : systems.System) × IsStored n s (ledgers.ledger_of n clients time steps).committed contents
stored n clients time steps contents one a =
    let w : worlds.World = (runs.run n clients time steps).world in
    let l : ledgers.Ledger = ledgers.ledger_of n clients time steps in
    let f : ℕ → ℕ = held_from 1 w.hosts contents a in
    let so_far = run_so_far n clients time steps in
    let m : hosts.IsMatched n f l w = so_far.matched f in
    let s : systems.System = system_of n f l w m in
    let same : contents ≡ map keeps (hosts.members_from f n 1 w.hosts) = contents_from f n 1 w.hosts contents a (all_places IsSettled w.hosts (run_settled n clients time steps)) (λ d. refl) in (
      s,
      record {
        kept = same ∙ ap (map keeps) (sym m.ends.members);
        many = ap length same ∙ length_map keeps (hosts.members_from f n 1 w.hosts) ∙ length_members f n 1 w.hosts ∙ so_far.numbers.hosts;
        same = m.ends.committed;
        majority = majority_keeps n s one (past_of n f l w m);
        newest = newest_begins n s (past_of n f l w m);
      },
    )

pub stores_keep_history : laws.StoresKeepHistory
stores_keep_history n clients time steps contents one a =
    let l : ledgers.Ledger = ledgers.ledger_of n clients time steps in
    let x = stored n clients time steps contents one a in
    subst (kept_stores.IsKept contents) (sym (history_is_of_committed n clients time steps)) (stores_keep_acts time l.committed contents (held_by_most n x.0 l.committed contents x.1))

pub newest_begins_history : laws.NewestBeginsHistory
newest_begins_history n clients time steps contents one a =
    let l : ledgers.Ledger = ledgers.ledger_of n clients time steps in
    let x = stored n clients time steps contents one a in
    subst (λ h. kept_stores.IsLeft contents h time) (sym (history_is_of_committed n clients time steps))
    (logs_begin_with_acts time l.committed contents (λ choice most. newest_found n x.0 l.committed contents choice x.1 most (kept_stores.chosen choice contents) refl (some_chosen n contents choice most)))
