-- How the items so far show what the ledger tells.
use Rattle.std.proofs.Common.{◌≡◌, ℕ, zero, suc, ◌+◌, ◌≤◌, ◌<◌, max, List, [], ◌∷◌, ◌++◌, length, map, refl, ap, sym, ◌∙◌, subst, arith, inl, inr, length-append}
use Rattle.std.specs.Prelude.{◌⊎◌, ◌≢◌, Bool, true, false, cond, nat_eq, nat_lt, Option, Some, None, count_by, if◌then◌else◌}
use Rattle.std.proofs.lemmas.Bool.Decides.{nat_tests}
use Rattle.std.proofs.lemmas.List.{append-nil}
use Rattle.std.proofs.lemmas.List.Sums.{sum_by-append}
use Rattle.ax_types.specs.Places as lists
use Rattle.ax_types.specs.declared.items.Item.{Item}
use Rattle.ax_types.specs.declared.items.Item.TheVariants as item
use Rattle.ax_types.specs.declared.sessions.Held.{Held}
use Rattle.spec_claims.specs.Transcript as transcripts
use Rattle.spec_claims.specs.Right as claims_right
use Rattle.spec_node.specs.Node as raft_nodes
use Rattle.spec_cluster.specs.Cluster as clusters
use Rattle.spec_server.specs.ServerStep as server_steps
use Rattle.spec_world.specs.Moves as moves
use Rattle.law_refinement.proofs.Tests.{by_test, is_above, not_above, same_test}
use Rattle.law_reads.specs.Reads as reads
use Rattle.law_reads.proofs.Takens.{stays_at, last_at, was_or_new, of_more, of_own, of_other, map_more}
use Rattle.law_items.specs.Ordered as laws
use Rattle.law_items.proofs.Quiet.{AllQuiet, IsQuiet, WasTaken, CoversItem, Counts, quiet}

-- the items above, after more
abbrev pub below : List Item → List Item → List Item
below above [] = above
below above (x ∷ xs) = below (x ∷ above) xs

pub each_append : (P : List Item → Item → Type 0) (above xs ys : List Item) → transcripts.EachBelow P above xs → transcripts.EachBelow P (below above xs) ys → transcripts.EachBelow P above (xs ++ ys)
each_append P above [] ys h k = k
each_append P above (x ∷ xs) ys h k = (h.0, each_append P (x ∷ above) xs ys h.1 k)

pub below_append : (above xs ys : List Item) → below above (xs ++ ys) ≡ below (below above xs) ys
below_append above [] ys = refl
below_append above (x ∷ xs) ys = below_append (x ∷ above) xs ys

-- the greatest commit is the same whichever way it is read
max_zero : (n : ℕ) → max n 0 ≡ n
max_zero n = omega arith

zero_max : (n : ℕ) → n ≡ max 0 n
zero_max n = omega arith

pub greatest_item : (x : Item) (xs : List Item) → transcripts.greatest_commit (x ∷ xs) ≡ max (transcripts.greatest_commit (x ∷ [])) (transcripts.greatest_commit xs)
greatest_item (item.Commit p) xs = let h : max p (transcripts.greatest_commit xs) ≡ max (max p 0) (transcripts.greatest_commit xs) = omega arith in h
greatest_item (item.Halted xa) xs = zero_max (transcripts.greatest_commit xs)
greatest_item (item.Opened xa xb) xs = zero_max (transcripts.greatest_commit xs)
greatest_item (item.Called xa xb xc) xs = zero_max (transcripts.greatest_commit xs)
greatest_item (item.Event xa xb xc xd) xs = zero_max (transcripts.greatest_commit xs)
greatest_item (item.Watched xa xb xc xd xe) xs = zero_max (transcripts.greatest_commit xs)
greatest_item (item.Reply xa xb xc xd) xs = zero_max (transcripts.greatest_commit xs)
greatest_item (item.Read xa xb xc xd xe xf) xs = zero_max (transcripts.greatest_commit xs)
greatest_item (item.Ended xa xb xc) xs = zero_max (transcripts.greatest_commit xs)
greatest_item (item.Doubt xa xb) xs = zero_max (transcripts.greatest_commit xs)
greatest_item (item.Lost xa xb) xs = zero_max (transcripts.greatest_commit xs)
greatest_item (item.Unsent xa xb) xs = zero_max (transcripts.greatest_commit xs)
greatest_item (item.Unanswered xa xb) xs = zero_max (transcripts.greatest_commit xs)
greatest_item (item.Listed xa) xs = zero_max (transcripts.greatest_commit xs)
greatest_item (item.Pending xa xb xc xd) xs = zero_max (transcripts.greatest_commit xs)
greatest_item (item.Skip xa) xs = zero_max (transcripts.greatest_commit xs)
greatest_item (item.Leader xa xb) xs = zero_max (transcripts.greatest_commit xs)
greatest_item (item.Reach xa xb xc xd xe) xs = zero_max (transcripts.greatest_commit xs)

pub greatest_below : (above xs : List Item) → transcripts.greatest_commit (below above xs) ≡ max (transcripts.greatest_commit above) (transcripts.greatest_commit xs)
greatest_below above [] = sym (max_zero (transcripts.greatest_commit above))
greatest_below above (x ∷ xs) =
    let a : transcripts.greatest_commit (below (x ∷ above) xs) ≡ max (transcripts.greatest_commit (x ∷ above)) (transcripts.greatest_commit xs) = greatest_below (x ∷ above) xs in
    let b = greatest_item x above in
    let c = greatest_item x xs in
    omega (arith, a, b, c)

-- counting
pub count_cons : {X : Type 0} (p : X → Bool) (x : X) (xs : List X) → count_by p (x ∷ xs) ≡ cond (p x) 1 0 + count_by p xs
count_cons p x xs =
    let a : count_by p (x ∷ xs) ≡ count_by p (x ∷ []) + count_by p xs = sum_by-append (λ y. cond (p y) 1 0) (x ∷ []) xs in
    let b : count_by p (x ∷ []) ≡ 0 + cond (p x) 1 0 = refl in
    omega (arith, a, b)

count_push : {X : Type 0} (p : X → Bool) (xs : List X) (x : X) → count_by p (xs ++ x ∷ []) ≡ cond (p x) 1 0 + count_by p xs
count_push p xs x =
    let a : count_by p (xs ++ x ∷ []) ≡ count_by p xs + count_by p (x ∷ []) = sum_by-append (λ y. cond (p y) 1 0) xs (x ∷ []) in
    let b : count_by p (x ∷ []) ≡ 0 + cond (p x) 1 0 = refl in
    omega (arith, a, b)

pub count_skip : {X : Type 0} (p : X → Bool) (x : X) (xs : List X) → p x ≡ false → count_by p (x ∷ xs) ≡ count_by p xs
count_skip p x xs e = count_cons p x xs ∙ ap (λ b. cond b 1 0 + count_by p xs) e ∙ (let h : 0 + count_by p xs ≡ count_by p xs = omega arith in h)

-- each read that was reached was taken
abbrev pub Covers : List clusters.ReadTaken → List Item → Type 0
Covers takens [] = Unit {0}
Covers takens (x ∷ above) = CoversItem takens x above × Covers takens above

taken_more : (takens more : List clusters.ReadTaken) (t a : ℕ) (above : List Item) → WasTaken takens t a above → WasTaken (takens ++ more) t a above
taken_more takens more t a above x = record { place = x.place; taken = x.taken; found = stays_at takens more x.place x.taken x.found; term = x.term; arrival = x.arrival; covers = x.covers }

covers_item : (takens more : List clusters.ReadTaken) (x : Item) (above : List Item) → CoversItem takens x above → CoversItem (takens ++ more) x above
covers_item takens more (item.Reach k t a s n) above h = taken_more takens more t a above h
covers_item takens more (item.Halted xa) above h = tt
covers_item takens more (item.Opened xa xb) above h = tt
covers_item takens more (item.Called xa xb xc) above h = tt
covers_item takens more (item.Event xa xb xc xd) above h = tt
covers_item takens more (item.Watched xa xb xc xd xe) above h = tt
covers_item takens more (item.Reply xa xb xc xd) above h = tt
covers_item takens more (item.Read xa xb xc xd xe xf) above h = tt
covers_item takens more (item.Ended xa xb xc) above h = tt
covers_item takens more (item.Doubt xa xb) above h = tt
covers_item takens more (item.Lost xa xb) above h = tt
covers_item takens more (item.Unsent xa xb) above h = tt
covers_item takens more (item.Unanswered xa xb) above h = tt
covers_item takens more (item.Listed xa) above h = tt
covers_item takens more (item.Pending xa xb xc xd) above h = tt
covers_item takens more (item.Skip xa) above h = tt
covers_item takens more (item.Leader xa xb) above h = tt
covers_item takens more (item.Commit xa) above h = tt

covers_more : (takens more : List clusters.ReadTaken) (above : List Item) → Covers takens above → Covers (takens ++ more) above
covers_more takens more [] h = tt
covers_more takens more (x ∷ above) h = (covers_item takens more x above h.0, covers_more takens more above h.1)

pub covers_at : (takens : List clusters.ReadTaken) (later : List Item) (x : Item) (earlier : List Item) → Covers takens (later ++ x ∷ earlier) → CoversItem takens x earlier
covers_at takens [] x earlier h = h.0
covers_at takens (y ∷ later) x earlier h = covers_at takens later x earlier h.1

-- what the items so far say of leaders, of reads that were reached, and of commits
pub record Shows (leds : List clusters.Led) (takens : List clusters.ReadTaken) (places : ℕ) (above : List Item) : Type 0 where
  pub commits : transcripts.greatest_commit above ≡ places
  pub leaders : (t : ℕ) → count_by (claims_right.is_leader_in t) above ≡ count_by (λ (d : clusters.Led). nat_eq t d.term) leds
  pub told : (i : ℕ) (d : clusters.Led) → lists.at_place leds i ≡ Some d → transcripts.StandsIn (item.Leader d.node d.term) above
  pub reaches : (t : ℕ) → count_by (claims_right.is_reach_in t) above ≡ length (reads.of_term t takens)
  pub covers : Covers takens above

-- other items say nothing of them
pub shows_quiet : (leds : List clusters.Led) (takens : List clusters.ReadTaken) (places : ℕ) (above items : List Item) → AllQuiet items → Shows leds takens places above
    → transcripts.EachBelow laws.IsInOrder above items × Shows leds takens places (below above items)
shows_quiet leds takens places above [] h s = (tt, s)
shows_quiet leds takens places above (x ∷ items) h s =
    let q : Counts x = quiet x h.0 in
    let r = shows_quiet leds takens places (x ∷ above) items h.1 (record {
      commits = q.commit above ∙ s.commits;
      leaders = λ t. count_skip (claims_right.is_leader_in t) x above (q.leader t) ∙ s.leaders t;
      told = λ i d e. inr (s.told i d e);
      reaches = λ t. count_skip (claims_right.is_reach_in t) x above (q.reach t) ∙ s.reaches t;
      covers = (q.cover takens above, s.covers);
    }) in
    ((q.order above, r.0), r.1)

-- a new leader
count_none : (t : ℕ) (leds : List clusters.Led) (d : clusters.Led) → d.term ≡ t → ((i j : ℕ) (x y : clusters.Led) → lists.at_place (leds ++ d ∷ []) i ≡ Some x → lists.at_place (leds ++ d ∷ []) j ≡ Some y → x.term ≡ y.term → i ≡ j)
    → count_by (λ (c : clusters.Led). nat_eq t c.term) leds ≡ 0
count_none t [] d e once = refl
count_none t (x ∷ leds) d e once = count_skip (λ (c : clusters.Led). nat_eq t c.term) x leds (unequal (nat_eq t x.term) refl) ∙ count_none t leds d e rest
  where
    unequal : (b : Bool) → nat_eq t x.term ≡ b → nat_eq t x.term ≡ false
    unequal false f = f
    unequal true f =
        let same : x.term ≡ d.term = grind (arith, nat_tests, e, f) in
        let i : 1 ≡ suc (suc (length leds)) = once 1 (suc (suc (length leds))) x d refl (last_at leds d) same in
        absurd (omega (arith, i))

    rest : (i j : ℕ) (y z : clusters.Led) → lists.at_place (leds ++ d ∷ []) i ≡ Some y → lists.at_place (leds ++ d ∷ []) j ≡ Some z → y.term ≡ z.term → i ≡ j
    rest zero j y z f g h = absurd (cc (f))
    rest (suc i) zero y z f g h = absurd (cc (g))
    rest (suc i) (suc j) y z f g h = let k : suc (suc i) ≡ suc (suc j) = once (suc (suc i)) (suc (suc j)) y z f g h in omega (arith, k)

abbrev IsOnce : List clusters.Led → Type 0
IsOnce leds = (i j : ℕ) (x y : clusters.Led) → lists.at_place leds i ≡ Some x → lists.at_place leds j ≡ Some y → x.term ≡ y.term → i ≡ j

abbrev Part : List clusters.Led → List clusters.ReadTaken → ℕ → List Item → List Item → Type 0
Part leds takens places above items = transcripts.EachBelow laws.IsInOrder above items × Shows leds takens places (below above items)

pub leader_part : (leds : List clusters.Led) (takens : List clusters.ReadTaken) (places : ℕ) (above : List Item) (k : ℕ) (a : raft_nodes.Node) (b : Bool) → Shows leds takens places above → IsOnce (leds ++ clusters.led_by k a b)
    → Part (leds ++ clusters.led_by k a b) takens places above (moves.leader_item k (server_steps.led_term a b))
leader_part leds takens places above k a false s once = (tt, subst (λ ds. Shows ds takens places above) (sym (append-nil leds)) s)
leader_part leds takens places above k a true s once =
    let d : clusters.Led = record { term = a.ballot.term; node = k } in
    let t : ℕ = a.ballot.term in (
      (s.leaders t ∙ count_none t leds d refl once, tt),
      record {
        commits = s.commits;
        leaders = λ u. count_cons (claims_right.is_leader_in u) (item.Leader k t) above ∙ (let r = s.leaders u in let h : cond (nat_eq u t) 1 0 + count_by (claims_right.is_leader_in u) above ≡ cond (nat_eq u t) 1 0 + count_by (λ (c : clusters.Led). nat_eq u c.term) leds = omega (arith, r) in h)
            ∙ sym (count_push (λ (c : clusters.Led). nat_eq u c.term) leds d);
        told = λ i c e. was_or_new (λ x. transcripts.StandsIn (item.Leader x.node x.term) (item.Leader k t ∷ above)) leds (d ∷ []) i c e (λ q f. inr (s.told q c f)) (inl refl, tt);
        reaches = λ u. count_skip (claims_right.is_reach_in u) (item.Leader k t) above refl ∙ s.reaches u;
        covers = (tt, s.covers);
      },
    )

-- a commit that rose
pub commit_part : (leds : List clusters.Led) (takens : List clusters.ReadTaken) (places d : ℕ) (above : List Item) → Shows leds takens places above → Part leds takens (max places d) above (moves.commit_item places d)
commit_part leds takens places d above s =
    by_test (Part leds takens (max places d) above) (nat_lt places d) (item.Commit d ∷ []) []
    (λ e. let lt : places < d = is_above places d e in let c = s.commits in (
      (let h : transcripts.greatest_commit above < d = omega (arith, lt, c) in h, tt),
      record {
        commits = let h : max d (transcripts.greatest_commit above) ≡ max places d = omega (arith, lt, c) in h;
        leaders = λ u. count_skip (claims_right.is_leader_in u) (item.Commit d) above refl ∙ s.leaders u;
        told = λ i x f. inr (s.told i x f);
        reaches = λ u. count_skip (claims_right.is_reach_in u) (item.Commit d) above refl ∙ s.reaches u;
        covers = (tt, s.covers);
      },
    ))
    (λ e. let le : d ≤ places = not_above places d e in (tt, subst (λ m. Shows leds takens m above) (let h : places ≡ max places d = omega (arith, le) in h) s))

-- a read that was reached
last_number : (xs : List ℕ) (a b n : ℕ) → xs ++ a ∷ [] ≡ lists.numbers_from b n → a ≡ b + length xs
last_number [] a b zero e = absurd (cc (e))
last_number [] a b (suc n) e = let h : a ≡ b = cc (e) in omega (arith, h)
last_number (x ∷ xs) a b zero e = absurd (cc (e))
last_number (x ∷ xs) a b (suc n) e = let h : xs ++ a ∷ [] ≡ lists.numbers_from (suc b) n = cc (e) in let r = last_number xs a (suc b) n h in omega (arith, r)

same_tests : (a b : ℕ) → nat_eq a b ≡ nat_eq b a
same_tests a b = grind (arith, nat_tests)

length_map : {X Y : Type 0} (f : X → Y) (xs : List X) → length (map f xs) ≡ length xs
length_map f [] = refl
length_map f (x ∷ xs) = ap suc (length_map f xs)

of_length : (u : ℕ) (takens : List clusters.ReadTaken) (x : clusters.ReadTaken) → length (reads.of_term u (takens ++ x ∷ [])) ≡ cond (nat_eq u x.term) 1 0 + length (reads.of_term u takens)
of_length u takens x =
    let a : length (reads.of_term u (takens ++ x ∷ [])) ≡ length (reads.of_term u takens) + length (reads.of_term u (x ∷ [])) = ap length (of_more u takens x) ∙ length-append (reads.of_term u takens) (reads.of_term u (x ∷ [])) in
    let b : length (reads.of_term u (x ∷ [])) ≡ cond (nat_eq u x.term) 1 0 = by_bool (nat_eq x.term u) ∙ ap (λ c. cond c 1 0) (same_tests x.term u) in
    omega (arith, a, b)
  where
    by_bool : (b : Bool) → length (cond b (x ∷ []) []) ≡ cond b 1 0
    by_bool true = refl
    by_bool false = refl

-- what is known where a read was reached
pub record Reached (k : ℕ) (x a : raft_nodes.Node) (read : Option Held) (arrival places : ℕ) (above : List Item) (takens : List clusters.ReadTaken) : Type 0 where
  pub held : Held
  pub is_read : read ≡ Some held
  pub me : a.ballot.me ≡ k
  pub term : a.ballot.term ≡ x.ballot.term
  pub leader : transcripts.StandsIn (item.Leader k a.ballot.term) above
  pub covered : transcripts.greatest_commit above ≤ places
  pub numbered : map (λ (y : clusters.ReadTaken). y.arrival) (reads.of_term x.ballot.term (takens ++ clusters.taken_by k x places (Some arrival))) ≡ lists.numbers_from 1 (length (reads.of_term x.ballot.term (takens ++ clusters.taken_by k x places (Some arrival))))

abbrev pub IfReached : ℕ → raft_nodes.Node → raft_nodes.Node → Option Held → Option ℕ → ℕ → List Item → List clusters.ReadTaken → Type 0
IfReached k x a read None places above takens = Unit {0}
IfReached k x a read (Some arrival) places above takens = Reached k x a read arrival places above takens

no_reach : (a : raft_nodes.Node) (read : Option Held) → moves.option_item (server_steps.reach_item a read None) ≡ []
no_reach a None = refl
no_reach a (Some h) = refl

pub reach_part : (leds : List clusters.Led) (takens : List clusters.ReadTaken) (places : ℕ) (above : List Item) (k committed : ℕ) (x a : raft_nodes.Node) (read : Option Held) (r : Option ℕ) → Shows leds takens places above → IfReached k x a read r committed above takens
    → Part leds (takens ++ clusters.taken_by k x committed r) places above (moves.option_item (server_steps.reach_item a read r))
reach_part leds takens places above k committed x a read None s f =
    subst (Part leds (takens ++ []) places above) (sym (no_reach a read)) (tt, subst (λ ts. Shows leds ts places above) (sym (append-nil takens)) s)
reach_part leds takens places above k committed x a read (Some arrival) s f =
    let y : clusters.ReadTaken = record { node = k; term = x.ballot.term; arrival = arrival; place = max x.commit x.leading.first; round = suc x.leading.round; committed = committed } in
    let h : Held = f.held in
    let t : ℕ = a.ballot.term in
    let own : reads.of_term x.ballot.term (takens ++ y ∷ []) ≡ reads.of_term x.ballot.term takens ++ y ∷ [] = of_more x.ballot.term takens y ∙ ap (λ ys. reads.of_term x.ballot.term takens ++ ys) (of_own x.ballot.term y refl) in
    let list : map (λ (z : clusters.ReadTaken). z.arrival) (reads.of_term x.ballot.term takens) ++ arrival ∷ [] ≡ lists.numbers_from 1 (length (reads.of_term x.ballot.term (takens ++ y ∷ []))) =
    sym (map_more (λ (z : clusters.ReadTaken). z.arrival) (reads.of_term x.ballot.term takens) (y ∷ [])) ∙ ap (map (λ (z : clusters.ReadTaken). z.arrival)) (sym own) ∙ f.numbered in
    let number : arrival ≡ 1 + length (map (λ (z : clusters.ReadTaken). z.arrival) (reads.of_term x.ballot.term takens)) = last_number (map (λ (z : clusters.ReadTaken). z.arrival) (reads.of_term x.ballot.term takens)) arrival 1 (length (reads.of_term x.ballot.term (takens ++ y ∷ []))) list in
    let many = length_map (λ (z : clusters.ReadTaken). z.arrival) (reads.of_term x.ballot.term takens) in
    let before : count_by (claims_right.is_reach_in t) above ≡ length (reads.of_term x.ballot.term takens) = s.reaches t ∙ ap (λ u. length (reads.of_term u takens)) f.term in
    let here : laws.IsInOrder above (item.Reach a.ballot.me t arrival h.session h.call) = (subst (λ m. transcripts.StandsIn (item.Leader m t) above) (sym f.me) f.leader, omega (arith, number, many, before)) in
    let items : List Item = item.Reach a.ballot.me t arrival h.session h.call ∷ [] in
    let part : Part leds (takens ++ y ∷ []) places above items = (
      (here, tt),
      record {
        commits = s.commits;
        leaders = λ u. count_skip (claims_right.is_leader_in u) (item.Reach a.ballot.me t arrival h.session h.call) above refl ∙ s.leaders u;
        told = λ i d e. inr (s.told i d e);
        reaches = λ u. count_cons (claims_right.is_reach_in u) (item.Reach a.ballot.me t arrival h.session h.call) above ∙ (let q = s.reaches u in let g : cond (nat_eq u t) 1 0 + count_by (claims_right.is_reach_in u) above ≡ cond (nat_eq u t) 1 0 + length (reads.of_term u takens) = omega (arith, q) in g)
            ∙ ap (λ v. cond (nat_eq u v) 1 0 + length (reads.of_term u takens)) f.term ∙ sym (of_length u takens y);
        covers = (record { place = suc (length takens); taken = y; found = last_at takens y; term = sym f.term; arrival = refl; covers = f.covered }, covers_more takens (y ∷ []) above s.covers);
      },
    ) in
    subst (λ o. Part leds (takens ++ y ∷ []) places above (moves.option_item (server_steps.reach_item a o (Some arrival)))) (sym f.is_read) part
