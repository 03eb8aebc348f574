-- How many nodes of a cluster voted.
use Rattle.std.proofs.Common.{◌≡◌, ℕ, zero, suc, ◌+◌, ◌<◌, ◌≤◌, List, [], ◌∷◌, ◌++◌, length, take, add-one, refl, ap, sym, ◌∙◌, arith}
use Rattle.std.specs.Prelude.{Bool, true, false, ◌||◌, nat_eq, cond, slice_set, Option}
use Rattle.std.proofs.lemmas.Bool.Decides.{nat_tests}
use Rattle.std.proofs.lemmas.List.{take_more_set}
use Rattle.ax_types.specs.Places as lists
use Rattle.ax_types.specs.declared.limits.TheConstants.{MAX_NODES}
use Rattle.spec_raft.specs.Majority as majorities
use Rattle.spec_raft.specs.Ballot as ballots
use Rattle.raft_vote.specs.Voters as raft_vote_voters

or_assoc : (a b c : Bool) → (a || (b || c)) ≡ ((a || b) || c)
or_assoc true b c = refl
or_assoc false b c = refl

or_none : (a : Bool) → (a || false) ≡ a
or_none true = refl
or_none false = refl

pub is_in-push : (votes : List ℕ) (from k : ℕ) → majorities.is_in (votes ++ from ∷ []) k ≡ (majorities.is_in votes k || nat_eq from k)
is_in-push [] from k = or_none (nat_eq from k)
is_in-push (v ∷ votes) from k = ap (λ b. nat_eq v k || b) (is_in-push votes from k) ∙ or_assoc (nat_eq v k) (majorities.is_in votes k) (nat_eq from k)

one_add : (n : ℕ) → 1 + n ≡ suc (0 + n)
one_add n = omega arith

pushed_other : (votes : List ℕ) (from k : ℕ) → (nat_eq from k ≡ false) → majorities.is_in (votes ++ from ∷ []) k ≡ majorities.is_in votes k
pushed_other votes from k e = is_in-push votes from k ∙ ap (λ b. majorities.is_in votes k || b) e ∙ or_none (majorities.is_in votes k)

below : (from a : ℕ) → from < a → nat_eq from a ≡ false
below from a h = grind (arith, nat_tests, h)

-- a vote of a node below these changes nothing
pub count-push_below : (votes : List ℕ) (from a n : ℕ) → from < a → majorities.count (majorities.is_in (votes ++ from ∷ [])) (lists.numbers_from a n) ≡ majorities.count (majorities.is_in votes) (lists.numbers_from a n)
count-push_below votes from a zero h = refl
count-push_below votes from a (suc n) h =
    ap (λ b. cond b 1 0 + majorities.count (majorities.is_in (votes ++ from ∷ [])) (lists.numbers_from (suc a) n)) (pushed_other votes from a (below from a h))
    ∙ ap (λ m. cond (majorities.is_in votes a) 1 0 + m) (count-push_below votes from (suc a) n (omega (arith, h)))

other : (a b n m : ℕ) → a ≡ b → n ≡ suc m → a + n ≡ suc (b + m)
other a b n m e f = omega (arith, e, f)

-- a vote of one of these nodes that had not voted counts once: by the cases of the first node
first : (votes : List ℕ) (from a n : ℕ) → majorities.is_in votes from ≡ false → a ≤ from → from < a + suc n
    → (suc a ≤ from → majorities.count (majorities.is_in (votes ++ from ∷ [])) (lists.numbers_from (suc a) n) ≡ suc (majorities.count (majorities.is_in votes) (lists.numbers_from (suc a) n)))
    → (b : Bool) → nat_eq from a ≡ b → majorities.count (majorities.is_in (votes ++ from ∷ [])) (lists.numbers_from a (suc n)) ≡ suc (majorities.count (majorities.is_in votes) (lists.numbers_from a (suc n)))
first votes from a n new h k next true e =
    let same : from ≡ a = grind (arith, nat_tests, e) in
    let had : majorities.is_in votes a ≡ false = ap (λ x. majorities.is_in votes x) (sym same) ∙ new in
    ap (λ b. cond b 1 0 + majorities.count (majorities.is_in (votes ++ from ∷ [])) (lists.numbers_from (suc a) n)) (is_in-push votes from a ∙ ap (λ b. b || nat_eq from a) had ∙ e)
    ∙ ap (λ m. 1 + m) (count-push_below votes from (suc a) n (omega (arith, same)))
    ∙ one_add (majorities.count (majorities.is_in votes) (lists.numbers_from (suc a) n))
    ∙ ap (λ b. suc (cond b 1 0 + majorities.count (majorities.is_in votes) (lists.numbers_from (suc a) n))) (sym had)
first votes from a n new h k next false e =
    let above : suc a ≤ from = grind (arith, nat_tests, e, h) in
    other (cond (majorities.is_in (votes ++ from ∷ []) a) 1 0) (cond (majorities.is_in votes a) 1 0) (majorities.count (majorities.is_in (votes ++ from ∷ [])) (lists.numbers_from (suc a) n)) (majorities.count (majorities.is_in votes) (lists.numbers_from (suc a) n))
    (ap (λ b. cond b 1 0) (pushed_other votes from a e))
    (next above)

pub count-push : (votes : List ℕ) (from a n : ℕ) → majorities.is_in votes from ≡ false → a ≤ from → from < a + n → majorities.count (majorities.is_in (votes ++ from ∷ [])) (lists.numbers_from a n) ≡ suc (majorities.count (majorities.is_in votes) (lists.numbers_from a n))
count-push votes from a zero new h k = absurd (omega (arith, h, k))
count-push votes from a (suc n) new h k = first votes from a n new h k (λ above. count-push votes from (suc a) n new above (omega (arith, k))) (nat_eq from a) refl

pub count_none : (a n : ℕ) → majorities.count (majorities.is_in []) (lists.numbers_from a n) ≡ 0
count_none a zero = refl
count_none a (suc n) = omega (arith, count_none (suc a) n)

at_most : (b : Bool) (n m : ℕ) → n ≤ m → cond b 1 0 + n ≤ suc m
at_most true n m h = omega (arith, h)
at_most false n m h = omega (arith, h)

count_most : (p : ℕ → Bool) (a n : ℕ) → majorities.count p (lists.numbers_from a n) ≤ n
count_most p a zero = omega arith
count_most p a (suc n) = at_most (p a) (majorities.count p (lists.numbers_from (suc a) n)) n (count_most p (suc a) n)

-- there is room for the vote of a node that had not voted
pub room : (me nodes n from : ℕ) (voters : List ℕ) → raft_vote_voters.IsBallot me nodes n voters → 1 ≤ from → from ≤ nodes → majorities.is_in (take n voters) from ≡ false → n < MAX_NODES
room me nodes n from voters b one member new =
    omega (arith, b.within, b.each_once, count-push (take n voters) from 1 nodes new one (omega (arith, member)), count_most (majorities.is_in (take n voters ++ from ∷ [])) 1 nodes)

pub voted : (me nodes n from : ℕ) (voters : List ℕ) → raft_vote_voters.IsBallot me nodes n voters → 1 ≤ from → from ≤ nodes → majorities.is_in (take n voters) from ≡ false → n < length voters → raft_vote_voters.IsBallot me nodes (n + 1) (slice_set voters n from)
voted me nodes n from voters b one member new lt = record {
  member = b.member;
  within = b.within;
  small = omega (arith, room me nodes n from voters b one member new);
  each_once =
      ap (λ votes. majorities.count (majorities.is_in votes) (majorities.cluster_of nodes)) (take_more_set voters n from lt)
      ∙ count-push (take n voters) from 1 nodes new one (omega (arith, member))
      ∙ ap suc b.each_once
      ∙ sym (add-one n);
}

pub none_voted : (me nodes : ℕ) (voters : List ℕ) → me ≤ nodes → nodes ≤ MAX_NODES → raft_vote_voters.IsBallot me nodes 0 voters
none_voted me nodes voters member within = record { member = member; within = within; small = omega arith; each_once = count_none 1 nodes }

abbrev ballot : ℕ → ℕ → ℕ → Option ℕ → List ℕ → ballots.Ballot
ballot me nodes term vote votes = record { me = me; nodes = nodes; term = term; vote = vote; votes = votes }

-- the votes with one more
pub votes_pushed : (b : ballots.Ballot) (me nodes term n node number : ℕ) (vote : Option ℕ) (voters : List ℕ)
    → record { me = me; nodes = nodes; term = term; vote = vote; votes = take n voters } ≡ b → number ≡ node → n < length voters
    → record { me = me; nodes = nodes; term = term; vote = vote; votes = take (n + 1) (slice_set voters n number) } ≡ record b { votes = b.votes ++ node ∷ [] }
votes_pushed b me nodes term n node number vote voters e same lt =
    ap (λ v. ballot me nodes term vote v) (take_more_set voters n number lt)
    ∙ ap (λ k. ballot me nodes term vote (take n voters ++ k ∷ [])) same
    ∙ ap (λ (x : ballots.Ballot). ballot x.me x.nodes x.term x.vote (x.votes ++ node ∷ [])) e
