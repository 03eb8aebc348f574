-- The other nodes by their positions.
use Rattle.std.proofs.Common.{◌≡◌, ℕ, zero, suc, ◌+◌, ◌<◌, ◌≤◌, max, List, [], ◌∷◌, ◌++◌, length, take, drop, get_or, add-zero, add-one, add_comm, add_assoc, append_assoc, length-append, refl, ap, sym, ◌∙◌, arith}
use Rattle.std.specs.Prelude.{Bool, true, false, not, nat_eq, nat_lt, nat_le, cond, Some, None, slice_get, slice_set, map, filter}
use Rattle.std.proofs.lemmas.List.{at_drop_more, append-nil, get_or-take, length-take, length-take-le}
use Rattle.ax_types.specs.Places.{numbers_from}
use Rattle.spec_raft.specs.Majority.{count}
use Rattle.spec_raft.specs.Progress.{Peer, peer, change_peer, round_among, is_held, progress_of}
use Rattle.raft_commit.specs.Peers.{peer_index, matched_below, other_from}

-- the peer at its position
at_case : (b : Bool) (p : Peer) (peers : List Peer) (k : ℕ) → peer peers k ≡ slice_get peers (peer_index peers k) → cond b (Some p) (peer peers k) ≡ slice_get (p ∷ peers) (cond b 0 (suc (peer_index peers k)))
at_case true p peers k e = refl
at_case false p peers k e = e

pub peer_at : (peers : List Peer) (k : ℕ) → peer peers k ≡ slice_get peers (peer_index peers k)
peer_at [] k = refl
peer_at (p ∷ peers) k = at_case (nat_eq p.node k) p peers k (peer_at peers k)

-- a change of the peer at its position
change_case : (b : Bool) (f : Peer → Peer) (p : Peer) (peers : List Peer) (k : ℕ) (d : Peer) → (peer_index peers k < length peers → change_peer f k peers ≡ slice_set peers (peer_index peers k) (f (get_or peers (peer_index peers k) d)))
    → cond b 0 (suc (peer_index peers k)) < suc (length peers)
    → cond b (f p ∷ peers) (p ∷ change_peer f k peers) ≡ slice_set (p ∷ peers) (cond b 0 (suc (peer_index peers k))) (f (get_or (p ∷ peers) (cond b 0 (suc (peer_index peers k))) d))
change_case true f p peers k d e h = refl
change_case false f p peers k d e h = ap (λ ps. p ∷ ps) (e (omega (arith, h)))

pub change_at : (f : Peer → Peer) (peers : List Peer) (k : ℕ) (d : Peer) → peer_index peers k < length peers → change_peer f k peers ≡ slice_set peers (peer_index peers k) (f (get_or peers (peer_index peers k) d))
change_at f [] k d h = refl
change_at f (p ∷ peers) k d h = change_case (nat_eq p.node k) f p peers k d (λ lt. change_at f peers k d lt) h

-- a node that is none of them
none_case : (b : Bool) (f : Peer → Peer) (p : Peer) (peers : List Peer) (k : ℕ) → (length peers ≤ peer_index peers k → change_peer f k peers ≡ peers) → suc (length peers) ≤ cond b 0 (suc (peer_index peers k)) → cond b (f p ∷ peers) (p ∷ change_peer f k peers) ≡ p ∷ peers
none_case true f p peers k e h = absurd (omega (arith, h))
none_case false f p peers k e h = ap (λ ps. p ∷ ps) (e (omega (arith, h)))

pub change_none : (f : Peer → Peer) (peers : List Peer) (k : ℕ) → length peers ≤ peer_index peers k → change_peer f k peers ≡ peers
change_none f [] k h = refl
change_none f (p ∷ peers) k h = none_case (nat_eq p.node k) f p peers k (λ le. change_none f peers k le) h

get_none : (peers : List Peer) (i : ℕ) → length peers ≤ i → slice_get peers i ≡ None
get_none [] i h = refl
get_none (p ∷ peers) zero h = absurd (omega (arith, h))
get_none (p ∷ peers) (suc i) h = get_none peers i (omega (arith, h))

pub peer_none : (peers : List Peer) (k : ℕ) → length peers ≤ peer_index peers k → peer peers k ≡ None
peer_none peers k h = peer_at peers k ∙ get_none peers (peer_index peers k) h

place_case : (b : Bool) (i n : ℕ) → i + cond b 0 (suc n) ≡ cond b i (i + 1 + n)
place_case true i n = omega arith
place_case false i n = omega arith

-- the position of a node, one peer on
pub place_more : (peers : List Peer) (k i : ℕ) (d : Peer) → i < length peers → i + peer_index (drop i peers) k ≡ cond (nat_eq (get_or peers i d).node k) i (i + 1 + peer_index (drop (i + 1) peers) k)
place_more peers k i d h = ap (λ n. i + n) (at_drop_more (λ ps. peer_index ps k) peers i d h) ∙ place_case (nat_eq (get_or peers i d).node k) i (peer_index (drop (i + 1) peers) k)

at_most : (b : Bool) (n m : ℕ) → n ≤ m → cond b 1 0 + n ≤ suc m
at_most true n m h = omega (arith, h)
at_most false n m h = omega (arith, h)

shift : (a n : ℕ) → suc a + n ≡ a + suc n
shift a n = omega arith

-- one peer more that is counted
pub counted_more : (test : Peer → Bool) (peers : List Peer) (i n : ℕ) (d : Peer) → i < length peers → n + count test (drop i peers) ≡ (n + cond (test (get_or peers i d)) 1 0) + count test (drop (i + 1) peers)
counted_more test peers i n d h = ap (λ k. n + k) (at_drop_more (λ ps. count test ps) peers i d h) ∙ sym (add_assoc n (cond (test (get_or peers i d)) 1 0) (count test (drop (i + 1) peers)))

pub counted_most : (test : Peer → Bool) (peers : List Peer) → count test peers ≤ length peers
counted_most test [] = omega arith
counted_most test (p ∷ peers) = at_most (test p) (count test peers) (length peers) (counted_most test peers)

max_more : (b : Bool) (n m k : ℕ) → max n (cond b (max m k) k) ≡ max (cond b (max m n) n) k
max_more true n m k = omega arith
max_more false n m k = refl

-- one more peer of the greatest round, and of the greatest place
pub round_more : (peers ps : List Peer) (i n : ℕ) (d : Peer) → i < length ps
    → max n (round_among peers (drop i ps)) ≡ max (cond (is_held (λ q. nat_le (get_or ps i d).acked q.acked) peers) (max (get_or ps i d).acked n) n) (round_among peers (drop (i + 1) ps))
round_more peers ps i n d h =
    ap (λ r. max n r) (at_drop_more (round_among peers) ps i d h)
    ∙ max_more (is_held (λ q. nat_le (get_or ps i d).acked q.acked) peers) n (get_or ps i d).acked (round_among peers (drop (i + 1) ps))

pub below_more : (ps : List Peer) (place i n : ℕ) (d : Peer) → i < length ps
    → max n (matched_below (drop i ps) place) ≡ max (cond (nat_lt (get_or ps i d).matched place) (max (get_or ps i d).matched n) n) (matched_below (drop (i + 1) ps) place)
below_more ps place i n d h =
    ap (λ r. max n r) (at_drop_more (λ qs. matched_below qs place) ps i d h)
    ∙ max_more (nat_lt (get_or ps i d).matched place) n (get_or ps i d).matched (matched_below (drop (i + 1) ps) place)

-- the peers of a new leader, one node more
abbrev peer_from : ℕ → ℕ → Peer
peer_from first k = record { node = k; next = first; matched = 0; acked = 0 }

abbrev from : ℕ → ℕ → ℕ → ℕ → List Peer
from me first a n = map (peer_from first) (filter (λ j. not (nat_eq j me)) (numbers_from a n))

unfold_case : (b : Bool) (first k : ℕ) (ks : List ℕ) → map (peer_from first) (cond (not b) (k ∷ ks) ks) ≡ cond b [] (record { node = k; next = first; matched = 0; acked = 0 } ∷ []) ++ map (peer_from first) ks
unfold_case true first k ks = refl
unfold_case false first k ks = refl

from_more : (me first a n : ℕ) → from me first a (suc n) ≡ from me first a n ++ other_from me first (a + n)
from_more me first a zero = unfold_case (nat_eq a me) first a [] ∙ append-nil (other_from me first a) ∙ ap (λ k. other_from me first k) (sym (add-zero a))
from_more me first a (suc n) =
    unfold_case (nat_eq a me) first a (filter (λ k. not (nat_eq k me)) (numbers_from (suc a) (suc n)))
    ∙ ap (λ ps. other_from me first a ++ ps) (from_more me first (suc a) n)
    ∙ sym (append_assoc (other_from me first a) (from me first (suc a) n) (other_from me first (suc a + n)))
    ∙ ap (λ ps. ps ++ other_from me first (suc a + n)) (sym (unfold_case (nat_eq a me) first a (filter (λ k. not (nat_eq k me)) (numbers_from (suc a) n))))
    ∙ ap (λ k. from me first a (suc n) ++ other_from me first k) (shift a n)

pub progress_more : (me first n : ℕ) → progress_of me (n + 1) first ≡ progress_of me n first ++ other_from me first (n + 1)
progress_more me first n = ap (λ k. progress_of me k first) (add-one n) ∙ from_more me first 1 n ∙ ap (λ k. progress_of me n first ++ other_from me first k) (add_comm 1 n)

other_short : (b : Bool) (p : Peer) → length (cond b [] (p ∷ [])) ≤ 1
other_short true p = omega arith
other_short false p = omega arith

from_short : (me first a n : ℕ) → length (from me first a n) ≤ n
from_short me first a zero = omega arith
from_short me first a (suc n) =
    rw (from_more me first a n, length-append (from me first a n) (other_from me first (a + n)))
    (omega (arith, from_short me first a n, other_short (nat_eq (a + n) me) (record { node = a + n; next = first; matched = 0; acked = 0 })))

pub progress_short : (me first n : ℕ) → length (progress_of me n first) ≤ n
progress_short me first n = from_short me first 1 n

-- the change of one peer, where they stand in front of others
pub take-set : {X : Type 0} (n i : ℕ) (xs : List X) (x : X) → take n (slice_set xs i x) ≡ slice_set (take n xs) i x
take-set zero i [] x = refl
take-set zero zero (y ∷ xs) x = refl
take-set zero (suc i) (y ∷ xs) x = refl
take-set (suc n) i [] x = refl
take-set (suc n) zero (y ∷ xs) x = refl
take-set (suc n) (suc i) (y ∷ xs) x = ap (λ ys. y ∷ ys) (take-set n i xs x)

pub changed : (f : Peer → Peer) (all now : List Peer) (n k i : ℕ) (d q : Peer) → take n all ≡ now → i ≡ peer_index now k → i < n → n ≤ length all → q ≡ f (get_or all i d) → take n (slice_set all i q) ≡ change_peer f k now
changed f all now n k i d q e place lt within is =
    let here : get_or now i d ≡ get_or all i d = ap (λ ps. get_or ps i d) (sym e) ∙ get_or-take n all i d lt in
    let in_now : peer_index now k < length now = omega (arith, place, lt, within, ap length e, length-take-le n all within) in
    take-set n i all q
    ∙ ap (λ ps. slice_set ps i q) e
    ∙ ap (λ x. slice_set now i x) (is ∙ ap f (sym here))
    ∙ ap (λ j. slice_set now j (f (get_or now j d))) place
    ∙ sym (change_at f now k d in_now)

get_some : {X : Type 0} (xs : List X) (i : ℕ) (d : X) → i < length xs → slice_get xs i ≡ Some (get_or xs i d)
get_some [] i d h = absurd (omega (arith, h))
get_some (x ∷ xs) zero d h = refl
get_some (x ∷ xs) (suc i) d h = get_some xs i d (omega (arith, h))

pub found : (all now : List Peer) (n k i : ℕ) (d : Peer) → take n all ≡ now → i ≡ peer_index now k → i < n → n ≤ length all → peer now k ≡ Some (get_or all i d)
found all now n k i d e place lt within =
    let here : get_or now i d ≡ get_or all i d = ap (λ ps. get_or ps i d) (sym e) ∙ get_or-take n all i d lt in
    let in_now : i < length now = omega (arith, lt, within, ap length e, length-take-le n all within) in
    peer_at now k ∙ ap (λ j. slice_get now j) (sym place) ∙ get_some now i d in_now ∙ ap (λ x. Some x) here

-- a node that is none of them, by its position
pub gone : (all now : List Peer) (n k i : ℕ) → take n all ≡ now → i ≡ peer_index now k → n ≤ i → length now ≤ peer_index now k
gone all now n k i e place h = omega (arith, place, h, ap length e, length-take n all)
