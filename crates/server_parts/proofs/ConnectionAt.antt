-- Connections by where they stand: their sessions rise.
use Rattle.std.proofs.Common.{◌≡◌, ℕ, zero, suc, ◌<◌, ◌≤◌, ◌∙◌, refl, sym, ap, subst, arith, Bool, true, false, cond, nat_eq, nat_lt, List, [], ◌∷◌, length, get_or, slice_get, Some, None}
use Rattle.std.specs.List.{insert}
use Rattle.std.specs.List.Sorted.{IsNonDecreasingBy}
use Rattle.std.proofs.lemmas.Bool.Decides.{nat_tests}
use Rattle.std.proofs.lemmas.Option.{slice_get_read}
use Rattle.std.proofs.Math.ListN.{set}
use Rattle.spec_server.specs.Gates as gates
use Rattle.server_parts.specs.ConnectionOrder as order

not_same : (m n : ℕ) → nat_lt m n ≡ true → nat_eq m n ≡ false
not_same m n less = grind (arith, nat_tests)

not_more : (m n : ℕ) → nat_lt m n ≡ true → nat_lt n m ≡ false
not_more m n less = grind (arith, nat_tests)

is_less : (m n : ℕ) → nat_lt m n ≡ true → m < n
is_less m n less = grind (arith, nat_tests)

less_is : (m n : ℕ) → m < n → nat_lt m n ≡ true
less_is m n less = grind (arith, nat_tests)

not_less_is : (m n : ℕ) → n ≤ m → nat_lt m n ≡ false
not_less_is m n le = grind (arith, nat_tests)

is_same : (m n : ℕ) → nat_eq m n ≡ true → m ≡ n
is_same m n same = grind (arith, nat_tests)

is_more : (m n : ℕ) → nat_lt m n ≡ false → nat_eq m n ≡ false → nat_lt n m ≡ true
is_more m n least apart = grind (arith, nat_tests)

above_apart : (m n : ℕ) → n < m → nat_eq m n ≡ false
above_apart m n less = grind (arith, nat_tests)

-- the rest of a rising list rises
rest_rises : (n : ℕ) (cs : List gates.Connection) → order.RiseAbove n cs → order.ConnectionsRise cs
rest_rises n [] above = tt
rest_rises n (c ∷ cs) above = above.1

lower : (m n : ℕ) (cs : List gates.Connection) → m ≤ n → order.RiseAbove n cs → order.RiseAbove m cs
lower m n [] le above = tt
lower m n (c ∷ cs) le above = (let first : n < c.session = above.0 in omega arith, above.1)

-- a connection has a session above those before it
above_at : (n : ℕ) (cs : List gates.Connection) (i : ℕ) (d : gates.Connection) → order.RiseAbove n cs → i < length cs → n < (get_or cs i d).session
above_at n [] i d above at = absurd (omega arith)
above_at n (c ∷ cs) zero d above at = above.0
above_at n (c ∷ cs) (suc i) d above at =
    let inner : i < length cs = omega arith in
    let rest : c.session < (get_or cs i d).session = above_at c.session cs i d above.1 inner in
    let less : n < c.session = above.0 in
    omega arith

-- sessions do not fall along a rising list
pub sessions_rise : (cs : List gates.Connection) → order.ConnectionsRise cs → IsNonDecreasingBy (λ (c : gates.Connection). c.session) cs
sessions_rise [] rise i j d le lt = absurd (omega arith)
sessions_rise (c ∷ cs) rise zero zero d le lt = omega arith
sessions_rise (c ∷ cs) rise zero (suc j) d le lt = let more : c.session < (get_or cs j d).session = above_at c.session cs j d rise (omega arith) in omega arith
sessions_rise (c ∷ cs) rise (suc i) zero d le lt = absurd (omega arith)
sessions_rise (c ∷ cs) rise (suc i) (suc j) d le lt = sessions_rise cs (rest_rises c.session cs rise) i j d (omega arith) (omega arith)

-- what lies before a partition point is counted, and nothing else
pub count_is : (n i : ℕ) (cs : List gates.Connection) → i ≤ length cs
    → ((k : ℕ) (d : gates.Connection) → k < i → k < length cs → (get_or cs k d).session < n)
    → ((k : ℕ) (d : gates.Connection) → i ≤ k → k < length cs → n ≤ (get_or cs k d).session)
    → i ≡ order.connections_below n cs
count_is n i [] within below beyond = omega arith
count_is n zero (c ∷ cs) within below beyond = rw (not_less_is c.session n (beyond 0 c (omega arith) (omega arith))) refl
count_is n (suc i) (c ∷ cs) within below beyond =
    rw (less_is c.session n (below 0 c (omega arith) (omega arith)))
    (ap suc (count_is n i cs (omega arith) (λ k d lt inner. below (suc k) d (omega arith) (omega arith)) (λ k d le inner. beyond (suc k) d (omega arith) (omega arith))))

pub count_within : (n : ℕ) (cs : List gates.Connection) → order.connections_below n cs ≤ length cs
count_within n [] = omega arith
count_within n (c ∷ cs) = by_test (nat_lt c.session n) (count_within n cs)
  where
    by_test : (b : Bool) → order.connections_below n cs ≤ length cs → cond b (suc (order.connections_below n cs)) 0 ≤ suc (length cs)
    by_test true rest = omega arith
    by_test false rest = omega arith

-- a connection that is there stands within the list
pub there_within : (n : ℕ) (cs : List gates.Connection) (i : ℕ) → order.is_connection_of n (slice_get cs i) ≡ true → i < length cs
there_within n [] i there = absurd (cc)
there_within n (c ∷ cs) zero there = omega arith
there_within n (c ∷ cs) (suc i) there = let rest : i < length cs = there_within n cs i there in omega arith

-- the connection of a session, where it stands
none_above : (n : ℕ) (cs : List gates.Connection) → order.RiseAbove n cs → gates.connection cs n ≡ None
none_above n [] above = refl
none_above n (c ∷ cs) above =
    let first : n < c.session = above.0 in
    rw (above_apart c.session n first) (none_above n cs (lower n c.session cs (omega arith) above.1))

pub client_there : (n : ℕ) (cs : List gates.Connection) → order.is_connection_of n (slice_get cs (order.connections_below n cs)) ≡ true
    → gates.connection cs n ≡ slice_get cs (order.connections_below n cs)
client_there n [] there = absurd (cc)
client_there n (c ∷ cs) there = by_test (nat_lt c.session n) refl (λ here. client_there n cs here) there
  where
    by_test : (b : Bool) → nat_lt c.session n ≡ b
        → (order.is_connection_of n (slice_get cs (order.connections_below n cs)) ≡ true → gates.connection cs n ≡ slice_get cs (order.connections_below n cs))
        → order.is_connection_of n (slice_get (c ∷ cs) (cond b (suc (order.connections_below n cs)) 0)) ≡ true
        → gates.connection (c ∷ cs) n ≡ slice_get (c ∷ cs) (cond b (suc (order.connections_below n cs)) 0)
    by_test true e more here = rw (not_same c.session n e) (more here)
    by_test false e more here = rw here refl

pub no_client : (n : ℕ) (cs : List gates.Connection) → order.ConnectionsRise cs → order.is_connection_of n (slice_get cs (order.connections_below n cs)) ≡ false
    → gates.connection cs n ≡ None
no_client n [] rise apart = refl
no_client n (c ∷ cs) rise apart = by_test (nat_lt c.session n) refl (λ here. no_client n cs (rest_rises c.session cs rise) here) apart
  where
    by_test : (b : Bool) → nat_lt c.session n ≡ b
        → (order.is_connection_of n (slice_get cs (order.connections_below n cs)) ≡ false → gates.connection cs n ≡ None)
        → order.is_connection_of n (slice_get (c ∷ cs) (cond b (suc (order.connections_below n cs)) 0)) ≡ false
        → gates.connection (c ∷ cs) n ≡ None
    by_test true e more here = rw (not_same c.session n e) (more here)
    by_test false e more here =
        let more : n < c.session = is_less n c.session (is_more c.session n e here) in
        rw here (none_above n cs (lower n c.session cs (omega arith) rise))

-- a session is connected where it stands, or is to stand
pub connected_there : (n client : ℕ) (cs : List gates.Connection) → order.is_connection_of n (slice_get cs (order.connections_below n cs)) ≡ true
    → set cs (order.connections_below n cs) (record { session = n; client = client }) ≡ gates.connected cs n client
connected_there n client [] there = absurd (cc)
connected_there n client (c ∷ cs) there = by_test (nat_lt c.session n) refl (λ here. connected_there n client cs here) there
  where
    by_test : (b : Bool) → nat_lt c.session n ≡ b
        → (order.is_connection_of n (slice_get cs (order.connections_below n cs)) ≡ true
        → set cs (order.connections_below n cs) (record { session = n; client = client }) ≡ gates.connected cs n client)
        → order.is_connection_of n (slice_get (c ∷ cs) (cond b (suc (order.connections_below n cs)) 0)) ≡ true
        → set (c ∷ cs) (cond b (suc (order.connections_below n cs)) 0) (record { session = n; client = client }) ≡ gates.connected (c ∷ cs) n client
    by_test true e more here = rw (not_same c.session n e, not_more c.session n e) (ap (λ (rest : List gates.Connection). c ∷ rest) (more here))
    by_test false e more here = rw here refl

pub connected_new : (n client : ℕ) (cs : List gates.Connection) → order.is_connection_of n (slice_get cs (order.connections_below n cs)) ≡ false
    → insert cs (order.connections_below n cs) (record { session = n; client = client }) ≡ gates.connected cs n client
connected_new n client [] apart = refl
connected_new n client (c ∷ cs) apart = by_test (nat_lt c.session n) refl (λ here. connected_new n client cs here) apart
  where
    by_test : (b : Bool) → nat_lt c.session n ≡ b
        → (order.is_connection_of n (slice_get cs (order.connections_below n cs)) ≡ false
        → insert cs (order.connections_below n cs) (record { session = n; client = client }) ≡ gates.connected cs n client)
        → order.is_connection_of n (slice_get (c ∷ cs) (cond b (suc (order.connections_below n cs)) 0)) ≡ false
        → insert (c ∷ cs) (cond b (suc (order.connections_below n cs)) 0) (record { session = n; client = client }) ≡ gates.connected (c ∷ cs) n client
    by_test true e more here = rw (not_same c.session n e, not_more c.session n e) (ap (λ (rest : List gates.Connection). c ∷ rest) (more here))
    by_test false e more here = rw (here, is_more c.session n e here) refl

-- connections rise after one more
beyond : (k l : ℕ) → nat_lt l k ≡ false → nat_eq k l ≡ false → k < l
beyond k l e apart = grind (arith, nat_tests)

above_connected : (m n client : ℕ) (cs : List gates.Connection) → m < n → order.RiseAbove m cs → order.RiseAbove m (gates.connected cs n client)
above_connected m n client [] less above = (less, tt)
above_connected m n client (c ∷ cs) less above = by_same (nat_eq c.session n) refl (λ first. above_connected c.session n client cs first above.1)
  where
    by_less : (b : Bool) → nat_lt n c.session ≡ b → nat_eq c.session n ≡ false → (c.session < n → order.RiseAbove c.session (gates.connected cs n client))
        → order.RiseAbove m (cond b (record { session = n; client = client } ∷ c ∷ cs) (c ∷ gates.connected cs n client))
    by_less true e apart more = (less, (is_less n c.session e, above.1))
    by_less false e apart more = (above.0, more (beyond c.session n e apart))

    by_same : (b : Bool) → nat_eq c.session n ≡ b → (c.session < n → order.RiseAbove c.session (gates.connected cs n client))
        → order.RiseAbove m (cond b (record { session = n; client = client } ∷ cs) (cond (nat_lt n c.session) (record { session = n; client = client } ∷ c ∷ cs) (c ∷ gates.connected cs n client)))
    by_same true e more = let same : c.session ≡ n = is_same c.session n e in (less, lower n c.session cs (omega arith) above.1)
    by_same false e more = by_less (nat_lt n c.session) refl e more

pub connected_rise : (n client : ℕ) (cs : List gates.Connection) → order.ConnectionsRise cs → order.ConnectionsRise (gates.connected cs n client)
connected_rise n client [] rise = tt
connected_rise n client (c ∷ cs) rise = by_same (nat_eq c.session n) refl
  where
    by_less : (b : Bool) → nat_lt n c.session ≡ b → nat_eq c.session n ≡ false
        → order.ConnectionsRise (cond b (record { session = n; client = client } ∷ c ∷ cs) (c ∷ gates.connected cs n client))
    by_less true e apart = (is_less n c.session e, rise)
    by_less false e apart = above_connected c.session n client cs (beyond c.session n e apart) rise

    by_same : (b : Bool) → nat_eq c.session n ≡ b
        → order.ConnectionsRise (cond b (record { session = n; client = client } ∷ cs) (cond (nat_lt n c.session) (record { session = n; client = client } ∷ c ∷ cs) (c ∷ gates.connected cs n client)))
    by_same true e = let same : c.session ≡ n = is_same c.session n e in lower n c.session cs (omega arith) rise
    by_same false e = by_less (nat_lt n c.session) refl e

-- the same at the place that was found
pub found_there : (n i : ℕ) (cs : List gates.Connection) (c : gates.Connection) → i ≡ order.connections_below n cs → order.is_connection_of n (slice_get cs i) ≡ true
    → c ≡ get_or cs i c → Some c ≡ gates.connection cs n
found_there n i cs c at there is =
    let here : order.is_connection_of n (slice_get cs (order.connections_below n cs)) ≡ true = subst (λ (k : ℕ). order.is_connection_of n (slice_get cs k) ≡ true) at there in
    let item : slice_get cs i ≡ Some c = slice_get_read cs (length cs) i c refl (there_within n cs i there) is in
    sym (client_there n cs here ∙ (ap (slice_get cs) (sym at) ∙ item))

pub none_there : (n i : ℕ) (cs : List gates.Connection) → order.ConnectionsRise cs → i ≡ order.connections_below n cs → order.is_connection_of n (slice_get cs i) ≡ false
    → None ≡ gates.connection cs n
none_there n i cs rise at apart =
    sym (no_client n cs rise (subst (λ (k : ℕ). order.is_connection_of n (slice_get cs k) ≡ false) at apart))

pub set_there : (n client i : ℕ) (cs : List gates.Connection) → i ≡ order.connections_below n cs → order.is_connection_of n (slice_get cs i) ≡ true
    → set cs i (record { session = n; client = client }) ≡ gates.connected cs n client
set_there n client i cs at there =
    ap (λ (k : ℕ). set cs k (record { session = n; client = client })) at
    ∙ connected_there n client cs (subst (λ (k : ℕ). order.is_connection_of n (slice_get cs k) ≡ true) at there)

pub insert_there : (n client i : ℕ) (cs : List gates.Connection) → i ≡ order.connections_below n cs → order.is_connection_of n (slice_get cs i) ≡ false
    → insert cs i (record { session = n; client = client }) ≡ gates.connected cs n client
insert_there n client i cs at apart =
    ap (λ (k : ℕ). insert cs k (record { session = n; client = client })) at
    ∙ connected_new n client cs (subst (λ (k : ℕ). order.is_connection_of n (slice_get cs k) ≡ false) at apart)
