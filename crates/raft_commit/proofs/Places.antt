-- The greatest place that may be committed.
use Rattle.std.proofs.Common.{◌≡◌, ℕ, zero, suc, ◌+◌, ◌-◌, ◌<◌, ◌≤◌, max, List, [], ◌∷◌, length, refl, ap, sym, ◌∙◌, arith}
use Rattle.std.specs.Prelude.{Bool, true, false, ◌&&◌, nat_eq, nat_lt, nat_le, cond}
use Rattle.std.proofs.lemmas.Bool.Decides.{nat_tests}
use Rattle.ax_types.specs.declared.entries.Entry.{Entry}
use Rattle.spec_raft.specs.Log.{term_at}
use Rattle.spec_raft.specs.Majority.{count, is_most}
use Rattle.spec_raft.specs.Progress.{Peer, is_held, greatest, may_commit}
use Rattle.raft_commit.specs.Peers.{matched_below, place_before}

skip_case : (f : ℕ → Bool) (low n m : ℕ) → m ≤ suc n → ((k : ℕ) → m < k → k ≤ suc n → f (low + k) ≡ false) → (m ≤ n → greatest f low n ≡ greatest f low m) → (b : Bool) → nat_le m n ≡ b → greatest f low (suc n) ≡ greatest f low m
skip_case f low n m h none next true e =
    let le : m ≤ n = grind (arith, nat_tests, e) in
    ap (λ b. cond b (low + suc n) (greatest f low n)) (none (suc n) (omega (arith, le)) (omega arith)) ∙ next le
skip_case f low n m h none next false e =
    let same : suc n ≡ m = grind (arith, nat_tests, e, h) in ap (λ k. greatest f low k) same

-- numbers that do not pass are passed over
pub greatest_skips : (f : ℕ → Bool) (low n m : ℕ) → m ≤ n → ((k : ℕ) → m < k → k ≤ n → f (low + k) ≡ false) → greatest f low n ≡ greatest f low m
greatest_skips f low zero m h none = let same : 0 ≡ m = omega (arith, h) in ap (λ k. greatest f low k) same
greatest_skips f low (suc n) m h none = skip_case f low n m h none (λ le. greatest_skips f low n m le (λ k lt up. none k lt (omega (arith, up)))) (nat_le m n) refl

-- no peer holds the log up to a place from one to another: as many hold it up to both
same_test : (matched r m n : ℕ) → m ≤ n → (b : Bool) → nat_lt matched n ≡ b → cond b (max matched r) r < m → (nat_le m matched ≡ nat_le n matched) × (r < m)
same_test matched r m n h true e lt = (let low : matched < m = omega (arith, lt) in let k : nat_le m matched ≡ false = grind (arith, nat_tests, low) in let j : nat_le n matched ≡ false = grind (arith, nat_tests, low, h) in k ∙ sym j, omega (arith, lt))
same_test matched r m n h false e lt = (let high : n ≤ matched = grind (arith, nat_tests, e) in let k : nat_le m matched ≡ true = grind (arith, nat_tests, high, h) in let j : nat_le n matched ≡ true = grind (arith, nat_tests, high) in k ∙ sym j, lt)

same_count : (peers : List Peer) (m n : ℕ) → m ≤ n → matched_below peers n < m → count (λ p. nat_le m p.matched) peers ≡ count (λ p. nat_le n p.matched) peers
same_count [] m n h lt = refl
same_count (p ∷ peers) m n h lt =
    let t = same_test p.matched (matched_below peers n) m n h (nat_lt p.matched n) refl lt in
    ap (λ b. cond b 1 0 + count (λ q. nat_le m q.matched) peers) t.0
    ∙ ap (λ k. cond (nat_le n p.matched) 1 0 + k) (same_count peers m n h t.1)

same_held : (peers : List Peer) (m n : ℕ) → m ≤ n → matched_below peers n < m → is_held (λ p. nat_le m p.matched) peers ≡ is_held (λ p. nat_le n p.matched) peers
same_held peers m n h lt = ap (λ k. is_most (suc k) (suc (length peers))) (same_count peers m n h lt)

neither : (a b : Bool) → b ≡ false → (a && b) ≡ false
neither true b e = e
neither false b e = refl

below_case : (b : Bool) (matched r n : ℕ) → nat_lt matched n ≡ b → r < n → cond b (max matched r) r < n
below_case true matched r n e lt = let low : matched < n = grind (arith, nat_tests, e) in omega (arith, low, lt)
below_case false matched r n e lt = lt

-- a place that a peer holds below another is below it
pub matched_below-lt : (peers : List Peer) (n : ℕ) → 0 < n → matched_below peers n < n
matched_below-lt [] n h = h
matched_below-lt (p ∷ peers) n h = below_case (nat_lt p.matched n) p.matched (matched_below peers n) n refl (matched_below-lt peers n h)

before_case : (b : Bool) (peers : List Peer) (n : ℕ) → 0 < n → cond b (n - 1) (matched_below peers n) < n
before_case true peers n h = omega (arith, h)
before_case false peers n h = matched_below-lt peers n h

pub place_before-lt : (peers : List Peer) (place : ℕ) → 0 < place → place_before peers place < place
place_before-lt peers place h = before_case (is_held (λ p. nat_le place p.matched) peers) peers place h

unheld : (peers : List Peer) (log : List Entry) (term place m : ℕ) → is_held (λ p. nat_le place p.matched) peers ≡ false → m ≤ place → matched_below peers place < m → may_commit peers log term m ≡ false
unheld peers log term place m e le lt = neither (nat_eq (term_at log m) term) (is_held (λ p. nat_le m p.matched) peers) (same_held peers m place le lt ∙ e)

passed_case : (b : Bool) (peers : List Peer) (log : List Entry) (term place m : ℕ) → is_held (λ p. nat_le place p.matched) peers ≡ b → may_commit peers log term place ≡ false → cond b (place - 1) (matched_below peers place) < m → m ≤ place → may_commit peers log term m ≡ false
passed_case true peers log term place m e fails lt le = let same : m ≡ place = omega (arith, lt, le) in ap (λ k. may_commit peers log term k) same ∙ fails
passed_case false peers log term place m e fails lt le = unheld peers log term place m e le lt

-- no place between one that may not be committed and the next to look at may be
pub passed : (peers : List Peer) (log : List Entry) (term commit place : ℕ) → commit < place → may_commit peers log term place ≡ false
    → greatest (may_commit peers log term) commit (place - commit) ≡ greatest (may_commit peers log term) commit (place_before peers place - commit)
passed peers log term commit place h fails =
    let lower : place_before peers place - commit ≤ place - commit = omega (arith, place_before-lt peers place (omega (arith, h))) in
    greatest_skips (may_commit peers log term) commit (place - commit) (place_before peers place - commit) lower
    (λ k lt le. passed_case (is_held (λ p. nat_le place p.matched) peers) peers log term place (commit + k) refl fails (omega (arith, lt)) (omega (arith, le, h)))

-- the greatest place is found
pub reached : (f : ℕ → Bool) (commit place : ℕ) → commit < place → f place ≡ true → greatest f commit (place - commit) ≡ place
reached f commit place h passes = at (place - commit) (omega (arith, h)) (omega (arith, h))
  where
    at : (n : ℕ) → 0 < n → commit + n ≡ place → greatest f commit n ≡ place
    at zero k e = absurd (omega (arith, k))
    at (suc n) k e = ap (λ b. cond b (commit + suc n) (greatest f commit n)) (ap f e ∙ passes) ∙ e

pub none_above : (f : ℕ → Bool) (commit place : ℕ) → place ≤ commit → greatest f commit (place - commit) ≡ commit
none_above f commit place h = let none : place - commit ≡ 0 = omega (arith, h) in ap (λ n. greatest f commit n) none
