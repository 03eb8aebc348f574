-- Replies whose sequences follow one another: where one stands, and what letting go of the first ones leaves.
use Rattle.std.proofs.Common.{◌≡◌, ℕ, zero, suc, ◌+◌, ◌<◌, ◌≤◌, refl, ap, arith, true, false, nat_eq, nat_lt, List, [], ◌∷◌, ◌++◌, length, drop, min, None}
use Rattle.std.specs.Prelude.{find, filter, slice_get}
use Rattle.std.proofs.lemmas.Grind.{common_steps}
use Rattle.ax_types.specs.declared.sessions.KeptReply.{KeptReply}
use Rattle.reply_cache.specs.Sequences as reply_cache_sequences

-- one more reply, of the next command
pub Follow-push : (before : ℕ) (ks : List KeptReply) (k : KeptReply) → reply_cache_sequences.Follow before ks → k.seq ≡ before + length ks + 1 → reply_cache_sequences.Follow before (ks ++ k ∷ [])
Follow-push before [] k f e = (omega arith, tt)
Follow-push before (x ∷ ks) k f e = (f.0, Follow-push (suc before) ks k f.1 (omega arith))

-- no reply is of a command up to the one before
pub find-before : (before seq : ℕ) (ks : List KeptReply) → reply_cache_sequences.Follow before ks → seq ≤ before → find (λ k. nat_eq k.seq seq) ks ≡ None
find-before before seq [] f below = refl
find-before before seq (x ∷ ks) f below =
    let apart : nat_eq x.seq seq ≡ false = grind (arith, common_steps) in
    rw apart (find-before (suc before) seq ks f.1 (omega arith))

-- no reply is of a command after the last
pub find-after : (before seq : ℕ) (ks : List KeptReply) → reply_cache_sequences.Follow before ks → before + length ks < seq → find (λ k. nat_eq k.seq seq) ks ≡ None
find-after before seq [] f above = refl
find-after before seq (x ∷ ks) f above =
    let apart : nat_eq x.seq seq ≡ false = grind (arith, common_steps) in
    rw apart (find-after (suc before) seq ks f.1 (omega arith))

-- the reply of a command stands by its sequence
pub find-at : (before seq index : ℕ) (ks : List KeptReply) → reply_cache_sequences.Follow before ks → seq ≡ suc before + index → find (λ k. nat_eq k.seq seq) ks ≡ slice_get ks index
find-at before seq index [] f e = refl
find-at before seq zero (x ∷ ks) f e =
    let same : nat_eq x.seq seq ≡ true = grind (arith, common_steps) in
    rw same refl
find-at before seq (suc index) (x ∷ ks) f e =
    let apart : nat_eq x.seq seq ≡ false = grind (arith, common_steps) in
    rw apart (find-at (suc before) seq index ks f.1 (omega arith))

-- none is let go that comes after the one answered
pub filter-none : (before answered : ℕ) (ks : List KeptReply) → reply_cache_sequences.Follow before ks → answered ≤ before → filter (λ k. nat_lt answered k.seq) ks ≡ ks
filter-none before answered [] f below = refl
filter-none before answered (x ∷ ks) f below =
    let later : nat_lt answered x.seq ≡ true = grind (arith, common_steps) in
    rw later (ap (λ (xs : List KeptReply). x ∷ xs) (filter-none (suc before) answered ks f.1 (omega arith)))

-- the first reply is let go, of a command up to the one answered
pub popped : (before answered : ℕ) (ks : List KeptReply) → reply_cache_sequences.Follow before ks → 0 < length ks → before < answered
    → reply_cache_sequences.Follow (suc before) (drop 1 ks) × (suc before + length (drop 1 ks) ≡ before + length ks) × (filter (λ k. nat_lt answered k.seq) (drop 1 ks) ≡ filter (λ k. nat_lt answered k.seq) ks)
popped before answered [] f some lt = absurd (omega arith)
popped before answered (x ∷ ks) f some lt =
    let passed : nat_lt answered x.seq ≡ false = grind (arith, common_steps) in
    (f.1, omega arith, rw passed refl)

-- nothing is left to let go
pub all_popped : (before answered last : ℕ) (ks : List KeptReply) → reply_cache_sequences.Follow before ks → before + length ks ≡ last → min last answered ≤ before → filter (λ k. nat_lt answered k.seq) ks ≡ ks
all_popped before answered last [] f e le = refl
all_popped before answered last (x ∷ ks) f e le =
    let below : answered ≤ before = omega arith in filter-none before answered (x ∷ ks) f below
