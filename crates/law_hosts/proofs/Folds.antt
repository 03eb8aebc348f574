-- Entries applied at once and one after the other, and their acts.
use Rattle.std.proofs.Common.{◌≡◌, ℕ, zero, suc, ◌+◌, ◌-◌, ◌≤◌, List, [], ◌∷◌, ◌++◌, length, take, drop, refl, ap, sym, ◌∙◌, subst, arith, inl, inr, length-append}
use Rattle.std.specs.Prelude.{◌⊎◌}
use Rattle.std.proofs.lemmas.List.{append-nil, take-append-drop, take-append-le, drop-append-le, length-drop, length-take-le, take_all, drop_all}
use Rattle.std.proofs.Math.Seq.{drop-append_seam}
use Rattle.ax_types.specs.declared.entries.Act.{Act}
use Rattle.ax_types.specs.declared.entries.Entry.{Entry}
use Rattle.spec_claims.specs.Once as once
use Rattle.spec_node.specs.Node as raft_nodes
use Rattle.spec_sessions.specs.Sessions as sessions
use Rattle.spec_server.specs.Gates as gates
use Rattle.spec_server.specs.ServerStep as server_steps
use Rattle.spec_run.specs.KeptStores as kept_stores
use Rattle.law_sessions.specs.Folds as folds

applied_append : (s : sessions.Sessions) (xs ys : List Entry) → folds.applied_all s (xs ++ ys) ≡ folds.applied_all (folds.applied_all s xs) ys
applied_append s [] ys = refl
applied_append s (x ∷ xs) ys = applied_append (sessions.applying s (suc s.applied) x) xs ys

applied_count : (s : sessions.Sessions) (xs : List Entry) → (folds.applied_all s xs).applied ≡ s.applied + length xs
applied_count s [] = omega arith
applied_count s (x ∷ xs) = let r : (folds.applied_all s (x ∷ xs)).applied ≡ suc s.applied + length xs = applied_count (sessions.applying s (suc s.applied) x) xs in omega (arith, r)

pub state_count : (timeout : ℕ) (es : List Entry) → (folds.sessions_after timeout es).applied ≡ length es
state_count timeout es = let r : (folds.sessions_after timeout es).applied ≡ 0 + length es = applied_count (sessions.new_sessions timeout) es in omega (arith, r)

acts_append : (s : sessions.Sessions) (xs ys : List Entry) → kept_stores.acts_from s (xs ++ ys) ≡ kept_stores.acts_from s xs ++ kept_stores.acts_from (folds.applied_all s xs) ys
acts_append s [] ys = refl
acts_append s (x ∷ xs) ys = ap (λ hs. (x.time, (sessions.applied_of s (suc s.applied) x).act) ∷ hs) (acts_append (sessions.applying s (suc s.applied) x) xs ys)

pub acts_count : (s : sessions.Sessions) (es : List Entry) → length (kept_stores.acts_from s es) ≡ length es
acts_count s [] = refl
acts_count s (e ∷ es) = ap suc (acts_count (sessions.applying s (suc s.applied) e) es)

-- what a server applies in a step
pub applies_state : (n : raft_nodes.Node) (cs : List gates.Connection) (s : sessions.Sessions) (es : List Entry) → (server_steps.applying_all n cs s es).state ≡ folds.applied_all s es
applies_state n cs s [] = refl
applies_state n cs s (e ∷ es) = applies_state n cs (sessions.applying s (suc s.applied) e) es

pub applies_acts : (n : raft_nodes.Node) (cs : List gates.Connection) (s : sessions.Sessions) (es : List Entry) → (server_steps.applying_all n cs s es).acts ≡ kept_stores.acts_from s es
applies_acts n cs s [] = refl
applies_acts n cs s (e ∷ es) = ap (λ hs. (e.time, (sessions.applied_of s (suc s.applied) e).act) ∷ hs) (applies_acts n cs (sessions.applying s (suc s.applied) e) es)

take_take : (c d : ℕ) (xs : List Entry) → c ≤ d → take c (take d xs) ≡ take c xs
take_take zero d xs le = refl
take_take (suc c) zero xs le = absurd (omega (arith, le))
take_take (suc c) (suc d) [] le = refl
take_take (suc c) (suc d) (x ∷ xs) le = ap (λ ys. x ∷ ys) (take_take c d xs (let h : suc c ≤ suc d = le in omega (arith, h)))

-- a state after the first c entries goes on to that after the first d
pub state_goes_on : (timeout : ℕ) (xs ys : List Entry) (c d : ℕ) → once.Begins xs ys → c ≤ length xs → c ≤ d → folds.applied_all (folds.sessions_after timeout (take c xs)) (drop c (take d ys)) ≡ folds.sessions_after timeout (take d ys)
state_goes_on timeout xs ys c d b within le =
    let first : take c xs ≡ take c (take d ys) = sym (take-append-le c xs b.0 within) ∙ ap (take c) (sym b.1) ∙ sym (take_take c d ys le) in
    ap (λ es. folds.applied_all (folds.sessions_after timeout es) (drop c (take d ys))) first
    ∙ sym (applied_append (sessions.new_sessions timeout) (take c (take d ys)) (drop c (take d ys)))
    ∙ ap (folds.sessions_after timeout) (take-append-drop c (take d ys))

-- and gives the acts that a history lacks
acts_grow : (timeout c : ℕ) (xs rest : List Entry) → c ≤ length xs
    → kept_stores.acts_of timeout xs ++ drop (length xs - c) (kept_stores.acts_from (folds.sessions_after timeout (take c xs)) (drop c (xs ++ rest))) ≡ kept_stores.acts_of timeout (xs ++ rest)
acts_grow timeout c xs rest le =
    let s : sessions.Sessions = folds.sessions_after timeout (take c xs) in
    let old : List (ℕ × Act) = kept_stores.acts_from s (drop c xs) in
    let all : folds.applied_all s (drop c xs) ≡ folds.sessions_after timeout xs = sym (applied_append (sessions.new_sessions timeout) (take c xs) (drop c xs)) ∙ ap (folds.sessions_after timeout) (take-append-drop c xs) in
    let count : length old ≡ length xs - c = acts_count s (drop c xs) ∙ length-drop c xs in
    ap (λ es. kept_stores.acts_of timeout xs ++ drop (length xs - c) (kept_stores.acts_from s es)) (drop-append-le c xs rest le)
    ∙ ap (λ hs. kept_stores.acts_of timeout xs ++ drop (length xs - c) hs) (acts_append s (drop c xs) rest)
    ∙ ap (λ n. kept_stores.acts_of timeout xs ++ drop n (old ++ kept_stores.acts_from (folds.applied_all s (drop c xs)) rest)) (sym count)
    ∙ ap (λ hs. kept_stores.acts_of timeout xs ++ hs) (drop-append_seam old (kept_stores.acts_from (folds.applied_all s (drop c xs)) rest))
    ∙ ap (λ x. kept_stores.acts_of timeout xs ++ kept_stores.acts_from x rest) all
    ∙ sym (acts_append (sessions.new_sessions timeout) xs rest)

pub history_goes_on : (timeout : ℕ) (xs ys : List Entry) (c d : ℕ) → once.Begins xs ys → c ≤ length xs → c ≤ d → d ≤ length ys → (ys ≡ xs) ⊎ (length ys ≡ d)
    → kept_stores.acts_of timeout xs ++ drop (length xs - c) (kept_stores.acts_from (folds.sessions_after timeout (take c xs)) (drop c (take d ys))) ≡ kept_stores.acts_of timeout ys
history_goes_on timeout xs ys c d b within le end (inl same) =
    let s : sessions.Sessions = folds.sessions_after timeout (take c xs) in
    let new : List (ℕ × Act) = kept_stores.acts_from s (drop c (take d ys)) in
    let count : length new ≡ length (take d ys) - c = acts_count s (drop c (take d ys)) ∙ length-drop c (take d ys) in
    let taken : length (take d ys) ≡ d = length-take-le d ys end in
    let long : length ys ≡ length xs = ap length same in
    ap (λ hs. kept_stores.acts_of timeout xs ++ hs) (drop_all (length xs - c) new (omega (arith, count, taken, long, end)))
    ∙ append-nil (kept_stores.acts_of timeout xs) ∙ ap (kept_stores.acts_of timeout) (sym same)
history_goes_on timeout xs ys c d b within le end (inr all) =
    ap (λ es. kept_stores.acts_of timeout xs ++ drop (length xs - c) (kept_stores.acts_from (folds.sessions_after timeout (take c xs)) (drop c es))) (take_all d ys (omega (arith, all)) ∙ b.1)
    ∙ acts_grow timeout c xs b.0 within ∙ ap (kept_stores.acts_of timeout) (sym b.1)
