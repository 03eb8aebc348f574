-- Which places a log has after it grew, and after it was made to hold what a leader sent.
use Rattle.std.proofs.Common.{◌≡◌, ℕ, zero, suc, ◌+◌, ◌-◌, ◌<◌, ◌≤◌, min, max, List, [], ◌∷◌, ◌++◌, length, take, drop, length-append, length-drop, refl, ap, ◌∙◌, arith}
use Rattle.std.specs.Prelude.{Bool, true, false, nat_eq, cond, Option, Some, None}
use Rattle.std.proofs.lemmas.Bool.Decides.{nat_tests}
use Rattle.std.proofs.lemmas.List.{length-take}
use Rattle.ax_types.specs.declared.entries.Entry.{Entry}
use Rattle.spec_raft.specs.Log as logs
use Rattle.spec_raft.specs.Progress as progresses
use Rattle.spec_node.specs.Node as nodes

greatest_case : (b : Bool) (low n m : ℕ) → m ≤ low + n → cond b (low + suc n) m ≤ low + suc n
greatest_case true low n m h = omega arith
greatest_case false low n m h = omega (arith, h)

greatest-le : (f : ℕ → Bool) (low n : ℕ) → progresses.greatest f low n ≤ low + n
greatest-le f low zero = omega arith
greatest-le f low (suc n) = greatest_case (f (low + suc n)) low n (progresses.greatest f low n) (greatest-le f low n)

-- a commit that rises stays within the log
pub commit_within : (peers : List progresses.Peer) (log : List Entry) (term commit : ℕ) → commit ≤ length log → progresses.commit_place peers log term commit ≤ length log
commit_within peers log term commit h = omega (arith, h, greatest-le (progresses.may_commit peers log term) commit (length log - commit))

-- a conflict stands above the place before the entries sent
conflict_case : (b : Bool) (p q : ℕ) (xs sent : List Entry) → (logs.conflict_after (suc p) xs sent ≡ Some q → suc p < q) → cond b (logs.conflict_after (suc p) xs sent) (Some (suc p)) ≡ Some q → p < q
conflict_case true p q xs sent above e = omega (arith, above e)
conflict_case false p q xs sent above e = let same : suc p ≡ q = cc e in omega (arith, same)

conflict_above : (p q : ℕ) (log sent : List Entry) → logs.conflict_after p log sent ≡ Some q → p < q
conflict_above p q [] sent e = absurd (cc e)
conflict_above p q (x ∷ xs) [] e = absurd (cc e)
conflict_above p q (x ∷ xs) (s ∷ sent) e = conflict_case (nat_eq x.term s.term) p q xs sent (λ f. conflict_above (suc p) q xs sent f) e

-- what stays has a place that is below the one cut
stays_to : (c : Option ℕ) (log : List Entry) (n : ℕ) → n ≤ length log → ((q : ℕ) → c ≡ Some q → n < q) → n ≤ length (logs.cut_before log c)
stays_to None log n h above = h
stays_to (Some q) log n h above = omega (arith, h, above q refl, length-take (q - 1) log)

held_length : (stays sent : List Entry) (prev : ℕ) → length (stays ++ logs.lacking stays prev sent) ≡ length stays + (length sent - (length stays - prev))
held_length stays sent prev = length-append stays (logs.lacking stays prev sent) ∙ ap (λ n. length stays + n) (length-drop (length stays - prev) sent)

-- the log then has all places sent
pub sent_within : (log sent : List Entry) (prev : ℕ) → prev ≤ length log → prev + length sent ≤ length (logs.cut_and_added log prev sent)
sent_within log sent prev h =
    let stay : prev ≤ length (logs.stays log prev sent) = stays_to (logs.first_conflict log prev sent) log prev h (λ q e. conflict_above prev q (drop prev log) sent e) in
    omega (arith, stay, held_length (logs.stays log prev sent) sent prev)

below : (n : nodes.Node) (c : Option ℕ) (q : ℕ) → nodes.is_committed n c ≡ false → c ≡ Some q → n.commit < q
below n None q kept e = absurd (cc e)
below n (Some p) q kept e = let same : p ≡ q = cc e in grind (arith, nat_tests, same, kept)

-- and none that is committed is gone
commit_stays : (n : nodes.Node) (sent : List Entry) (prev : ℕ) → n.commit ≤ length n.log → nodes.is_committed n (logs.first_conflict n.log prev sent) ≡ false → n.commit ≤ length (logs.cut_and_added n.log prev sent)
commit_stays n sent prev h kept =
    let stay : n.commit ≤ length (logs.stays n.log prev sent) = stays_to (logs.first_conflict n.log prev sent) n.log n.commit h (λ q e. below n (logs.first_conflict n.log prev sent) q kept e) in
    omega (arith, stay, held_length (logs.stays n.log prev sent) sent prev)

-- what a leader tells of its commit lets the commit rise within the log
pub held_within : (n : nodes.Node) (sent log : List Entry) (prev told commit : ℕ) → prev ≤ length n.log → n.commit ≤ length n.log → nodes.is_committed n (logs.first_conflict n.log prev sent) ≡ false
    → log ≡ logs.cut_and_added n.log prev sent → commit ≡ max n.commit (min told (prev + length sent)) → commit ≤ length log
held_within n sent log prev told commit h k kept e f = omega (arith, f, ap length e, sent_within n.log sent prev h, commit_stays n sent prev k kept)
