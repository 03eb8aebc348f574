-- The conditions of one session hold of a report where their walks find so in the session's digest.
use Rattle.std.proofs.Common.{◌≡◌, ℕ, zero, suc, max, ◌+◌, ◌≤◌, ◌<◌, Bool, true, false, ◌&&◌, ◌||◌, nat_eq, nat_le, List, [], ◌∷◌, ◌++◌, map, refl, sym, ap, ap₂, ◌∙◌, arith}
use Rattle.std.specs.Prelude.{if◌then◌else◌}
use Rattle.ax_types.specs.declared.ops.WindowCall.{WindowCall}
use Rattle.ax_types.specs.declared.ops.WindowCall.TheVariants as call
use Rattle.ax_types.specs.declared.items.Item.{Item}
use Rattle.ax_types.specs.declared.items.Item.TheVariants as item
use Rattle.spec_book.specs.History as histories
use Rattle.law_audit_tables.specs.Digest as digests
use Rattle.law_audit_tables.specs.OutcomeWalk as outcome_walk
use Rattle.law_audit_tables.specs.OnceWalk as once_walk
use Rattle.law_audit_tables.specs.HeardWalk as heard_walk
use Rattle.law_audit_tables.specs.ReadWalk as read_walk
use Rattle.law_audit_tables.specs.EndWalk as end_walk
use Rattle.law_audit_tables.specs.DigestsSuffice as laws
use Rattle.law_audit_tables.proofs.Digest.{Walks, walk_digest}
use Rattle.law_audit_tables.proofs.OutcomeWalk as outcome_law
use Rattle.law_audit_tables.proofs.OnceWalk as once_law
use Rattle.law_audit_tables.proofs.HeardWalk as heard_law
use Rattle.law_audit_tables.proofs.ReadWalk as read_law
use Rattle.law_audit_tables.proofs.EndWalk as end_law
use Rattle.law_audit_tables.proofs.EndDigest.{course_digest}

-- ---- what is heard

hears_walks : (s : ℕ) → Walks s (List histories.Heard) (λ c rest items. heard_walk.hears s rest items)
hears_walks s = record { done = λ c d rest. refl; skip = λ c rest x items f. skip rest x items f; same = λ c rest x xs ys f g. same rest x xs ys g }
  where
    skip : (rest : List histories.Heard) (x : Item) (items : List Item) → digests.is_of s x ≡ false → heard_walk.hears s rest (x ∷ items) ≡ heard_walk.hears s rest items
    skip rest (item.Event t p prev es) items f =
        ap (λ b. if b then heard_walk.is_next (record { place = p; prev = prev; events = es }) rest && heard_walk.hears s (heard_walk.behind_next rest) items else heard_walk.hears s rest items) f
    skip rest (item.Reply t n p r) items f = ap (λ b. if b then heard_walk.none_upto p rest && heard_walk.hears s rest items else heard_walk.hears s rest items) f
    skip rest (item.Read t n l p reach r) items f = ap (λ b. if b then heard_walk.none_upto p rest && heard_walk.hears s rest items else heard_walk.hears s rest items) f
    skip rest x items f = refl

    same : (rest : List histories.Heard) (x : Item) (xs ys : List Item) → ((t : List histories.Heard) → heard_walk.hears s t xs ≡ heard_walk.hears s t ys)
        → heard_walk.hears s rest (x ∷ xs) ≡ heard_walk.hears s rest (x ∷ ys)
    same rest (item.Event t p prev es) xs ys g =
        ap₂ (λ a b. if nat_eq s t then heard_walk.is_next (record { place = p; prev = prev; events = es }) rest && a else b) (g (heard_walk.behind_next rest)) (g rest)
    same rest (item.Reply t n p r) xs ys g = ap (λ a. if nat_eq s t then heard_walk.none_upto p rest && a else a) (g rest)
    same rest (item.Read t n l p reach r) xs ys g = ap (λ a. if nat_eq s t then heard_walk.none_upto p rest && a else a) (g rest)
    same rest x xs ys g = g rest

-- ---- what is read

grow_walks : (s : ℕ) (places : List ℕ) → Walks s (List ℕ × ℕ) (λ c st items. read_walk.grow s places st.0 st.1 items)
grow_walks s places = record { done = λ c d st. refl; skip = λ c st x items f. skip st.0 st.1 x items f; same = λ c st x xs ys f g. same st.0 st.1 x xs ys (λ ns m. g (ns, m)) }
  where
    skip : (numbers : List ℕ) (greatest : ℕ) (x : Item) (items : List Item) → digests.is_of s x ≡ false
        → read_walk.grow s places numbers greatest (x ∷ items) ≡ read_walk.grow s places numbers greatest items
    skip numbers greatest (item.Called t n (call.Command name op)) items f =
        ap (λ b. if b then read_walk.grow s places (n ∷ numbers) greatest items else read_walk.grow s places numbers greatest items) f
    skip numbers greatest (item.Read t n l p reach r) items f =
        ap (λ b. if b then nat_le greatest p && nat_le (read_walk.count_below n numbers) (read_walk.count_upto p places) && read_walk.grow s places numbers (max greatest p) items
        else read_walk.grow s places numbers greatest items) f
    skip numbers greatest x items f = refl

    same : (numbers : List ℕ) (greatest : ℕ) (x : Item) (xs ys : List Item) → ((ns : List ℕ) (m : ℕ) → read_walk.grow s places ns m xs ≡ read_walk.grow s places ns m ys)
        → read_walk.grow s places numbers greatest (x ∷ xs) ≡ read_walk.grow s places numbers greatest (x ∷ ys)
    same numbers greatest (item.Called t n (call.Command name op)) xs ys g = ap₂ (λ a b. if nat_eq s t then a else b) (g (n ∷ numbers) greatest) (g numbers greatest)
    same numbers greatest (item.Read t n l p reach r) xs ys g =
        ap₂ (λ a b. if nat_eq s t then nat_le greatest p && nat_le (read_walk.count_below n numbers) (read_walk.count_upto p places) && a else b) (g numbers (max greatest p)) (g numbers greatest)
    same numbers greatest x xs ys g = g numbers greatest

-- ---- outcomes

order_walks : (s : ℕ) → Walks s outcome_walk.Known (λ c k items. outcome_walk.are_in_order s k items)
order_walks s = record {
  done = λ c d k. refl;
  skip = λ c k x items f. ap (λ b. if b then outcome_walk.may_follow k x && outcome_walk.are_in_order s (outcome_walk.known_with k x) items else outcome_walk.are_in_order s k items) (not_own x f);
  same = λ c k x xs ys f g. ap₂ (λ a b. if outcome_walk.is_of_calls s x then outcome_walk.may_follow k x && a else b) (g (outcome_walk.known_with k x)) (g k);
}
  where
    not_own : (x : Item) → digests.is_of s x ≡ false → outcome_walk.is_of_calls s x ≡ false
    not_own (item.Called t n c) f = f
    not_own (item.Unsent t n) f = f
    not_own (item.Unanswered t n) f = f
    not_own (item.Reply t n p r) f = f
    not_own (item.Read t n l p reach r) f = f
    not_own (item.Doubt t n) f = f
    not_own (item.Lost t n) f = f
    not_own x f = refl

-- ---- what takes effect

effect_walks : (s : ℕ) → Walks s once_walk.Dos (λ c rest items. once_walk.take_effect s c rest items)
effect_walks s = record { done = λ c d rest. refl; skip = skip; same = same }
  where
    skip : (c : ℕ) (rest : once_walk.Dos) (x : Item) (items : List Item) → digests.is_of s x ≡ false
        → once_walk.take_effect s c rest (x ∷ items) ≡ once_walk.take_effect s (digests.committed c x) rest items
    skip c rest (item.Called t n (call.Command name op)) items f =
        ap (λ b. if b then once_walk.may_call c rest name op && once_walk.take_effect s c (once_walk.behind_first rest) items else once_walk.take_effect s c rest items) f
    skip c rest (item.Commit p) items f = refl
    skip c rest x items f = refl

    same : (c : ℕ) (rest : once_walk.Dos) (x : Item) (xs ys : List Item) → digests.is_of s x ≡ true
        → ((t : once_walk.Dos) → once_walk.take_effect s c t xs ≡ once_walk.take_effect s c t ys) → once_walk.take_effect s c rest (x ∷ xs) ≡ once_walk.take_effect s c rest (x ∷ ys)
    same c rest (item.Called t n (call.Command name op)) xs ys f g =
        ap₂ (λ a b. if nat_eq s t then once_walk.may_call c rest name op && a else b) (g (once_walk.behind_first rest)) (g rest)
    same c rest (item.Commit p) xs ys f g = absurd (cc)
    same c rest x xs ys f g = g rest

-- ---- all of them

never : {P : Type 0} → false ≡ true → P
never e = absurd (cc)

pub digests_suffice : laws.DigestsSuffice
digests_suffice h s items = record {
  once = walk_digest s once_walk.Dos _ (effect_walks s) 0 0 false (histories.dos h s) items (λ e. refl) (omega arith) ∙ once_law.once_is_walked h s items;
  growing =
      walk_digest s (List ℕ × ℕ) _ (grow_walks s (map (λ d. d.0) (histories.dos h s))) 0 0 false ([], 0) items (λ e. refl) (omega arith) ∙ read_law.reads_are_walked h s items;
  heard = walk_digest s (List histories.Heard) _ (hears_walks s) 0 0 false (histories.events h s) items (λ e. refl) (omega arith) ∙ heard_law.heard_is_walked h s items;
  outcomes = walk_digest s outcome_walk.Known _ (order_walks s) 0 0 false outcome_walk.nothing_known items (λ e. refl) (omega arith) ∙ outcome_law.outcomes_are_walked s items;
  ends = course_digest h s end_walk.nothing_yet 0 false items (λ e. refl) ∙ end_law.ends_are_walked h s items;
}
