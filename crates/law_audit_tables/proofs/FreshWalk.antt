-- Reads are fresh where they are for each session, by a walk with what reached a leader.
use Rattle.std.proofs.Common.{◌≡◌, ℕ, zero, suc, max, ◌+◌, ◌≤◌, ◌<◌, Bool, true, false, not, ◌&&◌, ◌||◌, nat_eq, nat_le, List, [], ◌∷◌, ◌++◌, Option, Some, None, refl, sym, ap, ap₂, ◌∙◌, arith}
use Rattle.std.specs.Prelude.{if◌then◌else◌}
use Rattle.std.specs.List.{list_any, list_all}
use Rattle.std.proofs.lemmas.Bool.Decides.{nat_tests}
use Rattle.std.proofs.lemmas.List.Concat.{flat_map-cons}
use Rattle.ax_types.specs.declared.ops.Level.{Level}
use Rattle.ax_types.specs.declared.ops.Level.TheVariants as level
use Rattle.ax_types.specs.declared.ops.WindowCall.{WindowCall}
use Rattle.ax_types.specs.declared.items.Item.{Item}
use Rattle.ax_types.specs.declared.items.Item.TheVariants as item
use Rattle.spec_claims.specs.Transcript as transcripts
use Rattle.spec_audit.specs.ItemConditions as item_conditions
use Rattle.law_audit_tables.specs.Digest as digests
use Rattle.law_audit_tables.specs.FreshWalk as fresh_walk
use Rattle.law_audit_tables.specs.BySession as by_session
use Rattle.law_audit_tables.proofs.Digest.{same_number, Walks, walk_digest}
use Rattle.law_audit_tables.proofs.EachSession.{own_test, each_session}

record Describes (s : ℕ) (above : List Item) (commit : ℕ) (numbers : List ℕ) (reached : List fresh_walk.Reached) : Type 0 where
  committed : transcripts.greatest_commit above ≡ commit
  called : (n : ℕ) → list_any (λ c. nat_eq n c.0) (transcripts.calls s above) ≡ list_any (nat_eq n) numbers
  reaches : (n p t a : ℕ) → item_conditions.is_reached_by s n p t a above ≡ fresh_walk.is_reached reached n p t a

calls_next : (s : ℕ) (x : Item) (above : List Item) (cs : List (ℕ × WindowCall)) → transcripts.called_by s x ≡ cs → transcripts.calls s (x ∷ above) ≡ cs ++ transcripts.calls s above
calls_next s x above cs e = flat_map-cons (transcripts.called_by s) x above ∙ ap (λ ds. ds ++ transcripts.calls s above) e

no_call : (s : ℕ) (x : Item) (above : List Item) → transcripts.called_by s x ≡ [] → (n : ℕ)
    → list_any (λ c. nat_eq n c.0) (transcripts.calls s (x ∷ above)) ≡ list_any (λ c. nat_eq n c.0) (transcripts.calls s above)
no_call s x above e n = ap (list_any (λ c. nat_eq n c.0)) (calls_next s x above [] e)

either : (a : Bool) → (if a then true else true) ≡ true
either true = refl
either false = refl

-- a request of another session is none
of_another : (a b n c l rest : Bool) → ((a && b && false && n && c && l) || rest) ≡ rest
of_another true true n c l rest = refl
of_another true false n c l rest = refl
of_another false b n c l rest = refl

-- one of the session counts where its number was called
of_session : (a b n c d l rest : Bool) → (n ≡ true → c ≡ d) → ((a && b && true && n && c && l) || rest) ≡ (if d then (a && b && n && l) || rest else rest)
of_session a b false c true l rest e = at a b
  where
    at : (x y : Bool) → ((x && y && true && false && c && l) || rest) ≡ ((x && y && false && l) || rest)
    at true true = refl
    at true false = refl
    at false y = refl
of_session a b false c false l rest e = at a b
  where
    at : (x y : Bool) → ((x && y && true && false && c && l) || rest) ≡ rest
    at true true = refl
    at true false = refl
    at false y = refl
of_session a b true c d l rest e = ap (λ f. (a && b && true && true && f && l) || rest) (e refl) ∙ at a b d
  where
    at : (x y z : Bool) → ((x && y && true && true && z && l) || rest) ≡ (if z then (x && y && true && l) || rest else rest)
    at true true true = refl
    at true true false = refl
    at true false true = refl
    at true false false = refl
    at false y true = refl
    at false y false = refl

read_same : (s : ℕ) (above : List Item) (commit : ℕ) (numbers : List ℕ) (reached : List fresh_walk.Reached) → Describes s above commit numbers reached
    → (n p : ℕ) (l : Level) (reach : Option (ℕ × ℕ)) → item_conditions.is_fresh_at s n p above l reach ≡ fresh_walk.may_read reached n p l reach
read_same s above commit numbers reached d n p level.Lin (Some r) = d.reaches n p r.0 r.1
read_same s above commit numbers reached d n p level.Lin None = refl
read_same s above commit numbers reached d n p level.Seq (Some r) = refl
read_same s above commit numbers reached d n p level.Seq None = refl

abbrev Next : ℕ → List Item → Type 0
Next s items = (above : List Item) (commit : ℕ) (numbers : List ℕ) (reached : List fresh_walk.Reached) → Describes s above commit numbers reached
    → item_conditions.each_below (own_test s item_conditions.is_fresh) above items ≡ fresh_walk.reads_fresh s commit numbers reached items

fresh_step : (s : ℕ) (items : List Item) → Next s items → (x : Item) → Next s (x ∷ items)
fresh_step s items next (item.Commit q) above commit numbers reached d =
    next (item.Commit q ∷ above) (max commit q) numbers reached (record {
      committed = (let e = d.committed in omega (arith, e));
      called = λ n. no_call s (item.Commit q) above refl n ∙ d.called n;
      reaches = d.reaches;
    })
fresh_step s items next (item.Called t m k) above commit numbers reached d = go (nat_eq s t) refl
  where
    x : Item
    x = item.Called t m k

    rest : Bool
    rest = item_conditions.each_below (own_test s item_conditions.is_fresh) (x ∷ above) items

    at : Bool → Bool
    at b = if b then fresh_walk.reads_fresh s commit (m ∷ numbers) reached items else fresh_walk.reads_fresh s commit numbers reached items

    go : (b : Bool) → nat_eq s t ≡ b → item_conditions.each_below (own_test s item_conditions.is_fresh) above (x ∷ items) ≡ at (nat_eq s t)
    go true e =
        ap (λ b. b && rest) (either (nat_eq s t))
        ∙ next (x ∷ above) commit (m ∷ numbers) reached (record {
          committed = d.committed;
          called = λ n. ap (list_any (λ c. nat_eq n c.0)) (calls_next s x above ((m, k) ∷ []) (ap (λ b. if b then (m, k) ∷ [] else []) e)) ∙ ap (λ b. nat_eq n m || b) (d.called n);
          reaches = d.reaches;
        })
        ∙ sym (ap at e)
    go false e =
        ap (λ b. b && rest) (either (nat_eq s t))
        ∙ next (x ∷ above) commit numbers reached (record {
          committed = d.committed;
          called = λ n. no_call s x above (ap (λ b. if b then (m, k) ∷ [] else []) e) n ∙ d.called n;
          reaches = d.reaches;
        })
        ∙ sym (ap at e)
fresh_step s items next (item.Reach k u b t m) above commit numbers reached d = go (nat_eq s t) refl
  where
    x : Item
    x = item.Reach k u b t m

    q : fresh_walk.Reached
    q = record { number = m; term = u; arrival = b; commit = commit }

    rest : Bool
    rest = item_conditions.each_below (own_test s item_conditions.is_fresh) (x ∷ above) items

    at : Bool → Bool
    at c = if c then fresh_walk.reads_fresh s commit numbers (fresh_walk.with_reach numbers reached q) items else fresh_walk.reads_fresh s commit numbers reached items

    same_called : (n : ℕ) → nat_eq n m ≡ true → list_any (λ c. nat_eq n c.0) (transcripts.calls s above) ≡ list_any (nat_eq m) numbers
    same_called n e = d.called n ∙ ap (λ i. list_any (nat_eq i) numbers) (same_number n m e)

    chosen : (n p v a : ℕ) (c : Bool) → fresh_walk.is_reached (if c then q ∷ reached else reached) n p v a
        ≡ (if c then (nat_eq v u && nat_eq a b && nat_eq n m && nat_le commit p) || fresh_walk.is_reached reached n p v a else fresh_walk.is_reached reached n p v a)
    chosen n p v a true = refl
    chosen n p v a false = refl

    reaches_too : nat_eq s t ≡ true → (n p v a : ℕ) → item_conditions.is_reached_by s n p v a (x ∷ above) ≡ fresh_walk.is_reached (fresh_walk.with_reach numbers reached q) n p v a
    reaches_too e n p v a =
        ap (λ c. (nat_eq v u && nat_eq a b && c && nat_eq n m && list_any (λ c. nat_eq n c.0) (transcripts.calls s above) && nat_le (transcripts.greatest_commit above) p)
        || item_conditions.is_reached_by s n p v a above) e
        ∙ of_session (nat_eq v u) (nat_eq a b) (nat_eq n m) (list_any (λ c. nat_eq n c.0) (transcripts.calls s above)) (list_any (nat_eq m) numbers)
        (nat_le (transcripts.greatest_commit above) p) (item_conditions.is_reached_by s n p v a above) (same_called n)
        ∙ ap₂ (λ g r. if list_any (nat_eq m) numbers then (nat_eq v u && nat_eq a b && nat_eq n m && nat_le g p) || r else r) d.committed (d.reaches n p v a)
        ∙ sym (chosen n p v a (list_any (nat_eq m) numbers))

    reaches_not : nat_eq s t ≡ false → (n p v a : ℕ) → item_conditions.is_reached_by s n p v a (x ∷ above) ≡ fresh_walk.is_reached reached n p v a
    reaches_not e n p v a =
        ap (λ c. (nat_eq v u && nat_eq a b && c && nat_eq n m && list_any (λ c. nat_eq n c.0) (transcripts.calls s above) && nat_le (transcripts.greatest_commit above) p)
        || item_conditions.is_reached_by s n p v a above) e
        ∙ of_another (nat_eq v u) (nat_eq a b) (nat_eq n m) (list_any (λ c. nat_eq n c.0) (transcripts.calls s above)) (nat_le (transcripts.greatest_commit above) p)
        (item_conditions.is_reached_by s n p v a above)
        ∙ d.reaches n p v a

    go : (c : Bool) → nat_eq s t ≡ c → item_conditions.each_below (own_test s item_conditions.is_fresh) above (x ∷ items) ≡ at (nat_eq s t)
    go true e =
        ap (λ c. c && rest) (either (nat_eq s t))
        ∙ next (x ∷ above) commit numbers (fresh_walk.with_reach numbers reached q) (record {
          committed = d.committed;
          called = λ n. no_call s x above refl n ∙ d.called n;
          reaches = reaches_too e;
        })
        ∙ sym (ap at e)
    go false e =
        ap (λ c. c && rest) (either (nat_eq s t))
        ∙ next (x ∷ above) commit numbers reached (record {
          committed = d.committed;
          called = λ n. no_call s x above refl n ∙ d.called n;
          reaches = reaches_not e;
        })
        ∙ sym (ap at e)
fresh_step s items next (item.Read t n l p reach r) above commit numbers reached d = go (nat_eq s t) refl
  where
    x : Item
    x = item.Read t n l p reach r

    rest : Bool
    rest = item_conditions.each_below (own_test s item_conditions.is_fresh) (x ∷ above) items

    at : Bool → Bool
    at c = if c then fresh_walk.may_read reached n p l reach && fresh_walk.reads_fresh s commit numbers reached items else fresh_walk.reads_fresh s commit numbers reached items

    later : rest ≡ fresh_walk.reads_fresh s commit numbers reached items
    later = next (x ∷ above) commit numbers reached (record { committed = d.committed; called = λ m. no_call s x above refl m ∙ d.called m; reaches = d.reaches })

    go : (c : Bool) → nat_eq s t ≡ c → item_conditions.each_below (own_test s item_conditions.is_fresh) above (x ∷ items) ≡ at (nat_eq s t)
    go true e =
        ap (λ c. (if c then item_conditions.is_fresh_at t n p above l reach else true) && rest) e
        ∙ ap₂ (λ a b. a && b) (ap (λ q. item_conditions.is_fresh_at q n p above l reach) (sym (same_number s t e)) ∙ read_same s above commit numbers reached d n p l reach) later
        ∙ sym (ap at e)
    go false e = ap (λ c. (if c then item_conditions.is_fresh_at t n p above l reach else true) && rest) e ∙ later ∙ sym (ap at e)
fresh_step s items next x above commit numbers reached d =
    ap (λ b. b && item_conditions.each_below (own_test s item_conditions.is_fresh) (x ∷ above) items) (either (digests.is_of s x))
    ∙ next (x ∷ above) commit numbers reached (record { committed = d.committed; called = λ n. no_call s x above refl n ∙ d.called n; reaches = d.reaches })

fresh_from : (s : ℕ) (items : List Item) → Next s items
fresh_from s [] above commit numbers reached d = refl
fresh_from s (x ∷ items) above commit numbers reached d = fresh_step s items (fresh_from s items) x above commit numbers reached d

fresh_walks : (s : ℕ) → Walks s (List ℕ × List fresh_walk.Reached) (λ c st items. fresh_walk.reads_fresh s c st.0 st.1 items)
fresh_walks s = record { done = λ c d st. refl; skip = λ c st x items f. skip c st.0 st.1 x items f; same = λ c st x xs ys f g. same c st.0 st.1 x xs ys f (λ ns rs. g (ns, rs)) }
  where
    skip : (c : ℕ) (ns : List ℕ) (rs : List fresh_walk.Reached) (x : Item) (items : List Item) → digests.is_of s x ≡ false
        → fresh_walk.reads_fresh s c ns rs (x ∷ items) ≡ fresh_walk.reads_fresh s (digests.committed c x) ns rs items
    skip c ns rs (item.Commit p) items f = refl
    skip c ns rs (item.Called t n k) items f = ap (λ b. if b then fresh_walk.reads_fresh s c (n ∷ ns) rs items else fresh_walk.reads_fresh s c ns rs items) f
    skip c ns rs (item.Reach k u a t n) items f =
        ap (λ b. if b then fresh_walk.reads_fresh s c ns (fresh_walk.with_reach ns rs (record { number = n; term = u; arrival = a; commit = c })) items
        else fresh_walk.reads_fresh s c ns rs items) f
    skip c ns rs (item.Read t n l p reach r) items f =
        ap (λ b. if b then fresh_walk.may_read rs n p l reach && fresh_walk.reads_fresh s c ns rs items else fresh_walk.reads_fresh s c ns rs items) f
    skip c ns rs x items f = refl

    same : (c : ℕ) (ns : List ℕ) (rs : List fresh_walk.Reached) (x : Item) (xs ys : List Item) → digests.is_of s x ≡ true
        → ((ms : List ℕ) (qs : List fresh_walk.Reached) → fresh_walk.reads_fresh s c ms qs xs ≡ fresh_walk.reads_fresh s c ms qs ys)
        → fresh_walk.reads_fresh s c ns rs (x ∷ xs) ≡ fresh_walk.reads_fresh s c ns rs (x ∷ ys)
    same c ns rs (item.Commit p) xs ys f g = absurd (cc)
    same c ns rs (item.Called t n k) xs ys f g = ap₂ (λ a b. if nat_eq s t then a else b) (g (n ∷ ns) rs) (g ns rs)
    same c ns rs (item.Reach k u a t n) xs ys f g =
        ap₂ (λ a b. if nat_eq s t then a else b) (g ns (fresh_walk.with_reach ns rs (record { number = n; term = u; arrival = a; commit = c }))) (g ns rs)
    same c ns rs (item.Read t n l p reach r) xs ys f g = ap (λ a. if nat_eq s t then fresh_walk.may_read rs n p l reach && a else a) (g ns rs)
    same c ns rs x xs ys f g = g ns rs

fresh_one : (s : ℕ) (items : List Item)
    → item_conditions.each_shown (own_test s item_conditions.is_fresh) items ≡ fresh_walk.reads_fresh s 0 [] [] (digests.digest s 0 false items)
fresh_one s items =
    fresh_from s items [] 0 [] [] (record { committed = refl; called = λ n. refl; reaches = λ n p t a. refl })
    ∙ sym (walk_digest s (List ℕ × List fresh_walk.Reached) _ (fresh_walks s) 0 0 false ([], []) items (λ e. refl) (omega arith))

not_shown : (above : List Item) (x : Item) → digests.session_of x ≡ None → item_conditions.is_fresh above x ≡ true
not_shown above (item.Read t n l p reach r) e = absurd (cc)
not_shown above x e = refl

pub fresh_by_session : by_session.FreshBySession
fresh_by_session ss items named = each_session item_conditions.is_fresh not_shown ss [] items named ∙ all_same ss
  where
    all_same : (ts : List ℕ)
        → list_all (λ s. item_conditions.each_shown (own_test s item_conditions.is_fresh) items) ts
        ≡ list_all (λ s. fresh_walk.reads_fresh s 0 [] [] (digests.digest s 0 false items)) ts
    all_same [] = refl
    all_same (t ∷ ts) = ap₂ (λ a b. a && b) (fresh_one t items) (all_same ts)
