-- A session is opened once, so it has one client.
use Rattle.std.proofs.Common.{◌≡◌, ℕ, zero, suc, ◌+◌, ◌≤◌, List, [], ◌∷◌, ◌++◌, reverse, refl, ap, sym, ◌∙◌, subst, arith, inl, inr}
use Rattle.std.specs.Prelude.{◌⊎◌, Bool, true, false, cond, not, nat_eq, filter, flat_map, count_by, Option, Some, None}
use Rattle.std.proofs.lemmas.Bool.Decides.{nat_tests}
use Rattle.std.proofs.lemmas.List.{reverse-append}
use Rattle.ax_types.specs.Places as lists
use Rattle.ax_types.specs.declared.entries.Act.{Act}
use Rattle.ax_types.specs.declared.items.Item.{Item}
use Rattle.ax_types.specs.declared.items.Item.TheVariants as item
use Rattle.spec_book.specs.History as histories
use Rattle.spec_claims.specs.Transcript as transcripts
use Rattle.spec_claims.specs.Right as claims_right
use Rattle.spec_claims.specs.Heard as claims_heard
use Rattle.law_growth.proofs.Cases.{true_false}
use Rattle.law_items.proofs.Below.{count_cons, count_skip}

-- an opening is right where none of its session stands above
opened_right : (h : histories.History) (s : ℕ) (above : List Item) (x : Item) → claims_right.IsRight h above x → claims_right.is_opened s x ≡ true → count_by (claims_right.is_opened s) above ≡ 0
opened_right h s above (item.Opened t c) r e = let same : s ≡ t = grind (arith, nat_tests, e) in subst (λ u. count_by (claims_right.is_opened u) above ≡ 0) (sym same) r.1
opened_right h s above (item.Halted xa) r e = true_false (sym e)
opened_right h s above (item.Called xa xb xc) r e = true_false (sym e)
opened_right h s above (item.Event xa xb xc xd) r e = true_false (sym e)
opened_right h s above (item.Watched xa xb xc xd xe) r e = true_false (sym e)
opened_right h s above (item.Reply xa xb xc xd) r e = true_false (sym e)
opened_right h s above (item.Read xa xb xc xd xe xf) r e = true_false (sym e)
opened_right h s above (item.Ended xa xb xc) r e = true_false (sym e)
opened_right h s above (item.Doubt xa xb) r e = true_false (sym e)
opened_right h s above (item.Lost xa xb) r e = true_false (sym e)
opened_right h s above (item.Unsent xa xb) r e = true_false (sym e)
opened_right h s above (item.Unanswered xa xb) r e = true_false (sym e)
opened_right h s above (item.Listed xa) r e = true_false (sym e)
opened_right h s above (item.Pending xa xb xc xd) r e = true_false (sym e)
opened_right h s above (item.Skip xa) r e = true_false (sym e)
opened_right h s above (item.Leader xa xb) r e = true_false (sym e)
opened_right h s above (item.Commit xa) r e = true_false (sym e)
opened_right h s above (item.Reach xa xb xc xd xe) r e = true_false (sym e)

none_after : (h : histories.History) (s : ℕ) (above xs : List Item) → transcripts.EachBelow (claims_right.IsRight h) above xs → 1 ≤ count_by (claims_right.is_opened s) above → count_by (claims_right.is_opened s) xs ≡ 0
none_after h s above [] r one = refl
none_after h s above (x ∷ xs) r one = by_bool (claims_right.is_opened s x) refl (none_after h s (x ∷ above) xs r.1)
  where
    by_bool : (b : Bool) → claims_right.is_opened s x ≡ b → (1 ≤ count_by (claims_right.is_opened s) (x ∷ above) → count_by (claims_right.is_opened s) xs ≡ 0) → count_by (claims_right.is_opened s) (x ∷ xs) ≡ 0
    by_bool true e f = let z = opened_right h s above x r.0 e in absurd (omega (arith, z, one))
    by_bool false e f = count_skip (claims_right.is_opened s) x xs e ∙ f (let k = count_skip (claims_right.is_opened s) x above e in omega (arith, k, one))

once_after : (h : histories.History) (s : ℕ) (above xs : List Item) → transcripts.EachBelow (claims_right.IsRight h) above xs → count_by (claims_right.is_opened s) xs ≤ 1
once_after h s above [] r = omega arith
once_after h s above (x ∷ xs) r = by_bool (claims_right.is_opened s x) refl (once_after h s (x ∷ above) xs r.1) (none_after h s (x ∷ above) xs r.1)
  where
    by_bool : (b : Bool) → claims_right.is_opened s x ≡ b → count_by (claims_right.is_opened s) xs ≤ 1 → (1 ≤ count_by (claims_right.is_opened s) (x ∷ above) → count_by (claims_right.is_opened s) xs ≡ 0) → count_by (claims_right.is_opened s) (x ∷ xs) ≤ 1
    by_bool false e f g = let k = count_skip (claims_right.is_opened s) x xs e in omega (arith, k, f)
    by_bool true e f g =
        let a : count_by (claims_right.is_opened s) (x ∷ above) ≡ 1 + count_by (claims_right.is_opened s) above = count_cons (claims_right.is_opened s) x above ∙ ap (λ b. cond b 1 0 + count_by (claims_right.is_opened s) above) e in
        let z : count_by (claims_right.is_opened s) xs ≡ 0 = g (omega (arith, a)) in
        let c : count_by (claims_right.is_opened s) (x ∷ xs) ≡ 1 + count_by (claims_right.is_opened s) xs = count_cons (claims_right.is_opened s) x xs ∙ ap (λ b. cond b 1 0 + count_by (claims_right.is_opened s) xs) e in
        omega (arith, c, z)

-- the clients of a session among the items
abbrev pub clients_in : ℕ → List Item → List (ℕ × ℕ)
clients_in s xs = claims_heard.clients_of s (flat_map claims_heard.opened_by xs)

-- an item that opens no session of this number adds no client
no_client : (s : ℕ) (x : Item) (xs : List Item) → claims_right.is_opened s x ≡ false → clients_in s (x ∷ xs) ≡ clients_in s xs
no_client s (item.Opened t c) xs e = ap (λ b. cond b ((t, c) ∷ clients_in s xs) (clients_in s xs)) e
no_client s (item.Halted xa) xs e = refl
no_client s (item.Called xa xb xc) xs e = refl
no_client s (item.Event xa xb xc xd) xs e = refl
no_client s (item.Watched xa xb xc xd xe) xs e = refl
no_client s (item.Reply xa xb xc xd) xs e = refl
no_client s (item.Read xa xb xc xd xe xf) xs e = refl
no_client s (item.Ended xa xb xc) xs e = refl
no_client s (item.Doubt xa xb) xs e = refl
no_client s (item.Lost xa xb) xs e = refl
no_client s (item.Unsent xa xb) xs e = refl
no_client s (item.Unanswered xa xb) xs e = refl
no_client s (item.Listed xa) xs e = refl
no_client s (item.Pending xa xb xc xd) xs e = refl
no_client s (item.Skip xa) xs e = refl
no_client s (item.Leader xa xb) xs e = refl
no_client s (item.Commit xa) xs e = refl
no_client s (item.Reach xa xb xc xd xe) xs e = refl

none_opened : (s : ℕ) (xs : List Item) → count_by (claims_right.is_opened s) xs ≡ 0 → clients_in s xs ≡ []
none_opened s [] e = refl
none_opened s (x ∷ xs) e = by_bool (claims_right.is_opened s x) refl (none_opened s xs)
  where
    by_bool : (b : Bool) → claims_right.is_opened s x ≡ b → (count_by (claims_right.is_opened s) xs ≡ 0 → clients_in s xs ≡ []) → clients_in s (x ∷ xs) ≡ []
    by_bool true f g = let c : count_by (claims_right.is_opened s) (x ∷ xs) ≡ 1 + count_by (claims_right.is_opened s) xs = count_cons (claims_right.is_opened s) x xs ∙ ap (λ b. cond b 1 0 + count_by (claims_right.is_opened s) xs) f in absurd (omega (arith, c, e))
    by_bool false f g = no_client s x xs f ∙ g (sym (count_skip (claims_right.is_opened s) x xs f) ∙ e)

some_opened : (s c : ℕ) (xs : List Item) → transcripts.StandsIn (item.Opened s c) xs → 1 ≤ count_by (claims_right.is_opened s) xs
some_opened s c [] i = absurd i
some_opened s c (x ∷ xs) (inl e) =
    let t : claims_right.is_opened s x ≡ true = ap (claims_right.is_opened s) e ∙ (let r : nat_eq s s ≡ true = grind (arith, nat_tests) in r) in
    let k : count_by (claims_right.is_opened s) (x ∷ xs) ≡ 1 + count_by (claims_right.is_opened s) xs = count_cons (claims_right.is_opened s) x xs ∙ ap (λ b. cond b 1 0 + count_by (claims_right.is_opened s) xs) t in
    omega (arith, k)
some_opened s c (x ∷ xs) (inr i) = let k = count_cons (claims_right.is_opened s) x xs in let r = some_opened s c xs i in omega (arith, k, r)

one_client : (s c : ℕ) (xs : List Item) → transcripts.StandsIn (item.Opened s c) xs → count_by (claims_right.is_opened s) xs ≤ 1 → clients_in s xs ≡ (s, c) ∷ []
one_client s c [] i one = absurd i
one_client s c (x ∷ xs) (inl e) one =
    let r : nat_eq s s ≡ true = grind (arith, nat_tests) in
    let t : claims_right.is_opened s x ≡ true = ap (claims_right.is_opened s) e ∙ r in
    let k : count_by (claims_right.is_opened s) (x ∷ xs) ≡ 1 + count_by (claims_right.is_opened s) xs = count_cons (claims_right.is_opened s) x xs ∙ ap (λ b. cond b 1 0 + count_by (claims_right.is_opened s) xs) t in
    let z : clients_in s xs ≡ [] = none_opened s xs (omega (arith, k, one)) in
    ap (λ y. clients_in s (y ∷ xs)) e ∙ ap (λ b. cond b ((s, c) ∷ clients_in s xs) (clients_in s xs)) r ∙ ap (λ cs. (s, c) ∷ cs) z
one_client s c (x ∷ xs) (inr i) one = by_bool (claims_right.is_opened s x) refl (one_client s c xs i)
  where
    by_bool : (b : Bool) → claims_right.is_opened s x ≡ b → (count_by (claims_right.is_opened s) xs ≤ 1 → clients_in s xs ≡ (s, c) ∷ []) → clients_in s (x ∷ xs) ≡ (s, c) ∷ []
    by_bool true f g =
        let k : count_by (claims_right.is_opened s) (x ∷ xs) ≡ 1 + count_by (claims_right.is_opened s) xs = count_cons (claims_right.is_opened s) x xs ∙ ap (λ b. cond b 1 0 + count_by (claims_right.is_opened s) xs) f in
        let r = some_opened s c xs i in absurd (omega (arith, k, r, one))
    by_bool false f g = no_client s x xs f ∙ g (let k = count_skip (claims_right.is_opened s) x xs f in omega (arith, k, one))

-- the items in the other order, and without those of watches
stands_more : (x : Item) (xs ys : List Item) → transcripts.StandsIn x (xs ++ ys) → transcripts.StandsIn x xs ⊎ transcripts.StandsIn x ys
stands_more x [] ys i = inr i
stands_more x (y ∷ xs) ys (inl e) = inl (inl e)
stands_more x (y ∷ xs) ys (inr i) = elim (stands_more x xs ys i) [ inl j ↦ inl (inr j) | inr j ↦ inr j ]

stands_back : (x : Item) (xs : List Item) → transcripts.StandsIn x (reverse xs) → transcripts.StandsIn x xs
stands_back x [] i = i
stands_back x (y ∷ xs) i = by_part (stands_more x (reverse xs) (y ∷ []) (subst (transcripts.StandsIn x) (reverse-append (y ∷ []) xs) i)) (stands_back x xs)
  where
    by_part : transcripts.StandsIn x (reverse xs) ⊎ transcripts.StandsIn x (y ∷ []) → (transcripts.StandsIn x (reverse xs) → transcripts.StandsIn x xs) → transcripts.StandsIn x (y ∷ xs)
    by_part (inl j) f = inr (f j)
    by_part (inr (inl e)) f = inl e
    by_part (inr (inr j)) f = absurd j

stands_kept : (test : Item → Bool) (x : Item) (xs : List Item) → transcripts.StandsIn x (filter test xs) → transcripts.StandsIn x xs
stands_kept test x [] i = i
stands_kept test x (y ∷ xs) i = by_bool (test y) i (stands_kept test x xs)
  where
    by_bool : (b : Bool) → transcripts.StandsIn x (cond b (y ∷ filter test xs) (filter test xs)) → (transcripts.StandsIn x (filter test xs) → transcripts.StandsIn x xs) → transcripts.StandsIn x (y ∷ xs)
    by_bool true (inl e) f = inl e
    by_bool true (inr j) f = inr (f j)
    by_bool false j f = inr (f j)

-- of items that are right the clients of a session are the one whose opening stands among them
pub its_client : (h : histories.History) (s c : ℕ) (test : Item → Bool) (xs : List Item) → transcripts.EachItem (claims_right.IsRight h) xs → transcripts.StandsIn (item.Opened s c) (filter test (reverse xs)) → clients_in s xs ≡ (s, c) ∷ []
its_client h s c test xs r i = one_client s c xs (stands_back (item.Opened s c) xs (stands_kept test (item.Opened s c) (reverse xs) i)) (once_after h s [] xs r)
