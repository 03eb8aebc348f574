-- The ends of a session: what stands directly below them.
use Rattle.std.proofs.Common.{◌≡◌, ℕ, suc, ◌-◌, Bool, true, false, nat_eq, nat_lt, List, [], ◌∷◌, ◌++◌, refl, sym, ap, ◌∙◌, subst, arith, length, map, reverse, append_assoc}
use Rattle.std.proofs.lemmas.List.{reverse-append}
use Rattle.ax_types.specs.declared.ops.WindowCall.{WindowCall}
use Rattle.ax_types.specs.declared.ops.WindowCall.TheVariants as call
use Rattle.ax_types.specs.declared.replies.How.TheVariants as how
use Rattle.ax_types.specs.declared.items.Item.{Item}
use Rattle.ax_types.specs.declared.items.Item.TheVariants as item
use Rattle.spec_claims.specs.Transcript as transcripts
use Rattle.spec_claims.specs.OutcomeOrder as outcome_order
use Rattle.spec_audit.specs.SessionConditions as session_conditions
use Rattle.law_audit.proofs.Tests.{both, nat_same, equal, is_below, same_number, where_same}

-- what becomes of open calls is what the test looks for
doubted : (s : ℕ) (c : ℕ × WindowCall) → session_conditions.is_doubted s c (outcome_order.doubted s c) ≡ true
doubted s (n, call.Command name op) = both _ _ (both _ _ (nat_same s) (nat_same n)) refl
doubted s (n, call.Query level name query) = both _ _ (both _ _ (nat_same s) (nat_same n)) refl

are_doubted : (s : ℕ) (cs : List (ℕ × WindowCall)) (rest : List Item) → session_conditions.are_doubted s cs (map (outcome_order.doubted s) cs ++ rest) ≡ true
are_doubted s [] rest = refl
are_doubted s (c ∷ cs) rest = both _ _ (doubted s c) (are_doubted s cs rest)

-- items in front of others, and the items above those
moved : (s : ℕ) (x : Item) (above xs rest : List Item) → session_conditions.are_ends s 0 (reverse (x ∷ xs) ++ above) rest ≡ true
    → session_conditions.are_ends s 0 (reverse xs ++ x ∷ above) rest ≡ true
moved s x above xs rest e =
    subst (λ up. session_conditions.are_ends s 0 up rest ≡ true) (ap (λ ys. ys ++ above) (reverse-append (x ∷ []) xs) ∙ append_assoc (reverse xs) (x ∷ []) above) e

-- the open calls of the session that has expired, one after the other
positive : (n : ℕ) → nat_lt 0 (suc n) ≡ true
positive n = is_below 0 (suc n) (omega arith)

one_less : (n : ℕ) → suc n - 1 ≡ n
one_less n = omega arith

own : (s : ℕ) (cs : List (ℕ × WindowCall)) (above rest : List Item) → session_conditions.are_ends s 0 (reverse (map (outcome_order.doubted s) cs) ++ above) rest ≡ true
    → session_conditions.are_ends s (length cs) above (map (outcome_order.doubted s) cs ++ rest) ≡ true
own s [] above rest e = e
own s ((n, call.Command name op) ∷ cs) above rest e =
    rw (nat_same s) (both _ _ (positive (length cs)) (rw (one_less (length cs)) (own s cs (item.Doubt s n ∷ above) rest (moved s (item.Doubt s n) above (map (outcome_order.doubted s) cs) rest e))))
own s ((n, call.Query level name query) ∷ cs) above rest e =
    rw (nat_same s) (both _ _ (positive (length cs)) (rw (one_less (length cs)) (own s cs (item.Lost s n ∷ above) rest (moved s (item.Lost s n) above (map (outcome_order.doubted s) cs) rest e))))

-- those of another session
other : (s t : ℕ) (cs : List (ℕ × WindowCall)) (above rest : List Item) → nat_eq s t ≡ false
    → session_conditions.are_ends s 0 (reverse (map (outcome_order.doubted t) cs) ++ above) rest ≡ true
    → session_conditions.are_ends s 0 above (map (outcome_order.doubted t) cs ++ rest) ≡ true
other s t [] above rest d e = e
other s t ((n, call.Command name op) ∷ cs) above rest d e =
    rw d (other s t cs (item.Doubt t n ∷ above) rest d (moved s (item.Doubt t n) above (map (outcome_order.doubted t) cs) rest e))
other s t ((n, call.Query level name query) ∷ cs) above rest d e =
    rw d (other s t cs (item.Lost t n ∷ above) rest d (moved s (item.Lost t n) above (map (outcome_order.doubted t) cs) rest e))

-- at an end of this session or of another
closed : (s t p : ℕ) (above xs rest : List Item) → transcripts.unanswered t (reverse above) ≡ []
    → session_conditions.are_ends s 0 (item.Ended t p how.Closed ∷ above) (xs ++ rest) ≡ true
    → session_conditions.are_ends s 0 above (item.Ended t p how.Closed ∷ xs ++ rest) ≡ true
closed s t p above xs rest k later =
    both _ _ (where_same s t _ (λ e. same_number _ 0 (subst (λ u. length (session_conditions.open_calls u above) ≡ 0) (sym e) (ap length k)))) later

abbrev IsTested : ℕ → ℕ → ℕ → List Item → List Item → List Item → Type 0
IsTested s t p above xs rest = xs ≡ map (outcome_order.doubted t) (transcripts.unanswered t (reverse above))
    → session_conditions.are_ends s 0 (reverse xs ++ item.Ended t p how.Expired ∷ above) rest ≡ true
    → session_conditions.are_ends s 0 above (item.Ended t p how.Expired ∷ xs ++ rest) ≡ true

expired_own : (s p : ℕ) (above xs rest : List Item) → IsTested s s p above xs rest
expired_own s p above xs rest k later =
    let up : List Item = item.Ended s p how.Expired ∷ above in
    let cs : List (ℕ × WindowCall) = session_conditions.open_calls s above in
    rw (nat_same s)
    (both _ _ (subst (λ ys. session_conditions.are_doubted s cs (ys ++ rest) ≡ true) (sym k) (are_doubted s cs rest))
    (subst (λ ys. session_conditions.are_ends s (length cs) up (ys ++ rest) ≡ true) (sym k)
    (own s cs up rest (subst (λ ys. session_conditions.are_ends s 0 (reverse ys ++ up) rest ≡ true) k later))))

expired_other : (s t p : ℕ) (above xs rest : List Item) → nat_eq s t ≡ false → IsTested s t p above xs rest
expired_other s t p above xs rest d k later =
    let up : List Item = item.Ended t p how.Expired ∷ above in
    let cs : List (ℕ × WindowCall) = transcripts.unanswered t (reverse above) in
    rw d
    (subst (λ ys. session_conditions.are_ends s 0 up (ys ++ rest) ≡ true) (sym k)
    (other s t cs up rest d (subst (λ ys. session_conditions.are_ends s 0 (reverse ys ++ up) rest ≡ true) k later)))

expired : (s t p : ℕ) (above xs rest : List Item) → IsTested s t p above xs rest
expired s t p above xs rest = at (nat_eq s t) refl
  where
    at : (b : Bool) → nat_eq s t ≡ b → IsTested s t p above xs rest
    at true e = subst (λ u. IsTested s u p above xs rest) (equal s t e) (expired_own s p above xs rest)
    at false e = expired_other s t p above xs rest e

-- one step in front of the rest
end_step : (s : ℕ) (above xs rest : List Item) → outcome_order.EndsStep above xs → session_conditions.are_ends s 0 (reverse xs ++ above) rest ≡ true
    → session_conditions.are_ends s 0 above (xs ++ rest) ≡ true
end_step s above [] rest k later = later
end_step s above (item.Ended t p how.Expired ∷ xs) rest k later = expired s t p above xs rest k (moved s (item.Ended t p how.Expired) above xs rest later)
end_step s above (item.Ended t p how.Closed ∷ xs) rest k later =
    closed s t p above xs rest k.0 (end_step s (item.Ended t p how.Closed ∷ above) xs rest k.1 (moved s (item.Ended t p how.Closed) above xs rest later))
end_step s above (item.Doubt t m ∷ xs) rest k later = absurd k
end_step s above (item.Lost t m ∷ xs) rest k later = absurd k
end_step s above (item.Leader j u ∷ xs) rest k later = end_step s (item.Leader j u ∷ above) xs rest k (moved s (item.Leader j u) above xs rest later)
end_step s above (item.Commit p ∷ xs) rest k later = end_step s (item.Commit p ∷ above) xs rest k (moved s (item.Commit p) above xs rest later)
end_step s above (item.Reach j u a r m ∷ xs) rest k later = end_step s (item.Reach j u a r m ∷ above) xs rest k (moved s (item.Reach j u a r m) above xs rest later)
end_step s above (item.Halted j ∷ xs) rest k later = end_step s (item.Halted j ∷ above) xs rest k (moved s (item.Halted j) above xs rest later)
end_step s above (item.Opened r c ∷ xs) rest k later = end_step s (item.Opened r c ∷ above) xs rest k (moved s (item.Opened r c) above xs rest later)
end_step s above (item.Called t m c ∷ xs) rest k later = end_step s (item.Called t m c ∷ above) xs rest k (moved s (item.Called t m c) above xs rest later)
end_step s above (item.Event t p prev es ∷ xs) rest k later = end_step s (item.Event t p prev es ∷ above) xs rest k (moved s (item.Event t p prev es) above xs rest later)
end_step s above (item.Watched c kind r p e ∷ xs) rest k later = end_step s (item.Watched c kind r p e ∷ above) xs rest k (moved s (item.Watched c kind r p e) above xs rest later)
end_step s above (item.Reply t m p r ∷ xs) rest k later = end_step s (item.Reply t m p r ∷ above) xs rest k (moved s (item.Reply t m p r) above xs rest later)
end_step s above (item.Read t m l p reach r ∷ xs) rest k later = end_step s (item.Read t m l p reach r ∷ above) xs rest k (moved s (item.Read t m l p reach r) above xs rest later)
end_step s above (item.Unsent t m ∷ xs) rest k later = end_step s (item.Unsent t m ∷ above) xs rest k (moved s (item.Unsent t m) above xs rest later)
end_step s above (item.Unanswered t m ∷ xs) rest k later = end_step s (item.Unanswered t m ∷ above) xs rest k (moved s (item.Unanswered t m) above xs rest later)
end_step s above (item.Listed count ∷ xs) rest k later = end_step s (item.Listed count ∷ above) xs rest k (moved s (item.Listed count) above xs rest later)
end_step s above (item.Pending m from to kind ∷ xs) rest k later = end_step s (item.Pending m from to kind ∷ above) xs rest k (moved s (item.Pending m from to kind) above xs rest later)
end_step s above (item.Skip reason ∷ xs) rest k later = end_step s (item.Skip reason ∷ above) xs rest k (moved s (item.Skip reason) above xs rest later)

pub ends : (s : ℕ) (above : List Item) (shown : List transcripts.Shown) → outcome_order.EndsFrom above shown
    → session_conditions.are_ends s 0 above (transcripts.transcript shown) ≡ true
ends s above [] k = refl
ends s above (m ∷ shown) k = end_step s above m.items (transcripts.transcript shown) k.0 (ends s (reverse m.items ++ above) shown k.1)
