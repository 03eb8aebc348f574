-- What is kept where a store failed: nothing of the step, its vote, its cut, or a beginning of its entries.
use Rattle.std.proofs.Common.{◌≡◌, ℕ, zero, suc, List, [], ◌∷◌, ◌++◌, length, take, refl, ap, sym, ◌∙◌, arith}
use Rattle.std.specs.Prelude.{true, ◌&&◌, nat_eq, Option, Some, None}
use Rattle.std.proofs.lemmas.List.{take_all}
use Rattle.ax_types.specs.declared.entries.Entry.{Entry}
use Rattle.ax_types.specs.declared.entries.Loaded.{Loaded}
use Rattle.spec_raft.specs.Log as logs
use Rattle.spec_node.specs.Node as nodes
use Rattle.spec_node.specs.NodeStep as steps
use Rattle.spec_node.specs.Saving as saving
use Rattle.law_refinement.proofs.Tests.{by_test, both, is_same}
use Rattle.law_refinement.proofs.Rules.{none_added}

-- a step's votes, cuts and entries, all saved
abbrev pub voted : Option (ℕ × Option ℕ) → Loaded → Loaded
voted None kept = kept
voted (Some v) kept = record kept { term = v.0; vote = v.1 }

abbrev pub shortened : Option ℕ → Loaded → Loaded
shortened None kept = kept
shortened (Some last) kept = record kept { log = take last kept.log }

abbrev pub lengthened : List Entry → ℕ → Loaded → Loaded
lengthened es k kept = record kept { log = kept.log ++ take k es }

-- what may be kept
pub data Remains (kept : Loaded) (vote : Option (ℕ × Option ℕ)) (cut : Option ℕ) (es : List Entry) (left : Loaded) : Type 0 where
  Nothing : left ≡ kept → Remains kept vote cut es left
  Voted : left ≡ voted vote kept → Remains kept vote cut es left
  Added : (k : ℕ) → left ≡ lengthened es k (shortened cut (voted vote kept)) → Remains kept vote cut es left

no_more : (kept : Loaded) (k : ℕ) → lengthened [] k kept ≡ kept
no_more kept k = ap (λ log. let l : Loaded = record kept { log = log } in l) (none_added kept.log k)

adds_remain : (kept : Loaded) (es : List Entry) (n added : ℕ) → (k : ℕ) × (saving.kept_after kept (saving.add_call es) n added ≡ lengthened es k kept)
adds_remain kept [] zero added = (added, refl)
adds_remain kept [] (suc n) added = (added, refl)
adds_remain kept (e ∷ es) zero added = (added, refl)
adds_remain kept (e ∷ es) (suc zero) added = (length (e ∷ es), no_more (saving.saved kept (saving.Add (e ∷ es))) added ∙ ap (λ xs. let l : Loaded = record kept { log = kept.log ++ xs } in l) (sym (take_all (length (e ∷ es)) (e ∷ es) (omega arith))))
adds_remain kept (e ∷ es) (suc (suc n)) added = (length (e ∷ es), no_more (saving.saved kept (saving.Add (e ∷ es))) added ∙ ap (λ xs. let l : Loaded = record kept { log = kept.log ++ xs } in l) (sym (take_all (length (e ∷ es)) (e ∷ es) (omega arith))))

cuts_remain : (kept : Loaded) (cut : Option ℕ) (es : List Entry) (n added : ℕ)
    → Remains kept None cut es (saving.kept_after kept (saving.cut_call cut ++ saving.add_call es) n added)
cuts_remain kept None es n added = let r = adds_remain kept es n added in Added r.0 r.1
cuts_remain kept (Some last) es zero added = Nothing (no_more kept added)
cuts_remain kept (Some last) es (suc n) added = let r = adds_remain (shortened (Some last) kept) es n added in Added r.0 r.1

votes_remain : (kept : Loaded) (vote : Option (ℕ × Option ℕ)) (cut : Option ℕ) (es : List Entry) (left : Loaded) → Remains (voted vote kept) None cut es left → Remains kept vote cut es left
votes_remain kept vote cut es left (Nothing e) = Voted e
votes_remain kept vote cut es left (Voted e) = Voted e
votes_remain kept vote cut es left (Added k e) = Added k e

pub remains : (kept : Loaded) (vote : Option (ℕ × Option ℕ)) (cut : Option ℕ) (es : List Entry) (n added : ℕ)
    → Remains kept vote cut es (saving.kept_after kept (saving.vote_call vote ++ (saving.cut_call cut ++ saving.add_call es)) n added)
remains kept None cut es n added = votes_remain kept None cut es (saving.kept_after kept (saving.cut_call cut ++ saving.add_call es) n added) (cuts_remain kept cut es n added)
remains kept (Some v) cut es zero added = Nothing (no_more kept added)
remains kept (Some v) cut es (suc n) added =
    votes_remain kept (Some v) cut es (saving.kept_after (voted (Some v) kept) (saving.cut_call cut ++ saving.add_call es) n added) (cuts_remain (voted (Some v) kept) cut es n added)

-- the vote that is saved is that of the node after the step
same_votes : (a b : Option ℕ) → steps.same_vote a b ≡ true → a ≡ b
same_votes None None e = refl
same_votes None (Some k) e = absurd (cc (e))
same_votes (Some j) None e = absurd (cc (e))
same_votes (Some j) (Some k) e = ap (λ i. Some i) (is_same j k e)

pub vote_kept : (n a : nodes.Node) → voted (steps.vote_save n a) (nodes.kept_of n) ≡ record { term = a.ballot.term; vote = a.ballot.vote; log = n.log }
vote_kept n a =
    by_test (λ v. voted v (nodes.kept_of n) ≡ record { term = a.ballot.term; vote = a.ballot.vote; log = n.log })
    (nat_eq n.ballot.term a.ballot.term && steps.same_vote n.ballot.vote a.ballot.vote) None (Some (a.ballot.term, a.ballot.vote))
    (λ e.
    let parts : (nat_eq n.ballot.term a.ballot.term ≡ true) × (steps.same_vote n.ballot.vote a.ballot.vote ≡ true) = both (nat_eq n.ballot.term a.ballot.term) (steps.same_vote n.ballot.vote a.ballot.vote) e in
    let terms : n.ballot.term ≡ a.ballot.term = is_same n.ballot.term a.ballot.term parts.0 in
    let votes : n.ballot.vote ≡ a.ballot.vote = same_votes n.ballot.vote a.ballot.vote parts.1 in
    (λ i. record { term = terms i; vote = votes i; log = n.log }))
    (λ e. refl)

pub cut_kept : (o : Option ℕ) (kept : Loaded) → shortened (steps.cut_save o) kept ≡ record kept { log = logs.cut_before kept.log o }
cut_kept None kept = refl
cut_kept (Some p) kept = refl
