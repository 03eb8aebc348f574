-- What was kept before a store call of a step, from what its node keeps after the step.
use Rattle.std.proofs.Common.{◌≡◌, ◌-◌, ℕ, zero, suc, ◌+◌, List, [], ◌∷◌, ◌++◌, length, take, drop, true, Option, Some, None, refl, ap, sym, ◌∙◌, subst, arith}
use Rattle.std.proofs.lemmas.List.{append-nil, length-append}
use Rattle.ax_types.specs.declared.entries.Entry.{Entry}
use Rattle.ax_types.specs.declared.entries.Loaded.{Loaded}
use Rattle.ax_types.specs.declared.raft.Saves.{Saves}
use Rattle.spec_node.specs.Saving as saving
use Rattle.world_saves.specs.SaveChain as chains
use Rattle.world_saves.specs.Replacing as replacing
use Rattle.world_saves.specs.declared.replaced.Replaced.{Replaced}
use Rattle.world_saves.specs.declared.save_chain.SaveCall.{SaveCall}
use Rattle.world_saves.specs.declared.save_chain.SaveCall.TheVariants as call
use Rattle.world_saves.proofs.ChainCases.{take_front}

-- the log after the cut of a step
abbrev pub cut_log : Option ℕ → List Entry → List Entry
cut_log None log = log
cut_log (Some last) log = take last log

abbrev pub voted : Option (ℕ × Option ℕ) → Loaded → Loaded
voted None kept = kept
voted (Some v) kept = record kept { term = v.0; vote = v.1 }

-- what is kept after all of it
pub all_is : (v : Option (ℕ × Option ℕ)) (c : Option ℕ) (es : List Entry) (kept : Loaded) → saving.all_saved kept (saving.vote_call v ++ (saving.cut_call c ++ saving.add_call es)) ≡ record (voted v kept) { log = cut_log c kept.log ++ es }
all_is None None [] kept = ap (λ l. record kept { log = l }) (sym (append-nil kept.log))
all_is None None (e ∷ es) kept = refl
all_is None (Some last) [] kept = ap (λ l. record kept { log = l }) (sym (append-nil (take last kept.log)))
all_is None (Some last) (e ∷ es) kept = refl
all_is (Some v) None [] kept = ap (λ l. record (voted (Some v) kept) { log = l }) (sym (append-nil kept.log))
all_is (Some v) None (e ∷ es) kept = refl
all_is (Some v) (Some last) [] kept = ap (λ l. record (voted (Some v) kept) { log = l }) (sym (append-nil (take last kept.log)))
all_is (Some v) (Some last) (e ∷ es) kept = refl

-- what is kept before each call
none_made : (cs : List saving.Save) (k : Loaded) → saving.all_saved k (take 0 cs) ≡ k
none_made [] k = refl
none_made (c ∷ cs) k = refl

before_vote : (s : Saves) (kept : Loaded) → saving.kept_at_failure kept (saving.calls_of s) 0 ≡ kept
before_vote s kept = none_made (saving.calls_of s) kept

before_cut : (v : Option (ℕ × Option ℕ)) (rest : List saving.Save) (kept : Loaded) → saving.kept_at_failure kept (saving.vote_call v ++ rest) (length (saving.vote_call v)) ≡ voted v kept
before_cut None rest kept = none_made rest kept
before_cut (Some v) rest kept = none_made rest (voted (Some v) kept)

before_add : (v : Option (ℕ × Option ℕ)) (c : Option ℕ) (es : List Entry) (kept : Loaded)
    → saving.kept_at_failure kept (saving.vote_call v ++ (saving.cut_call c ++ saving.add_call es)) (length (saving.vote_call v ++ saving.cut_call c)) ≡ record (voted v kept) { log = cut_log c kept.log }
before_add None None es kept = none_made (saving.add_call es) kept
before_add None (Some last) es kept = none_made (saving.add_call es) (record kept { log = take last kept.log })
before_add (Some v) None es kept = none_made (saving.add_call es) (voted (Some v) kept)
before_add (Some v) (Some last) es kept = none_made (saving.add_call es) (record (voted (Some v) kept) { log = take last kept.log })

-- the log without what was added, and with what was cut off
take_less : (xs ys : List Entry) (n : ℕ) → n ≡ length (xs ++ ys) - length ys → take n (xs ++ ys) ≡ xs
take_less xs ys n e = ap (λ k. take k (xs ++ ys)) (e ∙ counted xs ys) ∙ take_front xs ys
  where
    counted : (xs ys : List Entry) → length (xs ++ ys) - length ys ≡ length xs
    counted xs ys = omega (arith, length-append xs ys)

joined : (n : ℕ) (xs : List Entry) → take n xs ++ drop n xs ≡ xs
joined zero [] = refl
joined zero (x ∷ xs) = refl
joined (suc n) [] = refl
joined (suc n) (x ∷ xs) = ap (λ ys. x ∷ ys) (joined n xs)

restored : (c : Option ℕ) (log es : List Entry) → replacing.AreCutOff c log es → cut_log c log ++ replacing.if_cut c es ≡ log
restored None log es a = append-nil log
restored (Some last) log es a = ap (λ ys. take last log ++ ys) a ∙ joined last log

-- of the node after the step: its log without the entries that were added
abbrev pub staying : Loaded → Saves → List Entry
staying after s = take (length after.log - length s.add) after.log

stays : (kept : Loaded) (s : Saves) (after : Loaded) → after ≡ saving.all_saved kept (saving.calls_of s) → staying after s ≡ cut_log s.cut kept.log
stays kept s after e =
    let a : after ≡ record (voted s.vote kept) { log = cut_log s.cut kept.log ++ s.add } = e ∙ all_is s.vote s.cut s.add kept in
    ap (λ (k : Loaded). take (length k.log - length s.add) k.log) a ∙ take_less (cut_log s.cut kept.log) s.add (length (cut_log s.cut kept.log ++ s.add) - length s.add) refl

ballot_is : (kept : Loaded) (s : Saves) (after : Loaded) (log : List Entry) → after ≡ saving.all_saved kept (saving.calls_of s) → record after { log = log } ≡ record (voted s.vote kept) { log = log }
ballot_is kept s after log e = ap (λ (k : Loaded). let l : Loaded = record k { log = log } in l) (e ∙ all_is s.vote s.cut s.add kept)

pub vote_is_kept_before : (kept : Loaded) (s : Saves) (r : Replaced) (after : Loaded) → replacing.LeadsTo kept s r after
    → record { term = r.term; vote = r.vote; log = staying after s ++ replacing.if_cut s.cut r.cut_off } ≡ saving.kept_at_failure kept (saving.calls_of s) (chains.saves_before call.Vote s)
vote_is_kept_before kept s r after l =
    (λ i. record { term = l.replaced.term i; vote = l.replaced.vote i; log = (ap (λ ys. ys ++ replacing.if_cut s.cut r.cut_off) (stays kept s after l.all) ∙ restored s.cut kept.log r.cut_off l.replaced.cut_off) i })
    ∙ sym (before_vote s kept)

pub cut_is_kept_before : (kept : Loaded) (s : Saves) (r : Replaced) (after : Loaded) → replacing.LeadsTo kept s r after
    → record after { log = staying after s ++ replacing.if_cut s.cut r.cut_off } ≡ saving.kept_at_failure kept (saving.calls_of s) (chains.saves_before call.Cut s)
cut_is_kept_before kept s r after l =
    ap (λ log. let k : Loaded = record after { log = log } in k) (ap (λ ys. ys ++ replacing.if_cut s.cut r.cut_off) (stays kept s after l.all) ∙ restored s.cut kept.log r.cut_off l.replaced.cut_off)
    ∙ ballot_is kept s after kept.log l.all
    ∙ same_log s.vote
    ∙ sym (before_cut s.vote (saving.cut_call s.cut ++ saving.add_call s.add) kept)
  where
    same_log : (v : Option (ℕ × Option ℕ)) → record (voted v kept) { log = kept.log } ≡ voted v kept
    same_log None = refl
    same_log (Some v) = refl

pub add_is_kept_before : (kept : Loaded) (s : Saves) (r : Replaced) (after : Loaded) → replacing.LeadsTo kept s r after
    → record after { log = staying after s } ≡ saving.kept_at_failure kept (saving.calls_of s) (chains.saves_before call.Add s)
add_is_kept_before kept s r after l =
    ap (λ log. let k : Loaded = record after { log = log } in k) (stays kept s after l.all)
    ∙ ballot_is kept s after (cut_log s.cut kept.log) l.all
    ∙ sym (before_add s.vote s.cut s.add kept)
