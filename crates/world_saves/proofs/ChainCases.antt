-- What a store tells after the store calls of a step, from what it tells after each.
use Rattle.std.proofs.Common.{◌≡◌, ◌≤◌, ℕ, List, [], ◌∷◌, ◌++◌, length, take, true, Option, Some, None, Result, Ok, Err, refl, ap, sym, ◌∙◌, subst, arith}
use Rattle.std.specs.Prelude.{slice_get, nat_lt}
use Rattle.std.proofs.lemmas.List.{append-nil}
use Rattle.std.proofs.lemmas.Bool.Decides.{nat_tests}
use Rattle.std.proofs.Math.Seq.{take-nil}
use Rattle.ax_types.specs.declared.entries.Entry.{Entry}
use Rattle.ax_types.specs.declared.entries.Loaded.{Loaded}
use Rattle.ax_types.specs.declared.raft.Saves.{Saves}
use Rattle.spec_node.specs.Saving as saving
use Rattle.store_journal.specs.StoreTold as stores
use Rattle.world_saves.specs.SaveChain as chains
use Rattle.world_saves.specs.declared.save_chain.SaveCall.{SaveCall}
use Rattle.world_saves.specs.declared.save_chain.SaveCall.TheVariants as call
use Rattle.world_saves.specs.declared.save_chain.SaveError.{SaveError}
use Rattle.world_saves.specs.declared.save_chain.SaveError.TheVariants as save_error

all_then : (kept : Loaded) (some more : List saving.Save) → saving.all_saved kept (some ++ more) ≡ saving.all_saved (saving.all_saved kept some) more
all_then kept [] more = refl
all_then kept (c ∷ some) more = all_then (saving.saved kept c) some more

told_none : (t : stores.Told) → chains.told_after t [] ≡ t
told_none (stores.Content kept) = refl
told_none (stores.Bad at) = refl
told_none stores.Untold = refl

told_then : (t : stores.Told) (some more : List saving.Save) → chains.told_after t (some ++ more) ≡ chains.told_after (chains.told_after t some) more
told_then (stores.Content kept) some more = ap (λ k. stores.Content k) (all_then kept some more)
told_then (stores.Bad at) some more = refl
told_then stores.Untold some more = refl

-- a call that the step makes was made, or was none
after_call : (c : SaveCall) (calls : List saving.Save) (before now : stores.Told) → length calls ≤ 1 → chains.MakesCall c calls before now (Ok tt) → now ≡ chains.told_after before calls
after_call c [] before now h m = m ∙ sym (told_none before)
after_call c (call ∷ []) before now h m = m
after_call c (call ∷ x ∷ calls) before now h m = absurd (omega (arith, h))

one_vote : (v : Option (ℕ × Option ℕ)) → length (saving.vote_call v) ≤ 1
one_vote None = omega arith
one_vote (Some v) = omega arith

one_cut : (c : Option ℕ) → length (saving.cut_call c) ≤ 1
one_cut None = omega arith
one_cut (Some last) = omega arith

one_add : (es : List Entry) → length (saving.add_call es) ≤ 1
one_add [] = omega arith
one_add (e ∷ es) = omega arith

pub take_front : {X : Type 0} (xs ys : List X) → take (length xs) (xs ++ ys) ≡ xs
take_front [] [] = refl
take_front [] (y ∷ ys) = refl
take_front (x ∷ xs) ys = ap (λ zs. x ∷ zs) (take_front xs ys)

get_behind : {X : Type 0} (xs ys : List X) → slice_get (xs ++ ys) (length xs) ≡ slice_get ys 0
get_behind [] ys = refl
get_behind (x ∷ xs) ys = get_behind xs ys

take_whole : {X : Type 0} (xs : List X) → take (length xs) xs ≡ xs
take_whole [] = refl
take_whole (x ∷ xs) = ap (λ zs. x ∷ zs) (take_whole xs)

-- the first call of the rest failed
left_first : (first : List saving.Save) (call : saving.Save) (rest : List saving.Save) (t u v : stores.Told)
    → u ≡ chains.told_after t first → chains.IsLeftFrom (call ∷ []) 0 u v → chains.IsLeftFrom (first ++ call ∷ rest) (length first) t v
left_first first call rest t u v e l = record {
  added = l.added;
  within = subst (λ o. l.added ≤ length (saving.at_stake o)) (sym (get_behind first (call ∷ rest))) l.within;
  same = l.same
      ∙ ap (λ x. chains.told_with x (saving.at_stake (Some call)) l.added) (told_none u ∙ e ∙ ap (λ cs. chains.told_after t cs) (sym (take_front first (call ∷ rest))))
      ∙ ap (λ o. chains.told_with (chains.told_after t (take (length first) (first ++ call ∷ rest))) (saving.at_stake o) l.added) (sym (get_behind first (call ∷ rest)));
}

part_first : (first rest : List saving.Save) (t v : stores.Told) → v ≡ chains.told_after t first → chains.IsSomeOf (first ++ rest) t v
part_first first rest t v e = record { made = length first; same = e ∙ ap (λ cs. chains.told_after t cs) (sym (take_front first rest)) }

at_call : (s : Saves) (c d : SaveCall) (before now : stores.Told) → d ≡ c → chains.FailsAt s c before now → chains.FailsAt s d before now
at_call s c d before now e f = subst (λ x. chains.FailsAt s x before now) (sym e) f

-- the vote failed
pub vote_failed : (s : Saves) (t u : stores.Told) (e : SaveError) → chains.MakesCall call.Vote (saving.vote_call s.vote) t u (Err e) → chains.SavesAll s t u (Err e)
vote_failed s t u e m = by_vote s.vote s.cut s.add e m
  where
    by_vote : (v : Option (ℕ × Option ℕ)) (c : Option ℕ) (es : List Entry) (e : SaveError) → chains.MakesCall call.Vote (saving.vote_call v) t u (Err e)
        → chains.SavesAll (record { vote = v; cut = c; add = es }) t u (Err e)
    by_vote None c es e m = absurd m
    by_vote (Some v) c es (save_error.Failed d) m =
        at_call (record { vote = Some v; cut = c; add = es }) call.Vote d t u m.0 (record { made = refl; left = left_first [] (saving.Vote v.0 v.1) (saving.cut_call c ++ saving.add_call es) t t u (sym (told_none t)) m.1 })
    by_vote (Some v) c es save_error.NoMemory m = part_first [] (saving.Vote v.0 v.1 ∷ (saving.cut_call c ++ saving.add_call es)) t u (m ∙ sym (told_none t))

-- the vote was kept where it changed, and the cut failed
pub cut_failed : (s : Saves) (t u v : stores.Told) (e : SaveError) → chains.MakesCall call.Vote (saving.vote_call s.vote) t u (Ok tt) → chains.MakesCall call.Cut (saving.cut_call s.cut) u v (Err e) → chains.SavesAll s t v (Err e)
cut_failed s t u v e first m = by_cut s.vote s.cut s.add e (after_call call.Vote (saving.vote_call s.vote) t u (one_vote s.vote) first) m
  where
    by_cut : (w : Option (ℕ × Option ℕ)) (c : Option ℕ) (es : List Entry) (e : SaveError) → u ≡ chains.told_after t (saving.vote_call w) → chains.MakesCall call.Cut (saving.cut_call c) u v (Err e)
        → chains.SavesAll (record { vote = w; cut = c; add = es }) t v (Err e)
    by_cut w None es e f m = absurd m
    by_cut w (Some last) es (save_error.Failed d) f m =
        at_call (record { vote = w; cut = Some last; add = es }) call.Cut d t v m.0 (record { made = refl; left = left_first (saving.vote_call w) (saving.Cut last) (saving.add_call es) t u v f m.1 })
    by_cut w (Some last) es save_error.NoMemory f m = part_first (saving.vote_call w) (saving.Cut last ∷ saving.add_call es) t v (m ∙ f)

-- vote and cut were kept, and the entries were kept or not
pub add_ended : (s : Saves) (t u v x : stores.Told) (r : Result (Unit {0}) SaveError) → chains.MakesCall call.Vote (saving.vote_call s.vote) t u (Ok tt) → chains.MakesCall call.Cut (saving.cut_call s.cut) u v (Ok tt)
    → chains.MakesCall call.Add (saving.add_call s.add) v x r → chains.SavesAll s t x r
add_ended s t u v x r first second m =
    by_add s.vote s.cut s.add r
    (after_call call.Cut (saving.cut_call s.cut) u v (one_cut s.cut) second ∙ ap (λ y. chains.told_after y (saving.cut_call s.cut)) (after_call call.Vote (saving.vote_call s.vote) t u (one_vote s.vote) first)
    ∙ sym (told_then t (saving.vote_call s.vote) (saving.cut_call s.cut))) m
  where
    grouped : (w : Option (ℕ × Option ℕ)) (c : Option ℕ) (es : List Entry) → (saving.vote_call w ++ saving.cut_call c) ++ saving.add_call es ≡ saving.vote_call w ++ (saving.cut_call c ++ saving.add_call es)
    grouped None c es = refl
    grouped (Some w) c es = refl

    by_add : (w : Option (ℕ × Option ℕ)) (c : Option ℕ) (es : List Entry) (r : Result (Unit {0}) SaveError) → v ≡ chains.told_after t (saving.vote_call w ++ saving.cut_call c)
        → chains.MakesCall call.Add (saving.add_call es) v x r → chains.SavesAll (record { vote = w; cut = c; add = es }) t x r
    by_add w c es (Ok o) f m =
        after_call call.Add (saving.add_call es) v x (one_add es) m ∙ ap (λ y. chains.told_after y (saving.add_call es)) f ∙ sym (told_then t (saving.vote_call w ++ saving.cut_call c) (saving.add_call es))
        ∙ ap (λ cs. chains.told_after t cs) (grouped w c es)
    by_add w c [] (Err e) f m = absurd m
    by_add w c (y ∷ es) (Err (save_error.Failed d)) f m =
        at_call (record { vote = w; cut = c; add = y ∷ es }) call.Add d t x m.0 (record {
          made = refl;
          left = subst (λ cs. chains.IsLeftFrom cs (length (saving.vote_call w ++ saving.cut_call c)) t x) (grouped w c (y ∷ es)) (left_first (saving.vote_call w ++ saving.cut_call c) (saving.Add (y ∷ es)) [] t v x f m.1);
        })
    by_add w c (y ∷ es) (Err save_error.NoMemory) f m =
        subst (λ cs. chains.IsSomeOf cs t x) (grouped w c (y ∷ es)) (part_first (saving.vote_call w ++ saving.cut_call c) (saving.Add (y ∷ es) ∷ []) t x (m ∙ f))

-- the same, of the entries as a slice
pub slice_ended : (s : Saves) (es : List Entry) (t u v x : stores.Told) (r : Result (Unit {0}) SaveError) → es ≡ s.add → chains.MakesCall call.Vote (saving.vote_call s.vote) t u (Ok tt) → chains.MakesCall call.Cut (saving.cut_call s.cut) u v (Ok tt)
    → chains.MakesCall call.Add (saving.add_call es) v x r → chains.SavesAll s t x r
slice_ended s es t u v x r e first second m = add_ended s t u v x r first second (subst (λ ys. chains.MakesCall call.Add (saving.add_call ys) v x r) e m)

-- a call that the step makes is one of its calls
pub made_below : (c : SaveCall) (s : Saves) → chains.has_call c s ≡ true → nat_lt (chains.saves_before c s) (length (saving.calls_of s)) ≡ true
made_below c s e = by_call c s.vote s.cut s.add e
  where
    by_call : (c : SaveCall) (v : Option (ℕ × Option ℕ)) (o : Option ℕ) (es : List Entry) → chains.has_call c (record { vote = v; cut = o; add = es }) ≡ true
        → nat_lt (chains.saves_before c (record { vote = v; cut = o; add = es })) (length (saving.vote_call v ++ (saving.cut_call o ++ saving.add_call es))) ≡ true
    by_call call.Vote None o es e = cc
    by_call call.Vote (Some v) o es e = grind (arith, nat_tests)
    by_call call.Cut v None es e = cc
    by_call call.Cut None (Some last) es e = grind (arith, nat_tests)
    by_call call.Cut (Some v) (Some last) es e = grind (arith, nat_tests)
    by_call call.Add v o [] e = cc
    by_call call.Add None None (x ∷ es) e = grind (arith, nat_tests)
    by_call call.Add None (Some last) (x ∷ es) e = grind (arith, nat_tests)
    by_call call.Add (Some v) None (x ∷ es) e = grind (arith, nat_tests)
    by_call call.Add (Some v) (Some last) (x ∷ es) e = grind (arith, nat_tests)

pub with_nothing : (kept : Loaded) (added : ℕ) → saving.with_rest kept [] added ≡ kept
with_nothing kept added = ap (λ es. let k : Loaded = record kept { log = kept.log ++ es } in k) (take-nil added) ∙ ap (λ es. let k : Loaded = record kept { log = es } in k) (append-nil kept.log)

told_with_nothing : (t : stores.Told) (added : ℕ) → chains.told_with t [] added ≡ t
told_with_nothing (stores.Content kept) added = ap (λ k. stores.Content k) (with_nothing kept added)
told_with_nothing (stores.Bad at) added = refl
told_with_nothing stores.Untold added = refl

-- where a vote or a cut failed the store is as after the calls before it
pub part_failed : (s : Saves) (c : SaveCall) (before now : stores.Told) → chains.FailsAt s c before now → chains.leaves_nothing c ≡ true → chains.IsSomeOf (saving.calls_of s) before now
part_failed s c before now f e = record {
  made = chains.saves_before c s;
  same = f.left.same
      ∙ ap (λ es. chains.told_with (chains.told_after before (take (chains.saves_before c s) (saving.calls_of s))) es f.left.added) (nothing c s.vote s.cut s.add f.made e)
      ∙ told_with_nothing (chains.told_after before (take (chains.saves_before c s) (saving.calls_of s))) f.left.added;
}
  where
    nothing : (c : SaveCall) (v : Option (ℕ × Option ℕ)) (o : Option ℕ) (es : List Entry) → chains.has_call c (record { vote = v; cut = o; add = es }) ≡ true → chains.leaves_nothing c ≡ true
        → saving.at_stake (slice_get (saving.vote_call v ++ (saving.cut_call o ++ saving.add_call es)) (chains.saves_before c (record { vote = v; cut = o; add = es }))) ≡ []
    nothing call.Vote None o es h e = cc
    nothing call.Vote (Some v) o es h e = refl
    nothing call.Cut v None es h e = cc
    nothing call.Cut None (Some last) es h e = refl
    nothing call.Cut (Some v) (Some last) es h e = refl
    nothing call.Add v o es h e = cc

-- no call was made
pub part_none : (calls : List saving.Save) (t : stores.Told) → chains.IsSomeOf calls t t
part_none calls t = record { made = 0; same = sym (ap (λ cs. chains.told_after t cs) (none calls) ∙ told_none t) }
  where
    none : (cs : List saving.Save) → take 0 cs ≡ []
    none [] = refl
    none (c ∷ cs) = refl
