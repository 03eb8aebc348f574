-- What a store kept where one of the calls of a step failed, call by call.
use Rattle.std.proofs.Common.{◌≡◌, ◌≢◌, ℕ, zero, suc, ◌+◌, ◌-◌, List, [], ◌∷◌, ◌++◌, length, take, refl, ap, sym, ◌∙◌, arith}
use Rattle.std.specs.Prelude.{Bool, true, false, Option, Some, None, slice_get, if◌then◌else◌}
use Rattle.ax_types.specs.declared.entries.Entry.{Entry}
use Rattle.ax_types.specs.declared.entries.Loaded.{Loaded}
use Rattle.ax_types.specs.declared.raft.Saves.{Saves}
use Rattle.spec_node.specs.Saving as saving

take_none : {X : Type 0} (n : ℕ) → take n (let xs : List X = [] in xs) ≡ []
take_none zero = refl
take_none (suc n) = refl

take_length : {X : Type 0} (xs : List X) → take (length xs) xs ≡ xs
take_length [] = refl
take_length (x ∷ xs) = ap (λ ys. x ∷ ys) (take_length xs)

append_none : {X : Type 0} (xs : List X) → xs ++ [] ≡ xs
append_none [] = refl
append_none (x ∷ xs) = ap (λ ys. x ∷ ys) (append_none xs)

with_none : (kept : Loaded) (added : ℕ) → saving.with_rest kept [] added ≡ kept
with_none kept added = ap (λ es. record kept { log = kept.log ++ es }) (take_none added) ∙ ap (λ es. record kept { log = es }) (append_none kept.log)

-- the first call failed, and nothing is at stake in it
pub vote_failed : (kept : Loaded) (v : ℕ × Option ℕ) (calls : List saving.Save) (saved added : ℕ) → saved ≡ 0 → kept ≡ saving.kept_after kept (saving.vote_call (Some v) ++ calls) saved added
vote_failed kept v calls saved added e = sym (ap (λ n. saving.kept_after kept (saving.vote_call (Some v) ++ calls) n added) e ∙ with_none kept added)

pub cut_failed : (kept : Loaded) (last : ℕ) (calls : List saving.Save) (saved added : ℕ) → saved ≡ 0 → kept ≡ saving.kept_after kept (saving.cut_call (Some last) ++ calls) saved added
cut_failed kept last calls saved added e = sym (ap (λ n. saving.kept_after kept (saving.cut_call (Some last) ++ calls) n added) e ∙ with_none kept added)

-- the first call was made
one_more : (n : ℕ) → n ≢ 0 → n ≡ suc (n - 1)
one_more zero ne = absurd (ne refl)
one_more (suc n) ne = omega arith

pub vote_made : (kept : Loaded) (v : ℕ × Option ℕ) (calls : List saving.Save) (saved added : ℕ) → saved ≢ 0
    → saving.kept_after (saving.saved kept (saving.Vote v.0 v.1)) calls (saved - 1) added ≡ saving.kept_after kept (saving.vote_call (Some v) ++ calls) saved added
vote_made kept v calls saved added ne = sym (ap (λ n. saving.kept_after kept (saving.vote_call (Some v) ++ calls) n added) (one_more saved ne))

pub cut_made : (kept : Loaded) (last : ℕ) (calls : List saving.Save) (saved added : ℕ) → saved ≢ 0
    → saving.kept_after (saving.saved kept (saving.Cut last)) calls (saved - 1) added ≡ saving.kept_after kept (saving.cut_call (Some last) ++ calls) saved added
cut_made kept last calls saved added ne = sym (ap (λ n. saving.kept_after kept (saving.cut_call (Some last) ++ calls) n added) (one_more saved ne))

-- the last call failed, or was made
nothing_added : (kept : Loaded) (n added : ℕ) → saving.kept_after kept [] n added ≡ kept
nothing_added kept zero added = with_none kept added
nothing_added kept (suc n) added = with_none kept added

pub add_failed : (kept : Loaded) (es : List Entry) (saved added : ℕ) → saved ≡ 0 → saving.with_rest kept es added ≡ saving.kept_after kept (saving.add_call es) saved added
add_failed kept [] saved added e = with_none kept added ∙ sym (nothing_added kept saved added)
add_failed kept (x ∷ es) saved added e = sym (ap (λ n. saving.kept_after kept (saving.add_call (x ∷ es)) n added) e)

pub add_made : (kept : Loaded) (es : List Entry) (saved added : ℕ) → saved ≢ 0 → saving.with_rest kept es (length es) ≡ saving.kept_after kept (saving.add_call es) saved added
add_made kept [] saved added ne = with_none kept 0 ∙ sym (nothing_added kept saved added)
add_made kept (x ∷ es) saved added ne =
    let all : Loaded = record kept { log = kept.log ++ (x ∷ es) } in
    ap (λ ys. record kept { log = kept.log ++ ys }) (take_length (x ∷ es))
    ∙ sym (nothing_added all (saved - 1) added)
    ∙ sym (ap (λ n. saving.kept_after kept (saving.add_call (x ∷ es)) n added) (one_more saved ne))

-- what is at stake in the call after the first ones
stake_first : (es : List Entry) → length (saving.at_stake (slice_get (saving.add_call es) 0)) ≡ length es
stake_first [] = refl
stake_first (e ∷ es) = refl

stake_past : (es : List Entry) (n : ℕ) → length (saving.at_stake (slice_get (saving.add_call es) (suc n))) ≡ 0
stake_past [] n = refl
stake_past (e ∷ es) n = refl

stake_last : (v : Option (ℕ × Option ℕ)) (c : Option ℕ) (es : List Entry) → length (saving.at_stake (slice_get (saving.vote_call v ++ (saving.cut_call c ++ saving.add_call es)) (length (saving.vote_call v ++ saving.cut_call c)))) ≡ length es
stake_last None None es = stake_first es
stake_last None (Some c) es = stake_first es
stake_last (Some v) None es = stake_first es
stake_last (Some v) (Some c) es = stake_first es

pub staked : (s : Saves) (n : ℕ) → n ≡ length (saving.vote_call s.vote ++ saving.cut_call s.cut) → length s.add ≡ length (saving.at_stake (slice_get (saving.calls_of s) n))
staked s n e = sym (ap (λ k. length (saving.at_stake (slice_get (saving.calls_of s) k))) e ∙ stake_last s.vote s.cut s.add)

not_last : (v : Option (ℕ × Option ℕ)) (c : Option ℕ) (es : List Entry) (n : ℕ) → n ≢ length (saving.vote_call v ++ saving.cut_call c) → length (saving.at_stake (slice_get (saving.vote_call v ++ (saving.cut_call c ++ saving.add_call es)) n)) ≡ 0
not_last None None es zero ne = absurd (ne refl)
not_last None None es (suc n) ne = stake_past es n
not_last None (Some c) es zero ne = refl
not_last None (Some c) es (suc zero) ne = absurd (ne refl)
not_last None (Some c) es (suc (suc n)) ne = stake_past es n
not_last (Some v) None es zero ne = refl
not_last (Some v) None es (suc zero) ne = absurd (ne refl)
not_last (Some v) None es (suc (suc n)) ne = stake_past es n
not_last (Some v) (Some c) es zero ne = refl
not_last (Some v) (Some c) es (suc zero) ne = refl
not_last (Some v) (Some c) es (suc (suc zero)) ne = absurd (ne refl)
not_last (Some v) (Some c) es (suc (suc (suc n))) ne = stake_past es n

pub not_staked : (s : Saves) (n : ℕ) → n ≢ length (saving.vote_call s.vote ++ saving.cut_call s.cut) → 0 ≡ length (saving.at_stake (slice_get (saving.calls_of s) n))
not_staked s n ne = sym (not_last s.vote s.cut s.add n ne)

-- how many calls there are
add_count : (v : Option (ℕ × Option ℕ)) (c : Option ℕ) (es : List Entry) → length (saving.vote_call v ++ (saving.cut_call c ++ saving.add_call es)) ≡ length (saving.vote_call v ++ saving.cut_call c) + length (saving.add_call es)
add_count None None es = omega arith
add_count None (Some c) es = omega arith
add_count (Some v) None es = omega arith
add_count (Some v) (Some c) es = omega arith

pub counted : (s : Saves) → length (saving.calls_of s) ≡ length (saving.vote_call s.vote ++ saving.cut_call s.cut) + length (saving.add_call s.add)
counted s = add_count s.vote s.cut s.add
