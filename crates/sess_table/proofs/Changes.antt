-- What a table keeps, after a session is registered, gives a sign, or ends.
use Rattle.std.proofs.Common.{◌≡◌, ℕ, zero, suc, ◌+◌, ◌<◌, ◌≤◌, ◌∙◌, refl, sym, ap, arith, subst, Bool, true, false, cond, nat_eq, nat_lt, is_some, List, [], ◌∷◌, ◌++◌, length, length-append, get_or, take, map, Result, IfOk, Option, Some, None}
use Rattle.std.specs.Prelude.{find, slice_get, slice_set}
use Rattle.std.specs.Option.{option_map, option_to_list, IsSome}
use Rattle.std.specs.List.{AllByRecursion, IsDistinct}
use Rattle.std.specs.Map.{keys_of, lookup}
use Rattle.std.proofs.Math.Seq.{take-append_seam}
use Rattle.std.proofs.lemmas.Grind.{common_steps}
use Rattle.std.proofs.lemmas.List.{length-set, map-append}
use Rattle.std.proofs.lemmas.Map.Entries.{place_from_lookup, length-keys_of}
use Rattle.std.proofs.lemmas.Map.Keys.{IsDistinct-head, IsDistinct-tail}
use Rattle.std.proofs.lemmas.Option.{slice_get_within, slice_get-map, slice_get-get_or}
use Rattle.ax_types.specs.declared.sessions.SessionState.TheVariants as state
use Rattle.spec_sessions.specs.Tables as tables
use Rattle.sess_table.specs.declared.live.Origin.{Origin}
use Rattle.sess_table.specs.declared.table.Past.{Past as Ending}
use Rattle.sess_table.specs.Live as sess_table_lives
use Rattle.sess_table.specs.Endings as sess_table_pasts
use Rattle.sess_table.specs.TableParts as table_parts
use Rattle.sess_table.proofs.Floors.{get-append, get-last, get-set_other, get-set_same}
use Rattle.sess_table.proofs.Order.{find-live}
use Rattle.sess_table.proofs.Ends.{lookup-push}

live_not_gone : (x : Option (Option ℕ)) → sess_table_lives.is_signed x ≡ true → sess_table_lives.is_gone x ≡ false
live_not_gone None e = cc
live_not_gone (Some None) e = cc
live_not_gone (Some (Some t)) e = refl

live_there : (x : Option (Option ℕ)) → sess_table_lives.is_signed x ≡ true → (y : Option ℕ) × (x ≡ Some y)
live_there None e = cc
live_there (Some y) e = (y, refl)

-- a live session is none of those that ended
pub not_past : (timeout : ℕ) (es : List (ℕ × Origin)) (ss : List (Option ℕ)) (past : List (ℕ × Ending)) (i s : ℕ) → table_parts.AreTable timeout es ss past
    → slice_get (keys_of es) i ≡ Some s → sess_table_lives.is_signed (slice_get ss i) ≡ true → is_some (lookup (nat_eq s) past) ≡ false
not_past timeout es ss past i s kept at live = kept.ended i s at ∙ live_not_gone (slice_get ss i) live

pub kept-signed : (timeout : ℕ) (es : List (ℕ × Origin)) (ss : List (Option ℕ)) (past : List (ℕ × Ending)) (i s t : ℕ) → table_parts.AreTable timeout es ss past
    → slice_get (keys_of es) i ≡ Some s → sess_table_lives.is_signed (slice_get ss i) ≡ true → table_parts.AreTable timeout es (slice_set ss i (Some t)) past
kept-signed timeout es ss past i s t kept at live = record {
  timed = kept.timed;
  unique = kept.unique;
  long = length-set ss i (Some t) ∙ kept.long;
  ended = λ j q there. by_index j q there (nat_eq j i) refl;
}
  where
    by_index : (j q : ℕ) → slice_get (keys_of es) j ≡ Some q → (b : Bool) → nat_eq j i ≡ b → is_some (lookup (nat_eq q) past) ≡ sess_table_lives.is_gone (slice_get (slice_set ss i (Some t)) j)
    by_index j q there true e =
        let here : i ≡ j = grind (arith, common_steps) in
        let set_there = live_there (slice_get ss i) live in
        let now : slice_get (slice_set ss i (Some t)) i ≡ Some (Some t) = get-set_same ss i set_there.0 (Some t) set_there.1 in
        let before : is_some (lookup (nat_eq q) past) ≡ sess_table_lives.is_gone (slice_get ss j) = kept.ended j q there in
        let P : ℕ → Type 0 = λ n. is_some (lookup (nat_eq q) past) ≡ sess_table_lives.is_gone (slice_get ss n) in
        let Q : ℕ → Type 0 = λ n. is_some (lookup (nat_eq q) past) ≡ sess_table_lives.is_gone (slice_get (slice_set ss i (Some t)) n) in
        subst Q here (subst P (sym here) before ∙ (live_not_gone (slice_get ss i) live ∙ sym (ap sess_table_lives.is_gone now)))
    by_index j q there false e = kept.ended j q there ∙ sym (ap sess_table_lives.is_gone (get-set_other ss i j (Some t) e))

-- a number stands at one place alone
same_place : (ks : List ℕ) (s i j : ℕ) → IsDistinct nat_eq ks → slice_get ks i ≡ Some s → slice_get ks j ≡ Some s → nat_eq j i ≡ true
same_place [] s i j d a b = cc
same_place (k ∷ ks) s zero zero d a b = refl
same_place (k ∷ ks) s zero (suc j) d a b = absurd (apart ks j (IsDistinct-head nat_eq k ks d) b)
  where
    apart : (ks : List ℕ) (j : ℕ) → AllByRecursion (λ y. nat_eq k y ≡ false) ks → slice_get ks j ≡ Some s → ⊥
    apart [] j h b = cc
    apart (x ∷ ks) zero h b = let e : nat_eq k x ≡ true = (let f : k ≡ s = cc in let g : x ≡ s = cc in grind (arith, common_steps)) in let n : nat_eq k x ≡ false = h.0 in cc
    apart (x ∷ ks) (suc j) h b = apart ks j h.1 b
same_place (k ∷ ks) s (suc i) zero d a b = absurd (apart ks i (IsDistinct-head nat_eq k ks d) a)
  where
    apart : (ks : List ℕ) (j : ℕ) → AllByRecursion (λ y. nat_eq k y ≡ false) ks → slice_get ks j ≡ Some s → ⊥
    apart [] j h b = cc
    apart (x ∷ ks) zero h a' = let e : nat_eq k x ≡ true = (let f : k ≡ s = cc in let g : x ≡ s = cc in grind (arith, common_steps)) in let n : nat_eq k x ≡ false = h.0 in cc
    apart (x ∷ ks) (suc j) h a' = apart ks j h.1 a'
same_place (k ∷ ks) s (suc i) (suc j) d a b = let inner : nat_eq j i ≡ true = same_place ks s i j (IsDistinct-tail nat_eq k ks d) a b in grind (arith, common_steps)

pub kept-finished : (timeout : ℕ) (es : List (ℕ × Origin)) (ss : List (Option ℕ)) (past : List (ℕ × Ending)) (i s : ℕ) (e : Ending) → table_parts.AreTable timeout es ss past
    → slice_get (keys_of es) i ≡ Some s → sess_table_lives.is_signed (slice_get ss i) ≡ true → table_parts.AreTable timeout es (slice_set ss i None) (past ++ (s, e) ∷ [])
kept-finished timeout es ss past i s e kept at live = record {
  timed = kept.timed;
  unique = kept.unique;
  long = length-set ss i None ∙ kept.long;
  ended = λ j q there. by_index j q there (nat_eq j i) refl (nat_eq q s) refl;
}
  where
    by_index : (j q : ℕ) → slice_get (keys_of es) j ≡ Some q → (b : Bool) → nat_eq j i ≡ b → (k : Bool) → nat_eq q s ≡ k
        → is_some (lookup (nat_eq q) (past ++ (s, e) ∷ [])) ≡ sess_table_lives.is_gone (slice_get (slice_set ss i None) j)
    by_index j q there true f k g =
        let here : i ≡ j = grind (arith, common_steps) in
        let set_there = live_there (slice_get ss i) live in
        let now : slice_get (slice_set ss i None) i ≡ Some None = get-set_same ss i set_there.0 None set_there.1 in
        let P : ℕ → Type 0 = λ n. slice_get (keys_of es) n ≡ Some q in
        let there_too : slice_get (keys_of es) i ≡ Some q = subst P (sym here) there in
        let same : q ≡ s = (let h : Some q ≡ Some s = sym there_too ∙ at in cc) in
        let found : nat_eq q s ≡ true = grind (arith, common_steps) in
        let Q : ℕ → Type 0 = λ n. is_some (lookup (nat_eq q) (past ++ (s, e) ∷ [])) ≡ sess_table_lives.is_gone (slice_get (slice_set ss i None) n) in
        subst Q here (lookup-push q past (s, e) ∙ (ap (λ b. cond (is_some (lookup (nat_eq q) past)) true b) found ∙ (either_true (is_some (lookup (nat_eq q) past)) ∙ sym (ap sess_table_lives.is_gone now))))
      where
        either_true : (b : Bool) → cond b true true ≡ true
        either_true true = refl
        either_true false = refl
    by_index j q there false f true g =
        let same : s ≡ q = grind (arith, common_steps) in
        let P : ℕ → Type 0 = λ n. slice_get (keys_of es) i ≡ Some n in
        let twice : nat_eq j i ≡ true = same_place (keys_of es) q i j kept.unique (subst P same at) there in
        cc
    by_index j q there false f false g =
        lookup-push q past (s, e) ∙ (ap (λ b. cond (is_some (lookup (nat_eq q) past)) true b) g ∙ (or_false (is_some (lookup (nat_eq q) past)) ∙ (kept.ended j q there ∙ sym (ap sess_table_lives.is_gone (get-set_other ss i j None f)))))
      where
        or_false : (b : Bool) → cond b true false ≡ b
        or_false true = refl
        or_false false = refl

pub kept-registered : (timeout : ℕ) (es : List (ℕ × Origin)) (ss : List (Option ℕ)) (past : List (ℕ × Ending)) (s t : ℕ) (o : Origin) → table_parts.AreTable timeout es ss past
    → is_some (lookup (nat_eq s) past) ≡ false → IsDistinct nat_eq (keys_of (es ++ (s, o) ∷ [])) → table_parts.AreTable timeout (es ++ (s, o) ∷ []) (ss ++ Some t ∷ []) past
kept-registered timeout es ss past s t o kept new unique = record {
  timed = kept.timed;
  unique = unique;
  long = (let a : length (ss ++ Some t ∷ []) ≡ length ss + 1 = length-append ss (Some t ∷ []) in
      let b : length (es ++ (s, o) ∷ []) ≡ length es + 1 = length-append es ((s, o) ∷ []) in
      let c : length ss ≡ length es = kept.long in omega arith);
  ended = λ j q there. by_index j q (rw (← keys) there) (nat_lt j (length es)) refl;
}
  where
    keys : keys_of (es ++ (s, o) ∷ []) ≡ keys_of es ++ s ∷ []
    keys = map-append _ es ((s, o) ∷ [])

    count : length (keys_of es) ≡ length es
    count = length-keys_of es

    by_index : (j q : ℕ) → slice_get (keys_of es ++ s ∷ []) j ≡ Some q → (b : Bool) → nat_lt j (length es) ≡ b → is_some (lookup (nat_eq q) past) ≡ sess_table_lives.is_gone (slice_get (ss ++ Some t ∷ []) j)
    by_index j q there true e =
        let lt : j < length es = grind (arith, common_steps) in
        let c : length ss ≡ length es = kept.long in
        kept.ended j q (sym (get-append (keys_of es) (s ∷ []) j (omega (arith, count))) ∙ there) ∙ sym (ap sess_table_lives.is_gone (get-append ss (Some t ∷ []) j (omega arith)))
    by_index j q there false e =
        let within : j < length (keys_of es ++ s ∷ []) = slice_get_within (keys_of es ++ s ∷ []) j q there in
        let more : length (keys_of es ++ s ∷ []) ≡ length (keys_of es) + 1 = length-append (keys_of es) (s ∷ []) in
        let le : length es ≤ j = grind (arith, common_steps) in
        let c : length ss ≡ length es = kept.long in
        let last : j ≡ length es = omega (arith, count) in
        let same : s ≡ q = (let h : Some s ≡ Some q = sym (get-last (keys_of es) s j (omega (arith, count))) ∙ there in cc) in
        let P : ℕ → Type 0 = λ n. is_some (lookup (nat_eq n) past) ≡ sess_table_lives.is_gone (slice_get (ss ++ Some t ∷ []) j) in
        subst P same (new ∙ sym (ap sess_table_lives.is_gone (get-last ss (Some t) j (omega arith))))

-- no session that ended has a later number
pub past_below : (place : ℕ) (past : List (ℕ × Ending)) → AllByRecursion (λ p. p.session < place) (map sess_table_pasts.past_of past) → is_some (lookup (nat_eq place) past) ≡ false
past_below place [] h = refl
past_below place (e ∷ past) h =
    let lt : e.0 < place = h.0 in
    let other : nat_eq place e.0 ≡ false = grind (arith, common_steps) in
    rw other (past_below place past h.1)

live_below : (place : ℕ) (ls : List tables.Live) → AllByRecursion (λ l. l.session < place) ls → find (λ l. nat_eq l.session place) ls ≡ None
live_below place [] h = refl
live_below place (l ∷ ls) h =
    let lt : l.session < place = h.0 in
    let other : nat_eq l.session place ≡ false = grind (arith, common_steps) in
    rw other (live_below place ls h.1)

-- no session that was registered has a later number
pub fresh : (timeout : ℕ) (es : List (ℕ × Origin)) (ss : List (Option ℕ)) (past : List (ℕ × Ending)) (place : ℕ) → table_parts.AreTable timeout es ss past
    → AllByRecursion (λ l. l.session < place) (sess_table_lives.live_in es ss) → AllByRecursion (λ p. p.session < place) (map sess_table_pasts.past_of past) → lookup (nat_eq place) es ≡ None
fresh timeout es ss past place kept lives pasts = by (lookup (nat_eq place) es) refl
  where
    at_sign : (i : ℕ) → slice_get (keys_of es) i ≡ Some place → (x : Option (Option ℕ)) → slice_get ss i ≡ x → i < length ss → ⊥
    at_sign i at None e lt = let there : slice_get ss i ≡ Some (get_or ss i None) = slice_get-get_or ss i None lt in cc
    at_sign i at (Some None) e lt = let a : is_some (lookup (nat_eq place) past) ≡ true = kept.ended i place at ∙ ap sess_table_lives.is_gone e in let b : is_some (lookup (nat_eq place) past) ≡ false = past_below place past pasts in cc
    at_sign i at (Some (Some t)) e lt = let found = find-live place es ss i t kept.unique at e in let none = live_below place (sess_table_lives.live_in es ss) lives in let h : None ≡ Some found.0 = sym none ∙ found.1 in cc

    by : (r : Option Origin) → lookup (nat_eq place) es ≡ r → lookup (nat_eq place) es ≡ None
    by None e = e
    by (Some o) e =
        let there = place_from_lookup (nat_eq place) es o e in
        let same : place ≡ there.1 = (let t : nat_eq place there.1 ≡ true = there.3 in grind (arith, common_steps)) in
        let key : slice_get (keys_of es) there.0 ≡ Some place = slice_get-map (λ x. x.0) es there.0 ∙ (ap (λ r. option_map (λ x. x.0) r) there.2 ∙ ap (λ n. Some n) (sym same)) in
        let within : there.0 < length es = slice_get_within es there.0 (there.1, o) there.2 in
        let long : length ss ≡ length es = kept.long in
        absurd (at_sign there.0 key (slice_get ss there.0) refl (omega arith))

-- a session that is not live is not said to be
pub not_live : (p : Option tables.PastSession) → tables.state_with None p ≡ state.Live → ⊥
not_live None e = cc
not_live (Some p) e = cc

-- the last of a list is taken out again
pub popped : {X : Type 0} (xs ys zs : List X) (y : X) → xs ++ y ∷ [] ≡ ys ++ zs → length ys ≡ length xs → ys ≡ xs
popped {X} xs ys zs y e long =
    sym (take-append_seam ys zs) ∙ (ap (λ (ws : List X). take (length ys) ws) (sym e) ∙ (ap (λ n. take n (xs ++ y ∷ [])) long ∙ take-append_seam xs (y ∷ [])))

-- a result is another list, where the two are equal
pub IfOk-other : {X E : Type 0} (r : Result (List X) E) (xs ys : List X) → xs ≡ ys → IfOk r (λ zs. zs ≡ xs) → IfOk r (λ zs. zs ≡ ys)
IfOk-other {X} r xs ys e h = let P : List X → Type 0 = λ ws. IfOk r (λ zs. zs ≡ ws) in subst P e h

pub some_from : {X : Type 0} (o : Option X) → is_some o ≡ true → (x : X) × (o ≡ Some x)
some_from None e = cc
some_from (Some x) e = (x, refl)

pub last_popped : {X : Type 0} (r : Option X) (xs ys : List X) (y : X) → xs ++ y ∷ [] ≡ ys ++ option_to_list r → length ys + cond (is_some r) 1 0 ≡ length (xs ++ y ∷ [])
    → (0 < length (xs ++ y ∷ []) → IsSome r) → ys ≡ xs
last_popped None xs ys y e long some =
    let more : length (xs ++ y ∷ []) ≡ length xs + 1 = length-append xs (y ∷ []) in
    let there : false ≡ true = some (omega arith) in cc
last_popped (Some x) xs ys y e long some = let more : length (xs ++ y ∷ []) ≡ length xs + 1 = length-append xs (y ∷ []) in popped xs ys (x ∷ []) y e (omega arith)

pub live_sign : (x : Option (Option ℕ)) → sess_table_lives.is_signed x ≡ true → (t : ℕ) × (x ≡ Some (Some t))
live_sign None e = cc
live_sign (Some None) e = cc
live_sign (Some (Some t)) e = (t, refl)
