-- The live sessions and the due ones, by where they stand.
use Rattle.std.proofs.Common.{◌≡◌, ℕ, zero, suc, ◌+◌, ◌-◌, ◌<◌, ◌≤◌, ◌∙◌, refl, sym, ap, arith, subst, Bool, true, false, not, cond, nat_eq, nat_le, is_some, List, [], ◌∷◌, ◌++◌, length, take, drop, map, filter, Option, Some, None}
use Rattle.std.specs.Prelude.{find, slice_get, slice_set, position}
use Rattle.std.specs.List.{AllByRecursion, IsDistinct}
use Rattle.std.specs.Map.{keys_of, lookup, lookup_key}
use Rattle.std.proofs.lemmas.Grind.{common_steps}
use Rattle.std.proofs.lemmas.Map.Keys.{IsDistinct-head, IsDistinct-tail}
use Rattle.std.proofs.lemmas.Option.{slice_get-get_or}
use Rattle.std.proofs.Math.Seq.{take-append_seam}
use Rattle.std.proofs.lemmas.List.{append-nil, take_all}
use Rattle.indexmap.proofs.MapLemmas.{Found-position, absent_from_lookup}
use Rattle.spec_sessions.specs.Tables as tables
use Rattle.sess_table.specs.declared.live.Origin.{Origin}
use Rattle.sess_table.specs.Signs as sess_table_signs
use Rattle.sess_table.specs.Live as lives

apart : (a b : ℕ) → nat_eq a b ≡ false → nat_eq b a ≡ false
apart a b e = grind (arith, common_steps)

same : (a b : ℕ) → nat_eq a b ≡ true → a ≡ b
same a b e = grind (arith, common_steps)

pub none_from : {X : Type 0} (o : Option X) → is_some o ≡ false → o ≡ None
none_from None e = refl
none_from (Some x) e = cc

pub live_from : (x : Option (Option ℕ)) (r : Option ℕ) → x ≡ Some r → is_some r ≡ true → lives.is_signed x ≡ true
live_from x None e some = cc
live_from x (Some t) e some = rw e refl

pub gone_from : (x : Option (Option ℕ)) (r : Option ℕ) → x ≡ Some r → is_some r ≡ false → x ≡ Some None
gone_from x None e some = e
gone_from x (Some t) e some = cc

module _ (s : ℕ) where
  -- no session of a list has this number
  abbrev pub Absent : List tables.Live → Type 0
  Absent [] = Unit {0}
  Absent (l ∷ ls) = (nat_eq l.session s ≡ false) × Absent ls

  pub find-absent : (ls : List tables.Live) → Absent ls → find (λ l. nat_eq l.session s) ls ≡ None
  find-absent [] h = refl
  find-absent (l ∷ ls) h = rw h.0 (find-absent ls h.1)

  pub signed-absent : (time : ℕ) (ls : List tables.Live) → Absent ls → map (tables.with_sign s time) ls ≡ ls
  signed-absent time [] h = refl
  signed-absent time (l ∷ ls) h = rw h.0 (ap (λ (xs : List tables.Live). l ∷ xs) (signed-absent time ls h.1))

  pub filter-absent : (ls : List tables.Live) → Absent ls → filter (λ l. not (nat_eq l.session s)) ls ≡ ls
  filter-absent [] h = refl
  filter-absent (l ∷ ls) h = rw h.0 (ap (λ (xs : List tables.Live). l ∷ xs) (filter-absent ls h.1))

  pub live-absent : (es : List (ℕ × Origin)) (ss : List (Option ℕ)) → AllByRecursion (λ k. nat_eq s k ≡ false) (keys_of es) → Absent (lives.live_in es ss)
  live-absent [] ss h = tt
  live-absent (e ∷ es) [] h = tt
  live-absent (e ∷ es) (None ∷ ss) h = live-absent es ss h.1
  live-absent (e ∷ es) (Some t ∷ ss) h = (apart s e.0 h.0, live-absent es ss h.1)

  -- the first of some sessions is another one, where this one stands further on
  head_apart : (e : ℕ × Origin) (es : List (ℕ × Origin)) (i : ℕ) → AllByRecursion (λ k. nat_eq e.0 k ≡ false) (keys_of es) → slice_get (keys_of es) i ≡ Some s → nat_eq e.0 s ≡ false
  head_apart e [] i h at = cc
  head_apart e (x ∷ es) zero h at = let here : x.0 ≡ s = cc in rw (← here) h.0
  head_apart e (x ∷ es) (suc i) h at = head_apart e es i h.1 at

  -- the others are absent, where the first is this one
  rest_absent : (e : ℕ × Origin) (es : List (ℕ × Origin)) (ss : List (Option ℕ)) → IsDistinct nat_eq (keys_of (e ∷ es)) → e.0 ≡ s → Absent (lives.live_in es ss)
  rest_absent e es ss d here =
      let P : ℕ → Type 0 = λ n. AllByRecursion (λ k. nat_eq n k ≡ false) (keys_of es) in
      live-absent es ss (subst P here (IsDistinct-head nat_eq e.0 (keys_of es) d))

  tail : (e : ℕ × Origin) (es : List (ℕ × Origin)) → IsDistinct nat_eq (keys_of (e ∷ es)) → IsDistinct nat_eq (keys_of es)
  tail e es d = IsDistinct-tail nat_eq e.0 (keys_of es) d

  other : (e : ℕ × Origin) (es : List (ℕ × Origin)) (i : ℕ) → IsDistinct nat_eq (keys_of (e ∷ es)) → slice_get (keys_of es) i ≡ Some s → nat_eq e.0 s ≡ false
  other e es i d at = head_apart e es i (IsDistinct-head nat_eq e.0 (keys_of es) d) at

  here_is : (e : ℕ × Origin) → Some e.0 ≡ Some s → nat_eq e.0 s ≡ true
  here_is e at = let h : e.0 ≡ s = cc in grind (arith, common_steps)

  -- a session that has a sign is live
  pub find-live : (es : List (ℕ × Origin)) (ss : List (Option ℕ)) (i t : ℕ) → IsDistinct nat_eq (keys_of es) → slice_get (keys_of es) i ≡ Some s → slice_get ss i ≡ Some (Some t)
      → (l : tables.Live) × (find (λ l. nat_eq l.session s) (lives.live_in es ss) ≡ Some l) × (l.sign ≡ t)
  find-live [] ss i t d at sign = cc
  find-live (e ∷ es) [] i t d at sign = cc
  find-live (e ∷ es) (None ∷ ss) zero t d at sign = cc
  find-live (e ∷ es) (Some x ∷ ss) zero t d at sign = (lives.live_as e x, rw (here_is e at) refl, cc)
  find-live (e ∷ es) (None ∷ ss) (suc i) t d at sign = find-live es ss i t (tail e es d) at sign
  find-live (e ∷ es) (Some x ∷ ss) (suc i) t d at sign = rw (other e es i d at) (find-live es ss i t (tail e es d) at sign)

  -- one that has none is not
  pub find-gone : (es : List (ℕ × Origin)) (ss : List (Option ℕ)) (i : ℕ) → IsDistinct nat_eq (keys_of es) → slice_get (keys_of es) i ≡ Some s → slice_get ss i ≡ Some None
      → find (λ l. nat_eq l.session s) (lives.live_in es ss) ≡ None
  find-gone [] ss i d at sign = cc
  find-gone (e ∷ es) [] i d at sign = cc
  find-gone (e ∷ es) (None ∷ ss) zero d at sign = find-absent (lives.live_in es ss) (rest_absent e es ss d (cc))
  find-gone (e ∷ es) (Some x ∷ ss) zero d at sign = cc
  find-gone (e ∷ es) (None ∷ ss) (suc i) d at sign = find-gone es ss i (tail e es d) at sign
  find-gone (e ∷ es) (Some x ∷ ss) (suc i) d at sign = rw (other e es i d at) (find-gone es ss i (tail e es d) at sign)

  -- a sign of a session that has one
  pub signed-at : (time : ℕ) (es : List (ℕ × Origin)) (ss : List (Option ℕ)) (i : ℕ) → IsDistinct nat_eq (keys_of es) → slice_get (keys_of es) i ≡ Some s → lives.is_signed (slice_get ss i) ≡ true
      → map (tables.with_sign s time) (lives.live_in es ss) ≡ lives.live_in es (slice_set ss i (Some time))
  signed-at time [] ss i d at sign = cc
  signed-at time (e ∷ es) [] i d at sign = cc
  signed-at time (e ∷ es) (None ∷ ss) zero d at sign = cc
  signed-at time (e ∷ es) (Some x ∷ ss) zero d at sign =
      rw (here_is e at) (ap (λ (xs : List tables.Live). lives.live_as e time ∷ xs) (signed-absent time (lives.live_in es ss) (rest_absent e es ss d (cc))))
  signed-at time (e ∷ es) (None ∷ ss) (suc i) d at sign = signed-at time es ss i (tail e es d) at sign
  signed-at time (e ∷ es) (Some x ∷ ss) (suc i) d at sign =
      rw (other e es i d at) (ap (λ (xs : List tables.Live). lives.live_as e x ∷ xs) (signed-at time es ss i (tail e es d) at sign))

  -- the end of a session that has a sign
  pub finished-at : (es : List (ℕ × Origin)) (ss : List (Option ℕ)) (i : ℕ) → IsDistinct nat_eq (keys_of es) → slice_get (keys_of es) i ≡ Some s → lives.is_signed (slice_get ss i) ≡ true
      → filter (λ l. not (nat_eq l.session s)) (lives.live_in es ss) ≡ lives.live_in es (slice_set ss i None)
  finished-at [] ss i d at sign = cc
  finished-at (e ∷ es) [] i d at sign = cc
  finished-at (e ∷ es) (None ∷ ss) zero d at sign = cc
  finished-at (e ∷ es) (Some x ∷ ss) zero d at sign = rw (here_is e at) (filter-absent (lives.live_in es ss) (rest_absent e es ss d (cc)))
  finished-at (e ∷ es) (None ∷ ss) (suc i) d at sign = finished-at es ss i (tail e es d) at sign
  finished-at (e ∷ es) (Some x ∷ ss) (suc i) d at sign =
      rw (other e es i d at) (ap (λ (xs : List tables.Live). lives.live_as e x ∷ xs) (finished-at es ss i (tail e es d) at sign))

  -- where a look-up by position finds a session, it stands
  key_head : (k : ℕ) (x : ℕ × Origin) (rest : Option ℕ) → (rest ≡ Some k → s ≡ k) → (b : Bool) → nat_eq s x.0 ≡ b → cond b (Some x.0) rest ≡ Some k → s ≡ k
  key_head k x rest more true t h = same s x.0 t ∙ cc
  key_head k x rest more false t h = more h

  lookup_key-passes : (es : List (ℕ × Origin)) (k : ℕ) → lookup_key (nat_eq s) es ≡ Some k → s ≡ k
  lookup_key-passes [] k e = cc
  lookup_key-passes (x ∷ es) k e = key_head k x (lookup_key (nat_eq s) es) (lookup_key-passes es k) (nat_eq s x.0) refl e

  pub stands_at : (es : List (ℕ × Origin)) (i : ℕ) → position (nat_eq s) (keys_of es) ≡ Some i → slice_get (keys_of es) i ≡ Some s
  stands_at es i p =
      let found = Found-position (nat_eq s) es i p in
      by (slice_get (keys_of es) i) refl found.key found.within
    where
      short : (es : List (ℕ × Origin)) (i : ℕ) → slice_get (keys_of es) i ≡ None → i < length es → ⊥
      short [] i e lt = omega arith
      short (x ∷ es) zero e lt = cc
      short (x ∷ es) (suc i) e lt = short es i e (omega arith)

      by : (r : Option ℕ) → slice_get (keys_of es) i ≡ r → lookup_key (nat_eq s) es ≡ slice_get (keys_of es) i → i < length es → slice_get (keys_of es) i ≡ Some s
      by None e k lt = absurd (short es i e lt)
      by (Some x) e k lt = e ∙ ap (λ n. Some n) (sym (lookup_key-passes es x (k ∙ e)))

  -- a session that is not registered is not live
  pub find-unknown : (es : List (ℕ × Origin)) (ss : List (Option ℕ)) → is_some (lookup (nat_eq s) es) ≡ false → find (λ l. nat_eq l.session s) (lives.live_in es ss) ≡ None
  find-unknown es ss none = find-absent (lives.live_in es ss) (live-absent es ss (absent_from_lookup (nat_eq s) es (none_from (lookup (nat_eq s) es) none)))

-- one more live session
pub live-push : (es : List (ℕ × Origin)) (ss : List (Option ℕ)) (e : ℕ × Origin) (t : ℕ) → length ss ≡ length es
    → lives.live_in (es ++ e ∷ []) (ss ++ Some t ∷ []) ≡ lives.live_in es ss ++ lives.live_as e t ∷ []
live-push [] [] e t long = refl
live-push [] (s ∷ ss) e t long = absurd (omega arith)
live-push (x ∷ es) [] e t long = absurd (omega arith)
live-push (x ∷ es) (None ∷ ss) e t long = live-push es ss e t (omega arith)
live-push (x ∷ es) (Some s ∷ ss) e t long = ap (λ (xs : List tables.Live). lives.live_as x s ∷ xs) (live-push es ss e t (omega arith))

module _ (limit : ℕ) where
  due-none : (es : List (ℕ × Origin)) → lives.due_in limit es [] ≡ []
  due-none [] = refl
  due-none (e ∷ es) = refl

  due_head : (e : ℕ × Origin) (es : List (ℕ × Origin)) (x : Option ℕ) (ss : List (Option ℕ)) → sess_table_signs.is_up_to limit (Some x) ≡ false → lives.due_in limit (e ∷ es) (x ∷ ss) ≡ lives.due_in limit es ss
  due_head e es None ss none = refl
  due_head e es (Some t) ss none = rw none refl

  -- sessions without old signs are passed over
  pub due-skip : (es : List (ℕ × Origin)) (ss : List (Option ℕ)) (next index : ℕ) → next ≤ index → sess_table_signs.NoneUpTo limit ss next index
      → lives.due_in limit (drop next es) (drop next ss) ≡ lives.due_in limit (drop index es) (drop index ss)
  due-skip es ss zero zero le none = refl
  due-skip [] ss zero (suc i) le none = refl
  due-skip (e ∷ es) [] zero (suc i) le none = sym (due-none (drop i es))
  due-skip (e ∷ es) (x ∷ ss) zero (suc i) le none =
      due_head e es x ss (none 0 (omega arith) (omega arith)) ∙ due-skip es ss zero i (omega arith) (λ k lo hi. none (suc k) (omega arith) (omega arith))
  due-skip es ss (suc n) zero le none = absurd (omega arith)
  due-skip [] ss (suc n) (suc i) le none = refl
  due-skip (e ∷ es) [] (suc n) (suc i) le none = due-none (drop n es) ∙ sym (due-none (drop i es))
  due-skip (e ∷ es) (x ∷ ss) (suc n) (suc i) le none = due-skip es ss n i (omega arith) (λ k lo hi. none (suc k) (omega arith) (omega arith))

  -- one with an old sign is due
  pub due-here : (es : List (ℕ × Origin)) (ss : List (Option ℕ)) (index : ℕ) (e : ℕ × Origin) → slice_get es index ≡ Some e → sess_table_signs.is_up_to limit (slice_get ss index) ≡ true
      → lives.due_in limit (drop index es) (drop index ss) ≡ e.0 ∷ lives.due_in limit (drop (suc index) es) (drop (suc index) ss)
  due-here [] ss index e at old = cc
  due-here (x ∷ es) [] index e at old = cc
  due-here (x ∷ es) (None ∷ ss) zero e at old = cc
  due-here (x ∷ es) (Some t ∷ ss) zero e at old = let first : x ≡ e = cc in rw (old, first) refl
  due-here (x ∷ es) (s ∷ ss) (suc index) e at old = due-here es ss index e at old

  -- none is left
  pub due-end : (es : List (ℕ × Origin)) (ss : List (Option ℕ)) (next : ℕ) → sess_table_signs.NoneUpTo limit ss next (length ss) → lives.due_in limit (drop next es) (drop next ss) ≡ []
  due-end es [] zero none = due-none es
  due-end [] (x ∷ ss) zero none = refl
  due-end (e ∷ es) (x ∷ ss) zero none =
      due_head e es x ss (none 0 (omega arith) (omega arith)) ∙ due-end es ss zero (λ k lo hi. none (suc k) (omega arith) (omega arith))
  due-end [] ss (suc n) none = refl
  due-end (e ∷ es) [] (suc n) none = due-none (drop n es)
  due-end (e ∷ es) (x ∷ ss) (suc n) none = due-end es ss n (λ k lo hi. none (suc k) (omega arith) (omega arith))

-- a session is due where its sign is at most the time less the timeout
pub due_by_limit : (timeout time limit sign : ℕ) → 1 ≤ timeout → time ≡ limit + timeout → nat_le timeout (time - sign) ≡ nat_le sign limit
due_by_limit timeout time limit sign timed e = by_test (nat_le sign limit) refl
  where
    by_test : (b : Bool) → nat_le sign limit ≡ b → nat_le timeout (time - sign) ≡ b
    by_test true h = grind (arith, common_steps)
    by_test false h = grind (arith, common_steps)

due_step : (x : ℕ × Origin) (t : ℕ) (ls : List tables.Live) (rest : List ℕ) → map (λ l. l.session) ls ≡ rest → (b : Bool) → map (λ l. l.session) (cond b (lives.live_as x t ∷ ls) ls) ≡ cond b (x.0 ∷ rest) rest
due_step x t ls rest e true = ap (λ (xs : List ℕ). x.0 ∷ xs) e
due_step x t ls rest e false = e

pub due-by_limit : (timeout time limit : ℕ) (es : List (ℕ × Origin)) (ss : List (Option ℕ)) → 1 ≤ timeout → time ≡ limit + timeout
    → map (λ l. l.session) (filter (tables.is_due timeout time) (lives.live_in es ss)) ≡ lives.due_in limit es ss
due-by_limit timeout time limit [] ss timed e = refl
due-by_limit timeout time limit (x ∷ es) [] timed e = refl
due-by_limit timeout time limit (x ∷ es) (None ∷ ss) timed e = due-by_limit timeout time limit es ss timed e
due-by_limit timeout time limit (x ∷ es) (Some t ∷ ss) timed e =
    rw (due_by_limit timeout time limit t timed e)
    (due_step x t (filter (tables.is_due timeout time) (lives.live_in es ss)) (lives.due_in limit es ss) (due-by_limit timeout time limit es ss timed e) (nat_le t limit))

-- before the timeout has passed at all, none is due
early : (timeout time sign : ℕ) → time < timeout → nat_le timeout (time - sign) ≡ false
early timeout time sign lt = grind (arith, common_steps)

pub due-early : (timeout time : ℕ) (es : List (ℕ × Origin)) (ss : List (Option ℕ)) → time < timeout → map (λ l. l.session) (filter (tables.is_due timeout time) (lives.live_in es ss)) ≡ []
due-early timeout time [] ss lt = refl
due-early timeout time (x ∷ es) [] lt = refl
due-early timeout time (x ∷ es) (None ∷ ss) lt = due-early timeout time es ss lt
due-early timeout time (x ∷ es) (Some t ∷ ss) lt = rw (early timeout time t lt) (due-early timeout time es ss lt)

-- the first ones of a list that begins with so many, or that has no more
pub taken : {X : Type 0} (n : ℕ) (xs ys all : List X) → xs ++ ys ≡ all → length xs ≡ n → xs ≡ take n all
taken {X} n xs ys all e long =
    let P : ℕ → Type 0 = λ k. take k (xs ++ ys) ≡ xs in
    sym (subst P long (take-append_seam xs ys)) ∙ ap (λ (zs : List X). take n zs) e

pub taken-all : {X : Type 0} (n : ℕ) (xs ys all : List X) → xs ++ ys ≡ all → ys ≡ [] → length xs ≤ n → xs ≡ take n all
taken-all {X} n xs ys all e none long =
    let whole : xs ≡ all = sym (append-nil xs) ∙ (ap (λ (zs : List X). xs ++ zs) (sym none) ∙ e) in
    sym (ap (λ (zs : List X). take n zs) (sym whole) ∙ take_all n xs long)
