-- Only live sessions are told anything: a book names no others.
use Rattle.std.proofs.Common.{◌≡◌, ◌≢◌, ◌⊎◌, ℕ, zero, suc, ◌-◌, ◌≤◌, Bool, true, false, cond, not, ◌&&◌, ◌||◌, nat_le, nat_eq, IsTrue, List, [], ◌∷◌, ◌++◌, Option, Some, None, length, take, drop, map, filter, refl, sym, ap, ap₂, ◌∙◌, subst, arith, le-leb, inl, inr, length-take-le}
use Rattle.std.specs.List.{list_any}
use Rattle.std.proofs.lemmas.Bool.Decides.{nat_tests}
use Rattle.std.proofs.lemmas.List.Folds.{list_any-append}
use Rattle.ax_types.specs.Places as lists
use Rattle.ax_types.specs.declared.entries.Act.{Act}
use Rattle.ax_types.specs.declared.entries.Act.TheVariants as act
use Rattle.ax_types.specs.declared.replies.Event.{Event}
use Rattle.spec_book.specs.Book as books
use Rattle.spec_book.specs.History as histories
use Rattle.law_told.specs.ToldEvents as laws
use Rattle.law_told.proofs.Lists.{by_last, at_within, at_end, at_some, at_split, take_all}
use Rattle.law_told.proofs.Growth.{book_next, live_grown, told_grown, turn_next}
use Rattle.law_told.proofs.Telling.{AllMayTell, AreTold, Gives, ended_tells, turn_tells, other_tells, gives_since}

-- live at the end of a history
abbrev pub live_now : histories.History → ℕ → Bool
live_now h s = histories.is_open (lists.at_place h s) && not (list_any (λ a. histories.ends s a.1) h)

abbrev pub IsLiveNow : histories.History → ℕ → Type 0
IsLiveNow h s = live_now h s ≡ true

pub live_end : (h : histories.History) (s : ℕ) → histories.is_live h (length h) s ≡ live_now h s
live_end h s = go (lists.at_place h s) refl
  where
    go : (x : Option (ℕ × Act)) → lists.at_place h s ≡ x → (histories.is_open x && nat_le s (length h) && not (list_any (λ a. histories.ends s a.1) (take (length h) h))) ≡ (histories.is_open x && not (list_any (λ a. histories.ends s a.1) h))
    go None e = refl
    go (Some a) e =
        let w = at_some h s a e in
        let l : nat_le s (length h) ≡ true = le-leb s (length h) w.1 in
        let t : take (length h) h ≡ h = take_all h in
        rw (l, t) (and_true (histories.is_open (Some a)) (not (list_any (λ b. histories.ends s b.1) h)))
      where
        and_true : (x y : Bool) → (x && true && y) ≡ (x && y)
        and_true true y = refl
        and_true false y = refl

-- what stands in a history is of live sessions
abbrev pub OfLive : histories.History → Type 0
OfLive h = (p : ℕ) (a : ℕ × Act) → lists.at_place h p ≡ Some a → histories.IsOfLive h p (histories.session_of a.1)

of_live_before : (h r : histories.History) (p : ℕ) (x : Option ℕ) → p ≤ length h → histories.IsOfLive (h ++ r) p x → histories.IsOfLive h p x
of_live_before h r p None l i = tt
of_live_before h r p (Some s) l i = sym (live_grown h r (p - 1) s (omega arith)) ∙ i

pub live_before : (h r : histories.History) → OfLive (h ++ r) → OfLive h
live_before h r o p a e = let w = at_some h p a e in of_live_before h r p (histories.session_of a.1) w.1 (o p a (at_within h r p w.1 ∙ e))

abbrev pub OwnLive : histories.History → Option ℕ → Type 0
OwnLive h None = Unit {0}
OwnLive h (Some s) = IsLiveNow h s

own_live : (h : histories.History) (a : ℕ × Act) (x : Option ℕ) → histories.IsOfLive (h ++ a ∷ []) (suc (length h)) x → OwnLive h x
own_live h a None i = tt
own_live h a (Some s) i =
    let e : suc (length h) - 1 ≡ length h = omega arith in
    sym (live_end h s) ∙ sym (live_grown h (a ∷ []) (length h) s (omega arith)) ∙ ap (λ n. histories.is_live (h ++ a ∷ []) n s) (sym e) ∙ i

both_true : (a b : Bool) → (a && b) ≡ true → (a ≡ true) × (b ≡ true)
both_true true b e = (refl, e)
both_true false b e = absurd (cc)

not_true : (b : Bool) → not b ≡ true → b ≡ false
not_true true e = absurd (cc)
not_true false e = refl

-- a live session stays live, but for an act that ends it
pub opened_within : (h : histories.History) (s : ℕ) → histories.is_open (lists.at_place h s) ≡ true → s ≤ length h
opened_within h s e = go (lists.at_place h s) refl e
  where
    go : (x : Option (ℕ × Act)) → lists.at_place h s ≡ x → histories.is_open x ≡ true → s ≤ length h
    go None f o = absurd (cc)
    go (Some a) f o = (at_some h s a f).1

pub live_kept : (h : histories.History) (a : ℕ × Act) (s : ℕ) → histories.ends s a.1 ≡ false → IsLiveNow h s → IsLiveNow (h ++ a ∷ []) s
live_kept h a s n l =
    let b = both_true (histories.is_open (lists.at_place h s)) (not (list_any (λ x. histories.ends s x.1) h)) l in
    let o : histories.is_open (lists.at_place (h ++ a ∷ []) s) ≡ true = ap histories.is_open (at_within h (a ∷ []) s (opened_within h s b.0)) ∙ b.0 in
    let f : list_any (λ x. histories.ends s x.1) h ≡ false = not_true (list_any (λ x. histories.ends s x.1) h) b.1 in
    let g : list_any (λ x. histories.ends s x.1) (h ++ a ∷ []) ≡ false = list_any-append (λ x. histories.ends s x.1) h (a ∷ []) ∙ ap (λ x. x || (histories.ends s a.1 || false)) f ∙ ap (λ x. x || false) n in
    ap₂ (λ x y. x && not y) o g

differs : (s t : ℕ) → (s ≢ t) → nat_eq t s ≡ false
differs s t n = let m : t ≢ s = λ e. n (sym e) in grind (arith, nat_tests, m)

-- one act
act_tells : (h : histories.History) (time : ℕ) (a : Act) → AllMayTell (IsLiveNow h) (histories.book_after 0 [] h) → OwnLive h (histories.session_of a)
    → Gives (AllMayTell (IsLiveNow (h ++ (time, a) ∷ []))) (IsLiveNow (h ++ (time, a) ∷ [])) (books.acted (histories.book_after 0 [] h) (suc (length h)) time a)
act_tells h time (act.Do s name o) m l =
    gives_since (IsLiveNow h) (IsLiveNow (h ++ (time, act.Do s name o) ∷ [])) (λ t k. live_kept h (time, act.Do s name o) t refl k) (books.acted (histories.book_after 0 [] h) (suc (length h)) time (act.Do s name o)) (turn_tells (IsLiveNow h) (suc (length h)) time s name o (histories.book_after 0 [] h) l m)
act_tells h time (act.Close s) m l =
    gives_since (λ t. IsLiveNow h t × (s ≢ t)) (IsLiveNow (h ++ (time, act.Close s) ∷ [])) (λ t k. live_kept h (time, act.Close s) t (differs s t k.1) k.0) (books.acted (histories.book_after 0 [] h) (suc (length h)) time (act.Close s)) (ended_tells (IsLiveNow h) (suc (length h)) time s (histories.book_after 0 [] h) m)
act_tells h time (act.Expire s) m l =
    gives_since (λ t. IsLiveNow h t × (s ≢ t)) (IsLiveNow (h ++ (time, act.Expire s) ∷ [])) (λ t k. live_kept h (time, act.Expire s) t (differs s t k.1) k.0) (books.acted (histories.book_after 0 [] h) (suc (length h)) time (act.Expire s)) (ended_tells (IsLiveNow h) (suc (length h)) time s (histories.book_after 0 [] h) m)
act_tells h time (act.Keep s) m l =
    gives_since (IsLiveNow h) (IsLiveNow (h ++ (time, act.Keep s) ∷ [])) (λ t k. live_kept h (time, act.Keep s) t refl k) (books.acted (histories.book_after 0 [] h) (suc (length h)) time (act.Keep s)) (other_tells (IsLiveNow h) time (histories.book_after 0 [] h) m)
act_tells h time (act.Open c o) m l =
    gives_since (IsLiveNow h) (IsLiveNow (h ++ (time, act.Open c o) ∷ [])) (λ t k. live_kept h (time, act.Open c o) t refl k) (books.acted (histories.book_after 0 [] h) (suc (length h)) time (act.Open c o)) (other_tells (IsLiveNow h) time (histories.book_after 0 [] h) m)
act_tells h time act.Nothing m l =
    gives_since (IsLiveNow h) (IsLiveNow (h ++ (time, act.Nothing) ∷ [])) (λ t k. live_kept h (time, act.Nothing) t refl k) (books.acted (histories.book_after 0 [] h) (suc (length h)) time act.Nothing) (other_tells (IsLiveNow h) time (histories.book_after 0 [] h) m)

-- all that a history's book may tell is live
pub book_tells_live : (h : histories.History) → OfLive h → AllMayTell (IsLiveNow h) (histories.book_after 0 [] h)
book_tells_live h = by_last (λ g. OfLive g → AllMayTell (IsLiveNow g) (histories.book_after 0 [] g)) (λ o. tt) more h
  where
    more : (g : histories.History) (a : ℕ × Act) → (OfLive g → AllMayTell (IsLiveNow g) (histories.book_after 0 [] g)) → OfLive (g ++ a ∷ []) → AllMayTell (IsLiveNow (g ++ a ∷ [])) (histories.book_after 0 [] (g ++ a ∷ []))
    more g a next o =
        let t = act_tells g a.0 a.1 (next (live_before g (a ∷ []) o)) (own_live g a (histories.session_of a.1) (o (suc (length g)) a (at_end g a []))) in
        subst (AllMayTell (IsLiveNow (g ++ a ∷ []))) (sym (book_next g a)) t.0

pub last_told_live : (h : histories.History) (a : ℕ × Act) → OfLive (h ++ a ∷ []) → AreTold (IsLiveNow (h ++ a ∷ [])) (books.acted (histories.book_after 0 [] h) (suc (length h)) a.0 a.1).turn.told
last_told_live h a o = (act_tells h a.0 a.1 (book_tells_live h (live_before h (a ∷ []) o)) (own_live h a (histories.session_of a.1) (o (suc (length h)) a (at_end h a [])))).1

-- one session among those that are told
equal : (s t : ℕ) → nat_eq s t ≡ true → s ≡ t
equal s t e = grind (arith, nat_tests)

pub told_passes : (P : ℕ → Type 0) (s : ℕ) (told : List (ℕ × Event)) → AreTold P told → (histories.events_for s told ≡ []) ⊎ P s
told_passes P s [] h = inl refl
told_passes P s (t ∷ told) h = go (told_passes P s told h.1) (nat_eq s t.0) refl
  where
    go : (histories.events_for s told ≡ []) ⊎ P s → (b : Bool) → nat_eq s t.0 ≡ b → (map (λ e. e.1) (cond b (t ∷ filter (λ e. nat_eq s e.0) told) (filter (λ e. nat_eq s e.0) told)) ≡ []) ⊎ P s
    go next true e = inr (subst P (sym (equal s t.0 e)) h.0)
    go next false e = next

there : (h : histories.History) (k s : ℕ) (a : ℕ × Act) → OfLive h → lists.at_place h (suc k) ≡ Some a → (histories.told_at h (suc k) s ≡ []) ⊎ IsTrue (histories.is_live h (suc k) s)
there h k s a o e =
    let g : histories.History = take k h in
    let r : histories.History = drop (suc k) h in
    let is : h ≡ (g ++ a ∷ []) ++ r = at_split h k a e in
    let w = at_some h (suc k) a e in
    let long : length g ≡ k = length-take-le k h (omega arith) in
    let l : suc k ≤ length (g ++ a ∷ []) = omega (arith, Rattle.std.proofs.lemmas.List.length-append g (a ∷ [])) in
    let m : length (g ++ a ∷ []) ≡ suc k = omega (arith, Rattle.std.proofs.lemmas.List.length-append g (a ∷ [])) in
    let told : histories.told_at h (suc k) s ≡ histories.told_at (g ++ a ∷ []) (suc k) s = ap (λ x. histories.told_at x (suc k) s) is ∙ told_grown (g ++ a ∷ []) r (suc k) s l in
    let live : histories.is_live h (suc k) s ≡ histories.is_live (g ++ a ∷ []) (suc k) s = ap (λ x. histories.is_live x (suc k) s) is ∙ live_grown (g ++ a ∷ []) r (suc k) s l in
    let here : histories.told_at (g ++ a ∷ []) (suc k) s ≡ histories.events_for s (books.acted (histories.book_after 0 [] g) (suc (length g)) a.0 a.1).turn.told = ap (λ n. histories.told_at (g ++ a ∷ []) (suc n) s) (sym long) ∙ ap (histories.told_of s) (turn_next g a) in
    elim (told_passes (IsLiveNow (g ++ a ∷ [])) s _ (last_told_live g a (live_before (g ++ a ∷ []) r (subst OfLive is o)))) [
      | inl z ↦ inl (told ∙ here ∙ z)
      | inr z ↦ inr (live ∙ ap (λ n. histories.is_live (g ++ a ∷ []) n s) (sym m) ∙ live_end (g ++ a ∷ []) s ∙ z)
    ]

pub live_told : (h : histories.History) (p s : ℕ) → OfLive h → (histories.told_at h p s ≡ []) ⊎ IsTrue (histories.is_live h p s)
live_told h zero s o = inl refl
live_told h (suc k) s o = go (lists.at_place h (suc k)) refl
  where
    go : (x : Option (ℕ × Act)) → lists.at_place h (suc k) ≡ x → (histories.told_at h (suc k) s ≡ []) ⊎ IsTrue (histories.is_live h (suc k) s)
    go None e = inl (ap (λ x. histories.told_of s (histories.turn_there h (suc k) x)) e)
    go (Some a) e = there h k s a o e

pub only_live_are_told : laws.OnlyLiveAreTold
only_live_are_told timeout h lawful p s = live_told h p s lawful.live
