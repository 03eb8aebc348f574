-- What is shown, with the calls that are left open behind it.
use Rattle.std.proofs.Common.{◌≡◌, ℕ, suc, ◌+◌, max, List, [], ◌∷◌, ◌++◌, map, reverse, filter, refl, ap, sym, ◌∙◌, subst, arith, ⊎_elim, append-nil, append_assoc}
use Rattle.std.specs.Prelude.{cond, not, is_some, false, flat_map}
use Rattle.std.specs.List.{AllByRecursion, list_any}
use Rattle.std.proofs.lemmas.List.Elements.{filter-append}
use Rattle.std.proofs.lemmas.Grind.{flat_map-append}
use Rattle.ax_types.specs.declared.items.Item.{Item}
use Rattle.ax_types.specs.declared.items.Item.TheVariants as item
use Rattle.ax_types.specs.declared.replies.How.TheVariants as how
use Rattle.ax_types.specs.declared.ops.WindowCall.{WindowCall}
use Rattle.ax_types.specs.declared.steps.KeptStep.{KeptStep}
use Rattle.ax_types.specs.declared.steps.WatchKind.{WatchKind}
use Rattle.spec_book.specs.History as histories
use Rattle.spec_claims.specs.Transcript as transcripts
use Rattle.spec_claims.specs.Once as once
use Rattle.spec_claims.specs.Right as claims_right
use Rattle.spec_claims.specs.FreshReads as fresh_reads
use Rattle.spec_claims.specs.Heard as claims_heard
use Rattle.spec_claims.specs.OutcomeOrder as outcome_order
use Rattle.spec_claims.specs.Faithful as faithful
use Rattle.spec_run.specs.Run as runs
use Rattle.law_release.proofs.Tests.{off}
use Rattle.law_client.proofs.Shown.{outcomes_same, outcomes_more, some_below, none_below, below_more}
use Rattle.law_items.proofs.Below.{below, each_append, greatest_item, count_cons}
use Rattle.law_faithful.proofs.Runs.{runs_are_faithful}
use Rattle.law_race.specs.LeftOpen as laws
use Rattle.law_race.proofs.Open.{open_items, follows, if_some, answered, numbered, calls_stand, open_outcomes}

-- what holds of each such item
each_open : (P : List Item → Item → Type 0) (s : ℕ) → ((above : List Item) (n : ℕ) → P above (item.Unanswered s n)) → (above : List Item) (cs : List (ℕ × WindowCall)) → transcripts.EachBelow P above (open_items s cs)
each_open P s f above [] = tt
each_open P s f above (c ∷ cs) = (f above c.0, each_open P s f (item.Unanswered s c.0 ∷ above) cs)

more : (P : List Item → Item → Type 0) (s : ℕ) → ((above : List Item) (n : ℕ) → P above (item.Unanswered s n)) → (early : List Item) (cs : List (ℕ × WindowCall)) → transcripts.EachItem P early → transcripts.EachItem P (early ++ open_items s cs)
more P s f early cs h = each_append P [] early (open_items s cs) h (each_open P s f (below [] early) cs)

-- they call nothing, no session hears of them, and they open and commit nothing
flat_same : {X : Type 0} (f : Item → List X) (s : ℕ) → ((n : ℕ) → f (item.Unanswered s n) ≡ []) → (early : List Item) (cs : List (ℕ × WindowCall)) → flat_map f (early ++ open_items s cs) ≡ flat_map f early
flat_same {X = X} f s none early cs = flat_map-append f early (open_items s cs) ∙ ap (λ ys. flat_map f early ++ ys) (nothing cs) ∙ append-nil (flat_map f early)
  where
    nothing : (cs : List (ℕ × WindowCall)) → flat_map f (open_items s cs) ≡ []
    nothing [] = refl
    nothing (c ∷ cs) = ap (λ ys. ys ++ flat_map f (open_items s cs)) (none c.0) ∙ nothing cs

none_committed : (s : ℕ) (cs : List (ℕ × WindowCall)) → transcripts.greatest_commit (open_items s cs) ≡ 0
none_committed s [] = refl
none_committed s (c ∷ cs) = none_committed s cs

commits_same : (s : ℕ) (early : List Item) (cs : List (ℕ × WindowCall)) → transcripts.greatest_commit (early ++ open_items s cs) ≡ transcripts.greatest_commit early
commits_same s [] cs = none_committed s cs
commits_same s (x ∷ early) cs = greatest_item x (early ++ open_items s cs) ∙ ap (λ n. max (transcripts.greatest_commit (x ∷ [])) n) (commits_same s early cs) ∙ sym (greatest_item x early)

-- outcomes
count_below : (s : ℕ) (above xs : List Item) → transcripts.outcome_count s (below above xs) ≡ transcripts.outcome_count s above + transcripts.outcome_count s xs
count_below s above [] = let z : transcripts.outcome_count s [] ≡ 0 = refl in omega (arith, z)
count_below s above (x ∷ xs) =
    let p = λ (y : Item). is_some (transcripts.outcome_of s y) in
    let rest = count_below s (x ∷ above) xs in
    let up : transcripts.outcome_count s (x ∷ above) ≡ cond (is_some (transcripts.outcome_of s x)) 1 0 + transcripts.outcome_count s above = count_cons p x above in
    let own : transcripts.outcome_count s (x ∷ xs) ≡ cond (is_some (transcripts.outcome_of s x)) 1 0 + transcripts.outcome_count s xs = count_cons p x xs in
    omega (arith, rest, up, own)

all_low : (s : ℕ) (above xs : List Item) → transcripts.EachBelow (outcome_order.IsGapless s) above xs → AllByRecursion (outcome_order.IsBelowNumber s (suc (transcripts.outcome_count s above))) above
    → AllByRecursion (outcome_order.IsBelowNumber s (suc (transcripts.outcome_count s (below above xs)))) (below above xs)
all_low s above [] g low = low
all_low s above (x ∷ xs) g low =
    all_low s (x ∷ above) xs g.1
    (⊎_elim
    (λ e. let up = outcomes_same s x above e in (none_below s (suc (transcripts.outcome_count s (x ∷ above))) x e, below_more s (suc (transcripts.outcome_count s above)) (suc (transcripts.outcome_count s (x ∷ above))) (omega (arith, up)) above low))
    (λ e.
    let up = outcomes_more s e.0 x above e.1 in
    let number = follows s e.0 above x e.1 g.0 in
    (some_below s e.0 (suc (transcripts.outcome_count s (x ∷ above))) x e.1 (omega (arith, up, number)), below_more s (suc (transcripts.outcome_count s above)) (suc (transcripts.outcome_count s (x ∷ above))) (omega (arith, up)) above low))
    (if_some (transcripts.outcome_of s x)))

each_part : (P R : List Item → Item → Type 0) → ((above : List Item) (x : Item) → P above x → R above x) → (above xs : List Item) → transcripts.EachBelow P above xs → transcripts.EachBelow R above xs
each_part P R f above [] h = tt
each_part P R f above (x ∷ xs) h = (f above x h.0, each_part P R f (x ∷ above) xs h.1)

outcomes : (s : ℕ) (early : List Item) → ((t : ℕ) → transcripts.EachItem (outcome_order.IsOutcome t) early) → (t : ℕ) → transcripts.EachItem (outcome_order.IsOutcome t) (early ++ open_items s (transcripts.unanswered s early))
outcomes s early h t =
    let k : ℕ = transcripts.outcome_count s early in
    let gapless : transcripts.EachItem (outcome_order.IsGapless s) early = each_part (outcome_order.IsOutcome s) (outcome_order.IsGapless s) (λ above x o. o.2) [] early (h s) in
    let called : transcripts.EachItem (outcome_order.IsNumbered s) early = each_part (outcome_order.IsOutcome s) (outcome_order.IsNumbered s) (λ above x o. o.0) [] early (h s) in
    let z : transcripts.outcome_count s [] ≡ 0 = refl in
    let b = count_below s [] early in
    let count : transcripts.outcome_count s (below [] early) ≡ max k 0 = omega (arith, b, z) in
    let low = all_low s [] early gapless tt in
    each_append (outcome_order.IsOutcome t) [] early (open_items s (transcripts.unanswered s early)) (h t)
    (open_outcomes s k early (λ n. answered s n [] early gapless) refl 0 (below [] early) (transcripts.calls s early) count
    (subst (λ m. AllByRecursion (outcome_order.IsBelowNumber s (suc m)) (below [] early)) count low) (numbered s [] early called) (calls_stand s [] early) t)

-- what is faithful stays so
goes_on : (timeout s : ℕ) (shown new : List transcripts.Shown) (h : histories.History) → faithful.IsFaithful timeout shown h → transcripts.transcript new ≡ transcripts.transcript shown ++ laws.left_open s shown → claims_heard.AreWatched new → outcome_order.AreEnds new
    → faithful.IsFaithful timeout new h
goes_on timeout s shown new h f e watched ends =
    let early : List Item = transcripts.transcript shown in
    let cs : List (ℕ × WindowCall) = transcripts.unanswered s early in
    record {
      lawful = f.lawful;
      right = subst (transcripts.EachItem (claims_right.IsRight h)) (sym e) (more (claims_right.IsRight h) s (λ above n. tt) early cs f.right);
      committed = subst (transcripts.EachItem claims_right.IsCommitted) (sym e) (more claims_right.IsCommitted s (λ above n. tt) early cs f.committed);
      ordered = subst (transcripts.EachItem claims_right.IsOrdered) (sym e) (more claims_right.IsOrdered s (λ above n. tt) early cs f.ordered);
      fresh = subst (transcripts.EachItem fresh_reads.IsFresh) (sym e) (more fresh_reads.IsFresh s (λ above n. tt) early cs f.fresh);
      watched = watched;
      ends = ends;
      sessions = λ t. record {
        once = record {
          in_order = subst (λ cs. once.Begins (map (λ d. d.1) (histories.dos h t)) (flat_map once.command_of cs)) (sym (ap (λ xs. transcripts.calls t xs) e ∙ flat_same (transcripts.called_by t) s (λ n. refl) early cs)) (f.sessions t).once.in_order;
          called_before = subst (transcripts.EachItem (once.IsCalledBefore h t)) (sym e) (more (once.IsCalledBefore h t) s (λ above n. tt) early cs (f.sessions t).once.called_before);
        };
        growing = subst (transcripts.EachItem (fresh_reads.IsGrowing h t)) (sym e) (more (fresh_reads.IsGrowing h t) s (λ above n. tt) early cs (f.sessions t).growing);
        heard = record {
          in_order = subst (λ ys. once.Begins ys (histories.events h t)) (sym (ap (λ xs. claims_heard.heard t xs) e ∙ flat_same (claims_heard.heard_by t) s (λ n. refl) early cs)) (f.sessions t).heard.in_order;
          before_responses = subst (transcripts.EachItem (claims_heard.IsAfterEvents h t)) (sym e) (more (claims_heard.IsAfterEvents h t) s (λ above n. tt) early cs (f.sessions t).heard.before_responses);
        };
        outcomes = subst (transcripts.EachItem (outcome_order.IsOutcome t)) (sym e) (outcomes s early (λ u. (f.sessions u).outcomes) t);
        in_session = subst (transcripts.EachItem (outcome_order.IsInSession h t)) (sym e) (more (outcome_order.IsInSession h t) s (λ above n. tt) early cs (f.sessions t).in_session);
      };
      whole = f.whole ∙ sym (ap (λ xs. transcripts.greatest_commit xs) e ∙ commits_same s early cs);
    }

-- a group of their own
unwatched : (watches : List (ℕ × WatchKind)) (known : List (ℕ × ℕ)) (s : ℕ) (cs : List (ℕ × WindowCall)) → open_items s cs ≡ claims_heard.with_watched watches known (filter (λ x. not (claims_heard.is_watched x)) (open_items s cs))
unwatched watches known s [] = refl
unwatched watches known s (c ∷ cs) = ap (λ xs. item.Unanswered s c.0 ∷ xs) (unwatched watches known s cs)

own_watched : (k : KeptStep) (s : ℕ) (cs : List (ℕ × WindowCall)) (watches : List (ℕ × WatchKind)) (opened : List (ℕ × ℕ)) (shown : List transcripts.Shown) → claims_heard.AreWatchedFrom watches opened shown
    → claims_heard.AreWatchedFrom watches opened (laws.in_own_group k (open_items s cs) shown)
own_watched k s cs watches opened [] w = (unwatched watches (opened ++ flat_map claims_heard.opened_by (open_items s cs)) s cs, tt)
own_watched k s cs watches opened (m ∷ shown) w = (w.0, own_watched k s cs (claims_heard.watches_after watches m.step.step m.items) (opened ++ flat_map claims_heard.opened_by m.items) shown w.1)

none_end : (above : List Item) (s : ℕ) (cs : List (ℕ × WindowCall)) → outcome_order.EndsStep above (open_items s cs)
none_end above s [] = tt
none_end above s (c ∷ cs) = none_end (item.Unanswered s c.0 ∷ above) s cs

own_ends : (k : KeptStep) (s : ℕ) (cs : List (ℕ × WindowCall)) (above : List Item) (shown : List transcripts.Shown) → outcome_order.EndsFrom above shown → outcome_order.EndsFrom above (laws.in_own_group k (open_items s cs) shown)
own_ends k s cs above [] e = (none_end above s cs, tt)
own_ends k s cs above (m ∷ shown) e = (e.0, own_ends k s cs (reverse m.items ++ above) shown e.1)

own_transcript : (k : KeptStep) (items : List Item) (shown : List transcripts.Shown) → transcripts.transcript (laws.in_own_group k items shown) ≡ transcripts.transcript shown ++ items
own_transcript k items shown = flat_map-append (λ (m : transcripts.Shown). m.items) shown ((record { step = k; items = items }) ∷ []) ∙ ap (λ xs. transcripts.transcript shown ++ xs) (append-nil items)

-- behind the last step
last_transcript : (items : List Item) (m : transcripts.Shown) (shown : List transcripts.Shown) → transcripts.transcript (laws.behind_last items (m ∷ shown)) ≡ transcripts.transcript (m ∷ shown) ++ items
last_transcript items m [] = append-nil (m.items ++ items) ∙ ap (λ xs. xs ++ items) (sym (append-nil m.items))
last_transcript items m (n ∷ shown) = ap (λ xs. m.items ++ xs) (last_transcript items n shown) ∙ sym (append_assoc m.items (transcripts.transcript (n ∷ shown)) items)

step_ends : (s : ℕ) (cs : List (ℕ × WindowCall)) (above items : List Item) → list_any laws.is_expiry items ≡ false → outcome_order.EndsStep above items → outcome_order.EndsStep above (items ++ open_items s cs)
step_ends s cs above [] e k = none_end above s cs
step_ends s cs above (item.Ended t p how.Expired ∷ items) e k = absurd (off e)
step_ends s cs above (item.Ended t p how.Closed ∷ items) e k = (k.0, step_ends s cs (item.Ended t p how.Closed ∷ above) items e k.1)
step_ends s cs above (item.Doubt t n ∷ items) e k = absurd k
step_ends s cs above (item.Lost t n ∷ items) e k = absurd k
step_ends s cs above (x ∷ items) e k = step_ends s cs (x ∷ above) items e k

last_ends : (s : ℕ) (cs : List (ℕ × WindowCall)) (above : List Item) (shown : List transcripts.Shown) → laws.ends_in_expiry shown ≡ false → outcome_order.EndsFrom above shown → outcome_order.EndsFrom above (laws.behind_last (open_items s cs) shown)
last_ends s cs above [] e k = tt
last_ends s cs above (m ∷ []) e k = (step_ends s cs above m.items e k.0, tt)
last_ends s cs above (m ∷ n ∷ shown) e k = (k.0, last_ends s cs (reverse m.items ++ above) (n ∷ shown) e k.1)

step_watched : (s : ℕ) (cs : List (ℕ × WindowCall)) (watches : List (ℕ × WatchKind)) (opened : List (ℕ × ℕ)) (items : List Item)
    → items ≡ claims_heard.with_watched watches (opened ++ flat_map claims_heard.opened_by items) (filter (λ x. not (claims_heard.is_watched x)) items)
    → items ++ open_items s cs ≡ claims_heard.with_watched watches (opened ++ flat_map claims_heard.opened_by (items ++ open_items s cs)) (filter (λ x. not (claims_heard.is_watched x)) (items ++ open_items s cs))
step_watched s cs watches opened items w =
    let us : List Item = open_items s cs in
    let known : List (ℕ × ℕ) = opened ++ flat_map claims_heard.opened_by items in
    let test = λ (x : Item). not (claims_heard.is_watched x) in
    ap (λ xs. xs ++ us) w
    ∙ ap (λ ys. claims_heard.with_watched watches known (filter test items) ++ ys) (unwatched watches known s cs)
    ∙ sym (flat_map-append (λ x. x ∷ claims_heard.watched_below watches known x) (filter test items) (filter test us))
    ∙ ap (λ xs. claims_heard.with_watched watches known xs) (sym (filter-append test items us))
    ∙ ap (λ o. claims_heard.with_watched watches (opened ++ o) (filter test (items ++ us))) (sym (flat_same claims_heard.opened_by s (λ n. refl) items cs))

last_watched : (s : ℕ) (cs : List (ℕ × WindowCall)) (watches : List (ℕ × WatchKind)) (opened : List (ℕ × ℕ)) (shown : List transcripts.Shown) → claims_heard.AreWatchedFrom watches opened shown
    → claims_heard.AreWatchedFrom watches opened (laws.behind_last (open_items s cs) shown)
last_watched s cs watches opened [] w = tt
last_watched s cs watches opened (m ∷ []) w = (step_watched s cs watches opened m.items w.0, tt)
last_watched s cs watches opened (m ∷ n ∷ shown) w = (w.0, last_watched s cs (claims_heard.watches_after watches m.step.step m.items) (opened ++ flat_map claims_heard.opened_by m.items) (n ∷ shown) w.1)

behind : (timeout s : ℕ) (shown : List transcripts.Shown) (h : histories.History) → faithful.IsFaithful timeout shown h → laws.ends_in_expiry shown ≡ false → faithful.IsFaithful timeout (laws.behind_last (laws.left_open s shown) shown) h
behind timeout s [] h f e = f
behind timeout s (m ∷ shown) h f e =
    let items : List Item = laws.left_open s (m ∷ shown) in
    let cs : List (ℕ × WindowCall) = transcripts.unanswered s (transcripts.transcript (m ∷ shown)) in
    goes_on timeout s (m ∷ shown) (laws.behind_last items (m ∷ shown)) h f (last_transcript items m shown) (last_watched s cs [] [] (m ∷ shown) f.watched) (last_ends s cs [] (m ∷ shown) e f.ends)

in_own : (timeout s : ℕ) (shown : List transcripts.Shown) (h : histories.History) (k : KeptStep) → faithful.IsFaithful timeout shown h → faithful.IsFaithful timeout (laws.in_own_group k (laws.left_open s shown) shown) h
in_own timeout s shown h k f =
    let items : List Item = laws.left_open s shown in
    let cs : List (ℕ × WindowCall) = transcripts.unanswered s (transcripts.transcript shown) in
    goes_on timeout s shown (laws.in_own_group k items shown) h f (own_transcript k items shown) (own_watched k s cs [] [] shown f.watched) (own_ends k s cs [] shown f.ends)

-- nothing to tell
nothing_behind : (shown : List transcripts.Shown) → laws.behind_last [] shown ≡ shown
nothing_behind [] = refl
nothing_behind (m ∷ []) = ap (λ xs. (record { step = m.step; items = xs }) ∷ []) (append-nil m.items)
nothing_behind (m ∷ n ∷ shown) = ap (λ ms. m ∷ ms) (nothing_behind (n ∷ shown))

none_left : (timeout s : ℕ) (shown : List transcripts.Shown) (h : histories.History) → faithful.IsFaithful timeout shown h → laws.left_open s shown ≡ [] → faithful.IsFaithful timeout (laws.behind_last (laws.left_open s shown) shown) h
none_left timeout s shown h f e = subst (λ ms. faithful.IsFaithful timeout ms h) (sym (ap (λ xs. laws.behind_last xs shown) e ∙ nothing_behind shown)) f

pub races_are_faithful : laws.RacesAreFaithful
races_are_faithful nodes clients timeout s steps =
    let r : runs.Ran = runs.run nodes clients timeout steps in
    let f = runs_are_faithful nodes clients timeout steps in
    record { in_own = λ k. in_own timeout s r.shown r.world.history k f; behind = λ c. ⊎_elim (λ e. behind timeout s r.shown r.world.history f e) (λ e. none_left timeout s r.shown r.world.history f e) c }
