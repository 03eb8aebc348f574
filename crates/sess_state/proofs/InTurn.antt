-- Sessions that are told in turn, the lowest first, are told all at once.
use Rattle.std.proofs.Common.{append_assoc, ◌≡◌, ℕ, zero, suc, ◌+◌, ◌<◌, ◌≤◌, ◌∙◌, refl, sym, ap, subst, arith, Bool, true, false, not, cond, nat_eq, nat_lt, length, List, [], ◌∷◌, ◌++◌, map, filter, Option, Some, None}
use Rattle.std.specs.Prelude.{find, if◌then◌else◌}
use Rattle.std.specs.List.{AllByRecursion}
use Rattle.std.proofs.lemmas.Bool.{ltb-true, ltb-false}
use Rattle.std.proofs.lemmas.List.{append-nil}
use Rattle.std.proofs.lemmas.Bool.Decides.{nat_tests}
use Rattle.ax_types.specs.declared.entries.Batch.{Batch}
use Rattle.ax_types.specs.declared.replies.Event.{Event}
use Rattle.spec_sessions.specs.Outboxes as outboxes
use Rattle.sess_state.specs.BoxOrder as box_order
use Rattle.sess_state.specs.Batching as batching
use Rattle.sess_state.proofs.BoxAt.{above_apart, below_apart, apart_above, same_number, number_same, AscendAbove-lower, Ascend-rest}

abbrev pub Told : Type 0
Told = List (ℕ × Event)

-- who is told from one session on, and who above it
abbrev pub ToldFrom : ℕ → Told → Type 0
ToldFrom session told = AllByRecursion (λ t. session ≤ t.0) told

abbrev pub ToldAbove : ℕ → Told → Type 0
ToldAbove session told = AllByRecursion (λ t. session < t.0) told

above_lower : (m n : ℕ) (told : Told) → m ≤ n → ToldFrom n told → ToldFrom m told
above_lower m n [] le from = tt
above_lower m n (t ∷ told) le from = (let first : n ≤ t.0 = from.0 in omega arith, above_lower m n told le from.1)

above_from : (m n : ℕ) (told : Told) → m < n → ToldFrom n told → ToldAbove m told
above_from m n [] lt from = tt
above_from m n (t ∷ told) lt from = (let first : n ≤ t.0 = from.0 in omega arith, above_from m n told lt from.1)

-- a session below all that are told is told nothing
none_told : (session : ℕ) (told : Told) → ToldAbove session told → outboxes.told_to session told ≡ []
none_told session [] above = refl
none_told session (t ∷ told) above = rw (above_apart session t.0 above.0) (none_told session told above.1)

-- what is beyond the first session's events
beyond_above : (session : ℕ) (told : Told) → ToldFrom session told → batching.RiseBySession told → ToldAbove session (batching.beyond session told)
beyond_above session [] from rise = tt
beyond_above session (t ∷ told) from rise = by_test (nat_eq t.0 session) refl (beyond_above session told from.1 rise.1)
  where
    by_test : (b : Bool) → nat_eq t.0 session ≡ b → ToldAbove session (batching.beyond session told) → ToldAbove session (if b then batching.beyond session told else t ∷ told)
    by_test true e rest = rest
    by_test false e rest =
        let first : session < t.0 = apart_above session t.0 from.0 e in
        (first, above_from session t.0 told first rise.0)

pub beyond_rise : (session : ℕ) (told : Told) → batching.RiseBySession told → batching.RiseBySession (batching.beyond session told)
beyond_rise session [] rise = tt
beyond_rise session (t ∷ told) rise = by_test (nat_eq t.0 session) (beyond_rise session told rise.1)
  where
    by_test : (b : Bool) → batching.RiseBySession (batching.beyond session told) → batching.RiseBySession (if b then batching.beyond session told else t ∷ told)
    by_test true rest = rest
    by_test false rest = rise

beyond_all : (P : ℕ × Event → Type 0) (session : ℕ) (told : Told) → AllByRecursion P told → AllByRecursion P (batching.beyond session told)
beyond_all P session [] all = tt
beyond_all P session (t ∷ told) all = by_test (nat_eq t.0 session) (beyond_all P session told all.1)
  where
    by_test : (b : Bool) → AllByRecursion P (batching.beyond session told) → AllByRecursion P (if b then batching.beyond session told else t ∷ told)
    by_test true rest = rest
    by_test false rest = all

told_beyond : (session other : ℕ) (told : Told) → nat_eq other session ≡ false → outboxes.told_to other (batching.beyond session told) ≡ outboxes.told_to other told
told_beyond session other [] apart = refl
told_beyond session other (t ∷ told) apart = by_test (nat_eq t.0 session) refl (told_beyond session other told apart)
  where
    another : nat_eq t.0 session ≡ true → nat_eq t.0 other ≡ false
    another e = by_other (nat_eq t.0 other) refl
      where
        by_other : (b : Bool) → nat_eq t.0 other ≡ b → b ≡ false
        by_other true is = absurd (let here : t.0 ≡ session = number_same session t.0 e in let there : t.0 ≡ other = number_same other t.0 is in let again : nat_eq other session ≡ true = same_number session other (sym there ∙ here) in cc)
        by_other false is = refl

    by_test : (b : Bool) → nat_eq t.0 session ≡ b → outboxes.told_to other (batching.beyond session told) ≡ outboxes.told_to other told
        → outboxes.told_to other (if b then batching.beyond session told else t ∷ told) ≡ outboxes.told_to other (t ∷ told)
    by_test true e rest = rw (another e) rest
    by_test false e rest = refl

told_foremost : (session : ℕ) (told : Told) → ToldFrom session told → batching.RiseBySession told → outboxes.told_to session told ≡ batching.foremost session told
told_foremost session [] from rise = refl
told_foremost session (t ∷ told) from rise = by_test (nat_eq t.0 session) refl (told_foremost session told from.1 rise.1)
  where
    by_test : (b : Bool) → nat_eq t.0 session ≡ b → outboxes.told_to session told ≡ batching.foremost session told
        → map (λ (u : ℕ × Event). u.1) (cond b (t ∷ filter (λ u. nat_eq u.0 session) told) (filter (λ u. nat_eq u.0 session) told)) ≡ (if b then t.1 ∷ batching.foremost session told else [])
    by_test true e rest = ap (λ (es : List Event). t.1 ∷ es) rest
    by_test false e rest = let first : session < t.0 = apart_above session t.0 from.0 e in none_told session told (above_from session t.0 told first rise.0)

head_leads : (t : ℕ × Event) (told : Told) → batching.foremost t.0 (t ∷ told) ≡ t.1 ∷ batching.foremost t.0 told
head_leads t told = rw (same_number t.0 t.0 refl) refl

-- telling the first session, and then the others
abbrev pub first_told : ℕ → ℕ → Told → outboxes.Outbox → outboxes.Outbox
first_told place session told o = if nat_eq o.session session then batching.batched place (batching.foremost session told) o else o

box_step : (place : ℕ) (t : ℕ × Event) (told : Told) (o : outboxes.Outbox) → batching.RiseBySession (t ∷ told)
    → (let p = first_told place t.0 (t ∷ told) o in outboxes.box_with place (outboxes.told_to p.session (batching.beyond t.0 (t ∷ told))) p) ≡ outboxes.box_with place (outboxes.told_to o.session (t ∷ told)) o
box_step place t told o rise = by_test (nat_eq o.session t.0) refl
  where
    from : ToldFrom t.0 (t ∷ told)
    from = (omega arith, rise.0)

    by_test : (b : Bool) → nat_eq o.session t.0 ≡ b
        → (let p : outboxes.Outbox = (if b then batching.batched place (batching.foremost t.0 (t ∷ told)) o else o) in outboxes.box_with place (outboxes.told_to p.session (batching.beyond t.0 (t ∷ told))) p)
        ≡ outboxes.box_with place (outboxes.told_to o.session (t ∷ told)) o
    by_test true e =
        let same : o.session ≡ t.0 = number_same t.0 o.session e in
        let after : outboxes.told_to o.session (batching.beyond t.0 (t ∷ told)) ≡ [] =
        subst (λ (n : ℕ). outboxes.told_to n (batching.beyond t.0 (t ∷ told)) ≡ []) (sym same) (none_told t.0 (batching.beyond t.0 (t ∷ told)) (beyond_above t.0 (t ∷ told) from rise)) in
        let before : outboxes.told_to o.session (t ∷ told) ≡ t.1 ∷ batching.foremost t.0 told =
        subst (λ (n : ℕ). outboxes.told_to n (t ∷ told) ≡ t.1 ∷ batching.foremost t.0 told) (sym same) (told_foremost t.0 (t ∷ told) from rise ∙ head_leads t told) in
        ap (λ (es : List Event). outboxes.box_with place es (batching.batched place (batching.foremost t.0 (t ∷ told)) o)) after
        ∙ (ap (λ (es : List Event). batching.batched place es o) (head_leads t told)
        ∙ sym (ap (λ (es : List Event). outboxes.box_with place es o) before))
    by_test false e = ap (λ (es : List Event). outboxes.box_with place es o) (told_beyond t.0 o.session (t ∷ told) e)

pub all_told-step : (place : ℕ) (t : ℕ × Event) (told : Told) (boxes : List outboxes.Outbox) → batching.RiseBySession (t ∷ told)
    → outboxes.all_told place (batching.beyond t.0 (t ∷ told)) (outboxes.change_outbox (batching.batched place (batching.foremost t.0 (t ∷ told))) t.0 boxes) ≡ outboxes.all_told place (t ∷ told) boxes
all_told-step place t told [] rise = refl
all_told-step place t told (o ∷ boxes) rise =
    let first = box_step place t told o rise in
    let rest = all_told-step place t told boxes rise in
    ap (λ (b : outboxes.Outbox). b ∷ outboxes.all_told place (batching.beyond t.0 (t ∷ told)) (outboxes.change_outbox (batching.batched place (batching.foremost t.0 (t ∷ told))) t.0 boxes)) first
    ∙ ap (λ (bs : List outboxes.Outbox). outboxes.box_with place (outboxes.told_to o.session (t ∷ told)) o ∷ bs) rest

-- the batches of sessions above the first are those of what is beyond it
due_above : (place : ℕ) (session : ℕ) (told : Told) (f : outboxes.Outbox → outboxes.Outbox) (boxes : List outboxes.Outbox) → box_order.AscendAbove session boxes
    → outboxes.batches_due place told boxes ≡ outboxes.batches_due place (batching.beyond session told) (outboxes.change_outbox f session boxes)
due_above place session told f [] above = refl
due_above place session told f (o ∷ boxes) above =
    let first : session < o.session = above.0 in
    let apart : nat_eq o.session session ≡ false = above_apart session o.session first in
    let rest = due_above place session told f boxes (AscendAbove-lower session o.session boxes (omega arith) above.1) in
    rw apart (
    ap (λ (es : List Event). outboxes.batch_due place es o ++ outboxes.batches_due place told boxes) (sym (told_beyond session o.session told apart))
    ∙ ap (λ (bs : List (ℕ × Batch)). outboxes.batch_due place (outboxes.told_to o.session (batching.beyond session told)) o ++ bs) rest
    )

no_box_above : (session : ℕ) (boxes : List outboxes.Outbox) → box_order.AscendAbove session boxes → outboxes.outbox_of boxes session ≡ None
no_box_above session [] above = refl
no_box_above session (o ∷ boxes) above =
    let first : session < o.session = above.0 in
    rw (above_apart session o.session first) (no_box_above session boxes (AscendAbove-lower session o.session boxes (omega arith) above.1))

abbrev pub first_batch : ℕ → ℕ → Told → List outboxes.Outbox → List (ℕ × Batch)
first_batch place session told boxes = batching.own_batch session (batching.batch_for place (batching.foremost session told) (outboxes.outbox_of boxes session))

-- the batches after the first
abbrev other_batches : ℕ → ℕ × Event → Told → List outboxes.Outbox → List (ℕ × Batch)
other_batches place t told boxes =
    outboxes.batches_due place (batching.beyond t.0 (t ∷ told)) (outboxes.change_outbox (batching.batched place (batching.foremost t.0 (t ∷ told))) t.0 boxes)

-- the claim for one more outbox, by whether it is of the first session
abbrev DueAt : ℕ → ℕ × Event → Told → outboxes.Outbox → List outboxes.Outbox → Bool → Type 0
DueAt place t told o boxes b = outboxes.batches_due place (t ∷ told) (o ∷ boxes)
    ≡ batching.own_batch t.0 (batching.batch_for place (batching.foremost t.0 (t ∷ told)) (cond b (Some o) (outboxes.outbox_of boxes t.0)))
    ++ ((let p : outboxes.Outbox = (if b then batching.batched place (batching.foremost t.0 (t ∷ told)) o else o) in outboxes.batch_due place (outboxes.told_to p.session (batching.beyond t.0 (t ∷ told))) p)
    ++ other_batches place t told boxes)

pub due-step : (place : ℕ) (t : ℕ × Event) (told : Told) (boxes : List outboxes.Outbox) → batching.RiseBySession (t ∷ told) → box_order.Ascend boxes
    → outboxes.batches_due place (t ∷ told) boxes
    ≡ first_batch place t.0 (t ∷ told) boxes ++ outboxes.batches_due place (batching.beyond t.0 (t ∷ told)) (outboxes.change_outbox (batching.batched place (batching.foremost t.0 (t ∷ told))) t.0 boxes)
due-step place t told [] rise ascend = refl
due-step place t told (o ∷ boxes) rise ascend = by_test (nat_eq o.session t.0) refl (due-step place t told boxes rise (Ascend-rest o.session boxes ascend))
  where
    from : ToldFrom t.0 (t ∷ told)
    from = (omega arith, rise.0)

    by_order : outboxes.batches_due place (t ∷ told) boxes ≡ first_batch place t.0 (t ∷ told) boxes ++ other_batches place t told boxes
        → nat_eq o.session t.0 ≡ false → (b : Bool) → nat_lt o.session t.0 ≡ b → DueAt place t told o boxes false
    by_order same e true less =
        let lt : o.session < t.0 = ltb-true _ _ less in
        let quiet : outboxes.told_to o.session (t ∷ told) ≡ [] = none_told o.session (t ∷ told) (above_from o.session t.0 (t ∷ told) lt from) in
        let still : outboxes.told_to o.session (batching.beyond t.0 (t ∷ told)) ≡ [] =
        none_told o.session (batching.beyond t.0 (t ∷ told)) (beyond_all (λ u. o.session < u.0) t.0 (t ∷ told) (above_from o.session t.0 (t ∷ told) lt from)) in
        ap (λ (es : List Event). outboxes.batch_due place es o ++ outboxes.batches_due place (t ∷ told) boxes) quiet
        ∙ (same
        ∙ sym (ap (λ (es : List Event). first_batch place t.0 (t ∷ told) boxes ++ (outboxes.batch_due place es o ++ other_batches place t told boxes)) still))
    by_order same e false less =
        let le : t.0 ≤ o.session = ltb-false _ _ less in
        let above : box_order.AscendAbove t.0 boxes = AscendAbove-lower t.0 o.session boxes le ascend in
        let none : outboxes.outbox_of boxes t.0 ≡ None = no_box_above t.0 boxes above in
        let rest : outboxes.batches_due place (t ∷ told) (o ∷ boxes) ≡ outboxes.batch_due place (outboxes.told_to o.session (batching.beyond t.0 (t ∷ told))) o ++ other_batches place t told boxes =
        ap (λ (es : List Event). outboxes.batch_due place es o ++ outboxes.batches_due place (t ∷ told) boxes) (sym (told_beyond t.0 o.session (t ∷ told) e))
        ∙ ap (λ (bs : List (ℕ × Batch)). outboxes.batch_due place (outboxes.told_to o.session (batching.beyond t.0 (t ∷ told))) o ++ bs)
        (due_above place t.0 (t ∷ told) (batching.batched place (batching.foremost t.0 (t ∷ told))) boxes above) in
        rest ∙ sym (ap (λ (x : Option outboxes.Outbox). batching.own_batch t.0 (batching.batch_for place (batching.foremost t.0 (t ∷ told)) x)
        ++ (outboxes.batch_due place (outboxes.told_to o.session (batching.beyond t.0 (t ∷ told))) o ++ other_batches place t told boxes)) none)

    by_test : (b : Bool) → nat_eq o.session t.0 ≡ b → outboxes.batches_due place (t ∷ told) boxes ≡ first_batch place t.0 (t ∷ told) boxes ++ other_batches place t told boxes
        → DueAt place t told o boxes b
    by_test true e later =
        let same : o.session ≡ t.0 = number_same t.0 o.session e in
        let above : box_order.AscendAbove t.0 boxes = subst (λ (n : ℕ). box_order.AscendAbove n boxes) same ascend in
        let after : outboxes.told_to o.session (batching.beyond t.0 (t ∷ told)) ≡ [] =
        subst (λ (n : ℕ). outboxes.told_to n (batching.beyond t.0 (t ∷ told)) ≡ []) (sym same) (none_told t.0 (batching.beyond t.0 (t ∷ told)) (beyond_above t.0 (t ∷ told) from rise)) in
        let before : outboxes.told_to o.session (t ∷ told) ≡ batching.foremost t.0 (t ∷ told) =
        subst (λ (n : ℕ). outboxes.told_to n (t ∷ told) ≡ batching.foremost t.0 (t ∷ told)) (sym same) (told_foremost t.0 (t ∷ told) from rise) in
        let one : outboxes.batch_due place (batching.foremost t.0 (t ∷ told)) o ≡ (o.session, outboxes.batch_of o.batches place (batching.foremost t.0 (t ∷ told))) ∷ [] =
        ap (λ (es : List Event). outboxes.batch_due place es o) (head_leads t told) ∙ sym (ap (λ (es : List Event). (o.session, outboxes.batch_of o.batches place es) ∷ []) (head_leads t told)) in
        let named : outboxes.batch_due place (outboxes.told_to o.session (t ∷ told)) o ≡ (t.0, outboxes.batch_of o.batches place (batching.foremost t.0 (t ∷ told))) ∷ [] =
        ap (λ (es : List Event). outboxes.batch_due place es o) before ∙ (one
        ∙ ap (λ (n : ℕ). (n, outboxes.batch_of o.batches place (batching.foremost t.0 (t ∷ told))) ∷ []) same) in
        let rest : outboxes.batches_due place (t ∷ told) boxes ≡ other_batches place t told boxes = due_above place t.0 (t ∷ told) (batching.batched place (batching.foremost t.0 (t ∷ told))) boxes above in
        ap (λ (bs : List (ℕ × Batch)). bs ++ outboxes.batches_due place (t ∷ told) boxes) named
        ∙ (ap (λ (bs : List (ℕ × Batch)). (t.0, outboxes.batch_of o.batches place (batching.foremost t.0 (t ∷ told))) ∷ bs) rest
        ∙ sym (ap (λ (es : List Event). (t.0, outboxes.batch_of o.batches place (batching.foremost t.0 (t ∷ told))) ∷ (outboxes.batch_due place es (batching.batched place (batching.foremost t.0 (t ∷ told)) o) ++ other_batches place t told boxes)) after))
    by_test false e later = by_order later e (nat_lt o.session t.0) refl

-- the others stay open
last_other : (place session other : ℕ) (events : List Event) (boxes : List outboxes.Outbox) → nat_eq other session ≡ false
    → outboxes.last_batch (outboxes.change_outbox (batching.batched place events) session boxes) other ≡ outboxes.last_batch boxes other
last_other place session other events [] apart = refl
last_other place session other events (o ∷ boxes) apart = by_test (nat_eq o.session session) refl (last_other place session other events boxes apart)
  where
    by_test : (b : Bool) → nat_eq o.session session ≡ b
        → outboxes.last_batch (outboxes.change_outbox (batching.batched place events) session boxes) other ≡ outboxes.last_batch boxes other
        → outboxes.last_batch ((if b then batching.batched place events o else o) ∷ outboxes.change_outbox (batching.batched place events) session boxes) other ≡ outboxes.last_batch (o ∷ boxes) other
    by_test true e rest =
        let same : o.session ≡ session = number_same session o.session e in
        let another : nat_eq o.session other ≡ false = subst (λ (n : ℕ). nat_eq n other ≡ false) (sym same) (turned other session apart) in
        rw another rest
      where
        turned : (m n : ℕ) → nat_eq m n ≡ false → nat_eq n m ≡ false
        turned m n e = grind (arith, nat_tests)
    by_test false e rest = by_other (nat_eq o.session other) rest
      where
        by_other : (b : Bool) → outboxes.last_batch (outboxes.change_outbox (batching.batched place events) session boxes) other ≡ outboxes.last_batch boxes other
            → outboxes.last_batch_in (cond b (Some o) (outboxes.outbox_of (outboxes.change_outbox (batching.batched place events) session boxes) other))
            ≡ outboxes.last_batch_in (cond b (Some o) (outboxes.outbox_of boxes other))
        by_other true rest = refl
        by_other false rest = rest

still_open : (place session : ℕ) (events : List Event) (told : Told) (boxes : List outboxes.Outbox) → ToldAbove session told
    → batching.AreOpen place told boxes → batching.AreOpen place told (outboxes.change_outbox (batching.batched place events) session boxes)
still_open place session events [] boxes above are = tt
still_open place session events (t ∷ told) boxes above are = (
  rw (last_other place session t.0 events boxes (above_apart session t.0 above.0)) are.0,
  still_open place session events told boxes above.1 are.1,
)

pub open-step : (place : ℕ) (t : ℕ × Event) (told : Told) (boxes : List outboxes.Outbox) → batching.RiseBySession (t ∷ told) → batching.AreOpen place (t ∷ told) boxes
    → batching.AreOpen place (batching.beyond t.0 (t ∷ told)) (outboxes.change_outbox (batching.batched place (batching.foremost t.0 (t ∷ told))) t.0 boxes)
open-step place t told boxes rise are =
    let from : ToldFrom t.0 (t ∷ told) = (omega arith, rise.0) in
    still_open place t.0 (batching.foremost t.0 (t ∷ told)) (batching.beyond t.0 (t ∷ told)) boxes (beyond_above t.0 (t ∷ told) from rise)
    (beyond_all (λ u. outboxes.last_batch boxes u.0 < place) t.0 (t ∷ told) are)

-- what is beyond is less
pub beyond_less : (session : ℕ) (told : Told) → length (batching.beyond session told) ≤ length told
beyond_less session [] = omega arith
beyond_less session (t ∷ told) = by_test (nat_eq t.0 session) (beyond_less session told)
  where
    by_test : (b : Bool) → length (batching.beyond session told) ≤ length told → length (if b then batching.beyond session told else t ∷ told) ≤ length (t ∷ told)
    by_test true le = omega arith
    by_test false le = omega arith

-- where nobody is told, there is no batch and nothing changes
pub quiet_due : (place : ℕ) (boxes : List outboxes.Outbox) → outboxes.batches_due place [] boxes ≡ []
quiet_due place [] = refl
quiet_due place (o ∷ boxes) = quiet_due place boxes

pub quiet_told : (place : ℕ) (boxes : List outboxes.Outbox) → outboxes.all_told place [] boxes ≡ boxes
quiet_told place [] = refl
quiet_told place (o ∷ boxes) = ap (λ (bs : List outboxes.Outbox). o ∷ bs) (quiet_told place boxes)

-- what is told each session is all that counts
pub same_due : (place : ℕ) (told sorted : Told) → ((session : ℕ) → outboxes.told_to session sorted ≡ outboxes.told_to session told) → (boxes : List outboxes.Outbox)
    → outboxes.batches_due place sorted boxes ≡ outboxes.batches_due place told boxes
same_due place told sorted same [] = refl
same_due place told sorted same (o ∷ boxes) =
    ap (λ (es : List Event). outboxes.batch_due place es o ++ outboxes.batches_due place sorted boxes) (same o.session)
    ∙ ap (λ (bs : List (ℕ × Batch)). outboxes.batch_due place (outboxes.told_to o.session told) o ++ bs) (same_due place told sorted same boxes)

pub same_told : (place : ℕ) (told sorted : Told) → ((session : ℕ) → outboxes.told_to session sorted ≡ outboxes.told_to session told) → (boxes : List outboxes.Outbox)
    → outboxes.all_told place sorted boxes ≡ outboxes.all_told place told boxes
same_told place told sorted same [] = refl
same_told place told sorted same (o ∷ boxes) =
    ap (λ (es : List Event). outboxes.box_with place es o ∷ outboxes.all_told place sorted boxes) (same o.session)
    ∙ ap (λ (bs : List outboxes.Outbox). outboxes.box_with place (outboxes.told_to o.session told) o ∷ bs) (same_told place told sorted same boxes)

-- where every batch is earlier than a place, all are open for it
last_earlier : (place session : ℕ) (boxes : List outboxes.Outbox) → 0 < place → AllByRecursion (λ o. o.batches.last < place) boxes → outboxes.last_batch boxes session < place
last_earlier place session [] positive earlier = positive
last_earlier place session (o ∷ boxes) positive earlier = by_test (nat_eq o.session session) (last_earlier place session boxes positive earlier.1)
  where
    by_test : (b : Bool) → outboxes.last_batch boxes session < place → outboxes.last_batch_in (cond b (Some o) (outboxes.outbox_of boxes session)) < place
    by_test true rest = earlier.0
    by_test false rest = rest

pub all_open : (place : ℕ) (told : Told) (boxes : List outboxes.Outbox) → 0 < place → AllByRecursion (λ o. o.batches.last < place) boxes → batching.AreOpen place told boxes
all_open place [] boxes positive earlier = tt
all_open place (t ∷ told) boxes positive earlier = (last_earlier place t.0 boxes positive earlier, all_open place told boxes positive earlier)

-- one turn, and the end
pub open_first : (place session : ℕ) (told : Told) (boxes : List outboxes.Outbox) → batching.first_session told ≡ Some session → batching.AreOpen place told boxes
    → outboxes.last_batch boxes session < place
open_first place session [] boxes first are = cc
open_first place session (t ∷ told) boxes first are = let same : t.0 ≡ session = cc in subst (λ (n : ℕ). outboxes.last_batch boxes n < place) same are.0

pub beyond_fewer : (session : ℕ) (told : Told) → batching.first_session told ≡ Some session → length (batching.beyond session told) < length told
beyond_fewer session [] first = cc
beyond_fewer session (t ∷ told) first =
    let same : t.0 ≡ session = cc in
    let le : length (batching.beyond session told) ≤ length told = beyond_less session told in
    rw (same_number session t.0 same) (omega arith)

abbrev pub Turning : ℕ → Told → List outboxes.Outbox → List (ℕ × Batch) → List (ℕ × Batch) → List outboxes.Outbox → Type 0
Turning place told boxes batches whole last =
    batching.RiseBySession told × batching.AreOpen place told boxes × (batches ++ outboxes.batches_due place told boxes ≡ whole) × (outboxes.all_told place told boxes ≡ last)

pub turn_step : (place session : ℕ) (told left : Told) (boxes later : List outboxes.Outbox) (batches more whole : List (ℕ × Batch)) (last : List outboxes.Outbox)
    → batching.first_session told ≡ Some session → box_order.Ascend boxes → Turning place told boxes batches whole last → left ≡ batching.beyond session told
    → more ≡ batches ++ batching.own_batch session (batching.batch_for place (batching.foremost session told) (outboxes.outbox_of boxes session))
    → later ≡ outboxes.change_outbox (batching.batched place (batching.foremost session told)) session boxes
    → Turning place left later more whole last
turn_step place session [] left boxes later batches more whole last first ascend turning el em eb = cc
turn_step place session (t ∷ told) left boxes later batches more whole last first ascend turning el em eb =
    let same : session ≡ t.0 = cc in
    let is_left : left ≡ batching.beyond t.0 (t ∷ told) = subst (λ (n : ℕ). left ≡ batching.beyond n (t ∷ told)) same el in
    let is_later : later ≡ outboxes.change_outbox (batching.batched place (batching.foremost t.0 (t ∷ told))) t.0 boxes =
    subst (λ (n : ℕ). later ≡ outboxes.change_outbox (batching.batched place (batching.foremost n (t ∷ told))) n boxes) same eb in
    let is_more : more ≡ batches ++ first_batch place t.0 (t ∷ told) boxes =
    subst (λ (n : ℕ). more ≡ batches ++ first_batch place n (t ∷ told) boxes) same em in
    let at_left : Turning place (batching.beyond t.0 (t ∷ told)) (outboxes.change_outbox (batching.batched place (batching.foremost t.0 (t ∷ told))) t.0 boxes)
    (batches ++ first_batch place t.0 (t ∷ told) boxes) whole last = (
      beyond_rise t.0 (t ∷ told) turning.0,
      open-step place t told boxes turning.0 turning.1,
      append_assoc batches (first_batch place t.0 (t ∷ told) boxes) (outboxes.batches_due place (batching.beyond t.0 (t ∷ told)) (outboxes.change_outbox (batching.batched place (batching.foremost t.0 (t ∷ told))) t.0 boxes))
          ∙ (ap (λ (bs : List (ℕ × Batch)). batches ++ bs) (sym (due-step place t told boxes turning.0 ascend)) ∙ turning.2),
      all_told-step place t told boxes turning.0 ∙ turning.3,
    ) in
    let with_left = subst (λ (ts : Told). Turning place ts (outboxes.change_outbox (batching.batched place (batching.foremost t.0 (t ∷ told))) t.0 boxes) (batches ++ first_batch place t.0 (t ∷ told) boxes) whole last) (sym is_left) at_left in
    let with_later = subst (λ (bs : List outboxes.Outbox). Turning place left bs (batches ++ first_batch place t.0 (t ∷ told) boxes) whole last) (sym is_later) with_left in
    subst (λ (bs : List (ℕ × Batch)). Turning place left later bs whole last) (sym is_more) with_later

pub turn_end : (place : ℕ) (told : Told) (boxes : List outboxes.Outbox) (batches whole : List (ℕ × Batch)) (last : List outboxes.Outbox)
    → batching.first_session told ≡ None → Turning place told boxes batches whole last → (batches ≡ whole) × (boxes ≡ last)
turn_end place [] boxes batches whole last none turning = (
  sym (append-nil batches) ∙ (ap (λ (bs : List (ℕ × Batch)). batches ++ bs) (sym (quiet_due place boxes)) ∙ turning.2),
  sym (quiet_told place boxes) ∙ turning.3,
)
turn_end place (t ∷ told) boxes batches whole last none turning = cc

-- the events of the first session, one by one
pub foremost_step : (session : ℕ) (told left : Told) (t : ℕ × Event) (events more all : List Event) (last : Told) → batching.is_first session told ≡ true → told ≡ t ∷ left
    → more ≡ events ++ t.1 ∷ [] → (events ++ batching.foremost session told ≡ all) × (batching.beyond session told ≡ last)
    → (more ++ batching.foremost session left ≡ all) × (batching.beyond session left ≡ last)
foremost_step session [] left t events more all last first is em so = cc
foremost_step session (u ∷ told) left t events more all last first is em so =
    let same_told : told ≡ left = cc in
    let same : u ≡ t = cc in
    let here : batching.foremost session (u ∷ told) ≡ u.1 ∷ batching.foremost session told = rw first refl in
    let past : batching.beyond session (u ∷ told) ≡ batching.beyond session told = rw first refl in (
      ap (λ (es : List Event). es ++ batching.foremost session left) em
          ∙ (append_assoc events (t.1 ∷ []) (batching.foremost session left)
          ∙ (ap (λ (ts : Told). events ++ (t.1 ∷ batching.foremost session ts)) (sym same_told)
          ∙ (ap (λ (v : ℕ × Event). events ++ (v.1 ∷ batching.foremost session told)) (sym same)
          ∙ (ap (λ (es : List Event). events ++ es) (sym here) ∙ so.0)))),
      ap (λ (ts : Told). batching.beyond session ts) (sym same_told) ∙ (sym past ∙ so.1),
    )

pub foremost_end : (session : ℕ) (told : Told) (events all : List Event) (last : Told) → batching.is_first session told ≡ false
    → (events ++ batching.foremost session told ≡ all) × (batching.beyond session told ≡ last) → (events ≡ all) × (told ≡ last)
foremost_end session [] events all last first so = (sym (append-nil events) ∙ so.0, so.1)
foremost_end session (t ∷ told) events all last first so = (
  sym (append-nil events) ∙ (ap (λ (es : List Event). events ++ es) (sym (none first)) ∙ so.0),
  sym (past first) ∙ so.1,
)
  where
    none : nat_eq t.0 session ≡ false → batching.foremost session (t ∷ told) ≡ []
    none e = rw e refl

    past : nat_eq t.0 session ≡ false → batching.beyond session (t ∷ told) ≡ t ∷ told
    past e = rw e refl

pub first_there : (session : ℕ) (told : Told) → batching.is_first session told ≡ true → 0 < length told
first_there session [] first = cc
first_there session (t ∷ told) first = omega arith
