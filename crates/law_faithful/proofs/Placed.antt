-- What the items of a step tell of was committed above them.
use Rattle.std.proofs.Common.{◌≡◌, ℕ, ◌≤◌, max, List, [], ◌∷◌, ◌++◌, length, reverse, refl, ap, sym, ◌∙◌, subst, arith, inl, inr, append-nil}
use Rattle.std.specs.Prelude.{◌⊎◌, Bool, true, nat_eq, flat_map, Option, Some, None, if◌then◌else◌}
use Rattle.std.proofs.lemmas.Bool.Decides.{nat_tests}
use Rattle.std.proofs.lemmas.List.{reverse-append}
use Rattle.ax_types.specs.Places as lists
use Rattle.ax_types.specs.declared.entries.Act.{Act}
use Rattle.ax_types.specs.declared.items.Item.{Item}
use Rattle.ax_types.specs.declared.items.Item.TheVariants as item
use Rattle.ax_types.specs.declared.packets.Payload.TheVariants as payload
use Rattle.ax_types.specs.declared.replies.Event.{Event}
use Rattle.ax_types.specs.declared.replies.How.{How}
use Rattle.ax_types.specs.declared.steps.KeptStep.{KeptStep}
use Rattle.spec_book.specs.History as histories
use Rattle.spec_claims.specs.Transcript as transcripts
use Rattle.spec_claims.specs.Once as once
use Rattle.spec_claims.specs.Right as claims_right
use Rattle.spec_claims.specs.Heard as claims_heard
use Rattle.spec_claims.specs.OutcomeOrder as outcome_order
use Rattle.spec_claims.specs.Payloads as payloads
use Rattle.spec_sessions.specs.Sessions as sessions
use Rattle.spec_world.specs.Worlds as worlds
use Rattle.spec_world.specs.Moves as moves
use Rattle.law_client.specs.Promises as promises
use Rattle.law_told.proofs.Staying.{truth_is_within}
use Rattle.law_stores.proofs.Contents.{within_there}
use Rattle.law_hosts.specs.Ledger as ledgers
use Rattle.law_hosts.proofs.Folds.{acts_count}
use Rattle.law_items.proofs.Below.{greatest_item}
use Rattle.law_seats.specs.Seats as seats
use Rattle.law_seats.proofs.Seats.{each_step_seats}
use Rattle.law_seats.proofs.Runs.{heard_all}
use Rattle.law_faithful.specs.Faith as faith
use Rattle.law_faithful.proofs.Steps.{true_kept}

-- what a history has at a place is within it
there : (P : Option (ℕ × Act) → Type 0) → (P None → ⊥) → (h : histories.History) (p : ℕ) (o : Option (ℕ × Act)) → lists.at_place h p ≡ o → P o → p ≤ length h
there P none h p None e k = absurd (none k)
there P none h p (Some a) e k = within_there h p a e

-- what was heard is among the events
heard_left : (x : histories.Heard) (xs ys : List histories.Heard) → payloads.IsHeardIn x xs → payloads.IsHeardIn x (xs ++ ys)
heard_left x [] ys i = absurd i
heard_left x (y ∷ xs) ys (inl e) = inl e
heard_left x (y ∷ xs) ys (inr i) = inr (heard_left x xs ys i)

heard_right : (x : histories.Heard) (xs ys : List histories.Heard) → payloads.IsHeardIn x ys → payloads.IsHeardIn x (xs ++ ys)
heard_right x [] ys i = i
heard_right x (y ∷ xs) ys i = inr (heard_right x xs ys i)

is_heard : (s p prev : ℕ) (es : List Event) (xs : List Item) → transcripts.StandsIn (item.Event s p prev es) xs → payloads.IsHeardIn (record { place = p; prev = prev; events = es }) (claims_heard.heard s xs)
is_heard s p prev es [] i = absurd i
is_heard s p prev es (x ∷ xs) (inl e) =
    let b : histories.Heard = record { place = p; prev = prev; events = es } in
    let same : nat_eq s s ≡ true = grind (arith, nat_tests) in
    let one : claims_heard.heard_by s x ≡ b ∷ [] = ap (claims_heard.heard_by s) e ∙ ap (λ (c : Bool). if c then b ∷ [] else []) same in
    subst (λ hs. payloads.IsHeardIn b (hs ++ claims_heard.heard s xs)) (sym one) (inl refl)
is_heard s p prev es (x ∷ xs) (inr i) = heard_right (record { place = p; prev = prev; events = es }) (claims_heard.heard_by s x) (claims_heard.heard s xs) (is_heard s p prev es xs i)

event_within : (h : histories.History) (s p prev : ℕ) (es : List Event) (xs : List Item) → once.Begins (claims_heard.heard s xs) (histories.events h s) → transcripts.StandsIn (item.Event s p prev es) xs → p ≤ length h
event_within h s p prev es xs b i =
    let x : histories.Heard = record { place = p; prev = prev; events = es } in
    truth_is_within [] h 0 (payload.Batch s p prev es) (subst (payloads.IsHeardIn x) (sym b.1) (heard_left x (claims_heard.heard s xs) b.0 (is_heard s p prev es xs i)))

-- one item
abbrev AreEventsWithin : histories.History → List Item → Type 0
AreEventsWithin h xs = (s p prev : ℕ) (es : List Event) → transcripts.StandsIn (item.Event s p prev es) xs → p ≤ length h

placed : (h : histories.History) (above : List Item) (x : Item) → length h ≤ transcripts.greatest_commit above → promises.IsClaimed h above x → AreEventsWithin h (x ∷ []) → claims_right.IsCommitted above x
placed h above (item.Opened s c) le k f = let p = there (claims_right.IsOpening c) (λ z. z) h s (lists.at_place h s) refl k.right.0 in omega (arith, p, le)
placed h above (item.Reply s n p r) le k f =
    let q : p ≤ length h = truth_is_within [] h 0 (payload.Reply s (transcripts.commands_upto s n above) p (histories.last_told h s p) r) (k.right.0, k.right.1, refl) in omega (arith, q, le)
placed h above (item.Read s n l p reach r) le k f = let q : p ≤ length h = k.within in omega (arith, q, le)
placed h above (item.Event s p prev es) le k f = let q = f s p prev es (inl refl) in omega (arith, q, le)
placed h above (item.Ended s p how) le k f = let q = there (outcome_order.IsEndOf s how) (λ z. z) h p (lists.at_place h p) refl ((k.in_session s) refl).1 in omega (arith, q, le)
placed h above (item.Halted xa) le k f = tt
placed h above (item.Called xa xb xc) le k f = tt
placed h above (item.Watched xa xb xc xd xe) le k f = tt
placed h above (item.Doubt xa xb) le k f = tt
placed h above (item.Lost xa xb) le k f = tt
placed h above (item.Unsent xa xb) le k f = tt
placed h above (item.Unanswered xa xb) le k f = tt
placed h above (item.Listed xa) le k f = tt
placed h above (item.Pending xa xb xc xd) le k f = tt
placed h above (item.Skip xa) le k f = tt
placed h above (item.Leader xa xb) le k f = tt
placed h above (item.Commit xa) le k f = tt
placed h above (item.Reach xa xb xc xd xe) le k f = tt

all_placed : (h : histories.History) (above xs : List Item) → length h ≤ transcripts.greatest_commit above → transcripts.EachBelow (promises.IsClaimed h) above xs → AreEventsWithin h xs → transcripts.EachBelow claims_right.IsCommitted above xs
all_placed h above [] le k f = tt
all_placed h above (x ∷ xs) le k f = (placed h above x le k.0 (λ s p prev es i. f s p prev es (only i)), all_placed h (x ∷ above) xs (let g = greatest_item x above in omega (arith, g, le)) k.1 (λ s p prev es i. f s p prev es (inr i)))
  where
    only : {y : Item} → transcripts.StandsIn y (x ∷ []) → transcripts.StandsIn y (x ∷ xs)
    only (inl e) = inl e
    only (inr i) = absurd i

stands_later : (x : Item) (xs ys : List Item) → transcripts.StandsIn x ys → transcripts.StandsIn x (xs ++ ys)
stands_later x [] ys i = i
stands_later x (y ∷ xs) ys i = inr (stands_later x xs ys i)

pub step_committed : (nodes clients time : ℕ) (l : ledgers.Ledger) (w : worlds.World) (early : List Item) (k : KeptStep) → faith.RunStands nodes clients time w.history l w early → transcripts.EachBelow claims_right.IsCommitted (reverse early) (moves.moved w k).items
step_committed nodes clients time l w early k x =
    let h : histories.History = w.history in
    let m : moves.Moved = moves.moved w k in
    let seat = each_step_seats h w (reverse early) k x.stand (true_kept nodes clients time h l w early x) in
    let after : seats.AllStand h m.world (reverse (early ++ m.items)) = subst (seats.AllStand h m.world) (sym (reverse-append early m.items)) seat.stand in
    let many : length h ≡ length l.committed = ap length x.so_far.stands.history ∙ acts_count (sessions.new_sessions w.timeout) l.committed in
    let c = x.shows.commits in
    all_placed h (reverse early) m.items (omega (arith, many, c)) seat.claimed
    (λ s p prev es i. event_within h s p prev es (early ++ m.items) (heard_all h m.world (early ++ m.items) s after (lists.at_place h s) refl) (stands_later (item.Event s p prev es) early m.items i))
