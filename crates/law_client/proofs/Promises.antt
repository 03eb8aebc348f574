-- The laws, from what each step keeps.
use Rattle.std.proofs.Common.{◌≡◌, ℕ, List, [], ◌∷◌, ◌++◌, map, reverse, refl, ap, sym, ◌∙◌, subst}
use Rattle.std.specs.Prelude.{Option, Some, None}
use Rattle.ax_types.specs.Places as lists
use Rattle.ax_types.specs.declared.items.Item.{Item}
use Rattle.ax_types.specs.declared.sessions.ClientState.{ClientState}
use Rattle.ax_types.specs.declared.sessions.ClientState.TheVariants as state
use Rattle.spec_book.specs.History as histories
use Rattle.spec_claims.specs.Transcript as transcripts
use Rattle.spec_claims.specs.Right as claims_right
use Rattle.spec_claims.specs.FreshReads as fresh_reads
use Rattle.spec_claims.specs.Heard as claims_heard
use Rattle.spec_claims.specs.OutcomeOrder as outcome_order
use Rattle.spec_claims.specs.Payloads as payloads
use Rattle.spec_client.specs.Clients as clients
use Rattle.law_client.specs.Inputs as inputs
use Rattle.law_client.specs.Standing as standing
use Rattle.law_client.specs.Promises as promises
use Rattle.law_client.proofs.Lists.{count_no}
use Rattle.law_client.proofs.Shown.{IsAside, ShowsNone, aside, ended_aside, calls_same, heard_same}
use Rattle.law_client.proofs.Own.{own_aside}
use Rattle.law_client.proofs.Steps.{Kept, seat_of, same_opening, opens_keeps, calls_keeps, queries_keeps, keep_keeps, closes_keeps, resends_keeps, switches_keeps, receives_keeps}

pub new_client_stands : promises.NewClientStands
new_client_stands h me = record { old = tt; own = tt; heard = λ s opening is. (histories.events h s, refl); numbered = λ s opening is. tt }

pub input_keeps : (h : histories.History) (c : clients.Client) (above : List Item) (i : inputs.Input) → standing.Stands h (seat_of c above) → inputs.MayReach h (seat_of c above) i → Kept h c above (inputs.client_stepped c i)
input_keeps h c above (inputs.Opens node) k m = opens_keeps h c above node k
input_keeps h c above (inputs.Calls name o) k m = calls_keeps h c above name o k
input_keeps h c above (inputs.Queries l name q) k m = queries_keeps h c above l name q k
input_keeps h c above inputs.Keeps k m = keep_keeps h c above k
input_keeps h c above inputs.Closes k m = closes_keeps h c above k
input_keeps h c above inputs.Resends k m = resends_keeps h c above k
input_keeps h c above (inputs.Switches node) k m = switches_keeps h c above node k
input_keeps h c above (inputs.Receives node p) k m = receives_keeps h c above node p k m.0 m.1

-- an item of others is of no session of the client
others_aside : (h : histories.History) (me s opening : ℕ) (t : Option ℕ) → payloads.IsOpeningOf me opening (lists.at_place h s) → inputs.IsOfOthers me h t → IsAside s t
others_aside h me s opening None is o = tt
others_aside h me s opening (Some t) is o =
    λ e. o.other (same_opening me o.client opening o.opening (lists.at_place h t) (subst (λ u. payloads.IsOpeningOf me opening (lists.at_place h u)) e is) o.opened).0

others_old : (h : histories.History) (me next : ℕ) (t : Option ℕ) → inputs.IsOfOthers me h t → standing.IsOld me next h t
others_old h me next None o = tt
others_old h me next (Some t) o = record { client = o.client; opening = o.opening; opened = o.opened; below = λ e. absurd (o.other e) }

others_own : (h : histories.History) (c : clients.Client) (above : List Item) (x : Item) (t : ClientState) → inputs.IsOfOthers c.me h (inputs.session_in x) → standing.OwnStands h c above t → standing.OwnStands h c (x ∷ above) t
others_own h c above x state.NoneYet o k = tt
others_own h c above x state.Opening o k = tt
others_own h c above x (state.Live s) o k =
    let a : IsAside s (inputs.session_in x) = others_aside h c.me s c.switch.opening (inputs.session_in x) k.0.opening o in
    let n : ShowsNone s x = aside s x a in
    (own_aside h c above s x n k.0, count_no (outcome_order.is_ended s) x above (ended_aside s x a) ∙ k.1, count_no (outcome_order.is_unsent s) x above n.unsent ∙ k.2)
others_own h c above x (state.Closing s) o k =
    let a : IsAside s (inputs.session_in x) = others_aside h c.me s c.switch.opening (inputs.session_in x) k.0.opening o in
    let n : ShowsNone s x = aside s x a in
    (own_aside h c above s x n k.0, count_no (outcome_order.is_ended s) x above (ended_aside s x a) ∙ k.1, count_no (outcome_order.is_unsent s) x above n.unsent ∙ k.2, k.3)
others_own h c above x (state.Ended s) o k =
    let a : IsAside s (inputs.session_in x) = others_aside h c.me s c.switch.opening (inputs.session_in x) k.0.opening o in
    (own_aside h c above s x (aside s x a) k.0, count_no (outcome_order.is_ended s) x above (ended_aside s x a) ∙ k.1, k.2)

pub others_keep : (h : histories.History) (c : clients.Client) (above : List Item) (x : Item) → standing.Stands h (seat_of c above) → inputs.IsOfOthers c.me h (inputs.session_in x) → standing.Stands h (seat_of c (x ∷ above))
others_keep h c above x k o = record {
  old = (others_old h c.me (standing.next_opening c) (inputs.session_in x) o, k.old);
  own = others_own h c above x c.state o k.own;
  heard = λ s opening is.
      let n : ShowsNone s x = aside s x (others_aside h c.me s opening (inputs.session_in x) is o) in
      let old = k.heard s opening is in
      (old.0, old.1 ∙ ap (λ ys. ys ++ old.0) (sym (heard_same s x above n.heard)));
  numbered = λ s opening is.
      let n : ShowsNone s x = aside s x (others_aside h c.me s opening (inputs.session_in x) is o) in
      subst standing.AreNumberedDown (sym (calls_same s x above n.called)) (k.numbered s opening is);
}

pub each_step_keeps : promises.EachStepKeeps
each_step_keeps h seat (inputs.Does i) k m =
    let s : Kept h seat.client seat.above (inputs.client_stepped seat.client i) = input_keeps h seat.client seat.above i k m in
    record { stands = s.stands; claimed = (s.claimed, tt); ends = (s.ends, tt); me = s.me }
each_step_keeps h seat (inputs.Sees x) k m = record { stands = others_keep h seat.client seat.above x k m; claimed = tt; ends = tt; me = refl }

-- after all of them
all_stand : (h : histories.History) (seat : inputs.Seat) (xs : List inputs.Happening) → standing.Stands h seat → inputs.AllMayHappen h seat xs → standing.Stands h (inputs.seat_after_all seat xs)
all_stand h seat [] k m = k
all_stand h seat (x ∷ xs) k m = all_stand h (inputs.seat_after seat x) xs (each_step_keeps h seat x k m.0).stands m.1

all_same : (h : histories.History) (seat : inputs.Seat) (xs : List inputs.Happening) → standing.Stands h seat → inputs.AllMayHappen h seat xs → (inputs.seat_after_all seat xs).client.me ≡ seat.client.me
all_same h seat [] k m = refl
all_same h seat (x ∷ xs) k m = let s : promises.StepKeeps h seat x = each_step_keeps h seat x k m.0 in all_same h (inputs.seat_after seat x) xs s.stands m.1 ∙ s.me

below_since : (P R : List Item → Item → Type 0) → ((above : List Item) (x : Item) → P above x → R above x) → (above xs : List Item) → transcripts.EachBelow P above xs → transcripts.EachBelow R above xs
below_since P R f above [] a = tt
below_since P R f above (x ∷ xs) a = (f above x a.0, below_since P R f (x ∷ above) xs a.1)

all_claimed : (h : histories.History) (R : List Item → Item → Type 0) → ((above : List Item) (x : Item) → promises.IsClaimed h above x → R above x)
    → (seat : inputs.Seat) (xs : List inputs.Happening) → standing.Stands h seat → inputs.AllMayHappen h seat xs → promises.EachStep (transcripts.EachBelow R) seat xs
all_claimed h R f seat [] k m = tt
all_claimed h R f seat (inputs.Does i ∷ xs) k m =
    let s : promises.StepKeeps h seat (inputs.Does i) = each_step_keeps h seat (inputs.Does i) k m.0 in
    (below_since (promises.IsClaimed h) R f seat.above (inputs.client_stepped seat.client i).out.items s.claimed.0, all_claimed h R f (inputs.seat_after seat (inputs.Does i)) xs s.stands m.1)
all_claimed h R f seat (inputs.Sees x ∷ xs) k m = all_claimed h R f (inputs.seat_after seat (inputs.Sees x)) xs (each_step_keeps h seat (inputs.Sees x) k m.0).stands m.1

always : (R : histories.History → List Item → Item → Type 0) → ((h : histories.History) (above : List Item) (x : Item) → promises.IsClaimed h above x → R h above x)
    → promises.AlwaysAtClient (λ h me xs. promises.OfEach (R h) me xs)
always R f h me xs m = all_claimed h (R h) (f h) (inputs.new_seat me) xs (new_client_stands h me) m

pub outcomes_follow_calls : promises.OutcomesFollowCalls
outcomes_follow_calls h me xs m s = always (λ k. outcome_order.IsOutcome s) (λ k above x c. c.outcome s) h me xs m

pub items_stand_in_session : promises.ItemsStandInSession
items_stand_in_session h me xs m s = always (λ k. outcome_order.IsInSession k s) (λ k above x c. c.in_session s) h me xs m

pub reads_never_go_back : promises.ReadsNeverGoBack
reads_never_go_back h me xs m s = always (λ k. fresh_reads.IsGrowing k s) (λ k above x c. c.growing s) h me xs m

pub events_precede_responses : promises.EventsPrecedeResponses
events_precede_responses h me xs m s = always (λ k. claims_heard.IsAfterEvents k s) (λ k above x c. c.after_events s) h me xs m

pub client_items_are_right : promises.ClientItemsAreRight
client_items_are_right h me xs m = always (λ k. claims_right.IsRight k) (λ k above x c. c.right) h me xs m

pub reads_name_their_reach : promises.ReadsNameTheirReach
reads_name_their_reach h me xs m = always (λ k. promises.NamesReach) (λ k above x c. c.reached) h me xs m

all_ends : (h : histories.History) (seat : inputs.Seat) (xs : List inputs.Happening) → standing.Stands h seat → inputs.AllMayHappen h seat xs → promises.EachStep outcome_order.EndsStep seat xs
all_ends h seat [] k m = tt
all_ends h seat (inputs.Does i ∷ xs) k m =
    let s : promises.StepKeeps h seat (inputs.Does i) = each_step_keeps h seat (inputs.Does i) k m.0 in
    (s.ends.0, all_ends h (inputs.seat_after seat (inputs.Does i)) xs s.stands m.1)
all_ends h seat (inputs.Sees x ∷ xs) k m = all_ends h (inputs.seat_after seat (inputs.Sees x)) xs (each_step_keeps h seat (inputs.Sees x) k m.0).stands m.1

pub each_step_ends_as_told : promises.EachStepEndsAsTold
each_step_ends_as_told h me xs m = all_ends h (inputs.new_seat me) xs (new_client_stands h me) m

pub events_come_in_order : promises.EventsComeInOrder
events_come_in_order h me xs m s opening is =
    (all_stand h (inputs.new_seat me) xs (new_client_stands h me) m).heard s opening
    (subst (λ c. payloads.IsOpeningOf c opening (lists.at_place h s)) (sym (all_same h (inputs.new_seat me) xs (new_client_stands h me) m)) is)

-- the ends of a client alone
ends_from : (h : histories.History) (seat : inputs.Seat) (is : List inputs.Input) (shown : List transcripts.Shown) → standing.Stands h seat → inputs.AllMayHappen h seat (map (λ i. inputs.Does i) is)
    → map (λ m. m.items) shown ≡ promises.items_of_each seat is → outcome_order.EndsFrom seat.above shown
ends_from h seat [] [] k m e = tt
ends_from h seat [] (w ∷ shown) k m e = absurd (cc)
ends_from h seat (i ∷ is) [] k m e = absurd (cc)
ends_from h seat (i ∷ is) (w ∷ shown) k m e =
    let s : promises.StepKeeps h seat (inputs.Does i) = each_step_keeps h seat (inputs.Does i) k m.0 in
    let items = (inputs.client_stepped seat.client i).out.items in
    let first : w.items ≡ items = cc in
    let others : map (λ v. v.items) shown ≡ promises.items_of_each (inputs.seat_after seat (inputs.Does i)) is = cc in
    (subst (outcome_order.EndsStep seat.above) (sym first) s.ends.0, subst (λ ys. outcome_order.EndsFrom (reverse ys ++ seat.above) shown) (sym first) (ends_from h (inputs.seat_after seat (inputs.Does i)) is shown s.stands m.1 others))

pub sessions_end_as_told : promises.SessionsEndAsTold
sessions_end_as_told h me is shown m e = ends_from h (inputs.new_seat me) is shown (new_client_stands h me) m e
