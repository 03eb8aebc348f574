-- A close that was asked for stays so.
use Rattle.std.proofs.Common.{◌≡◌, ℕ, List, [], ◌∷◌, ◌++◌, map, reverse, refl, ap, sym, ◌∙◌, subst, inl, inr}
use Rattle.std.specs.Prelude.{true, ◌&&◌, not, is_some, nat_lt, nat_le, Option, Some, None}
use Rattle.ax_types.specs.declared.entries.Batch.{Batch}
use Rattle.ax_types.specs.declared.items.Item.{Item}
use Rattle.ax_types.specs.declared.items.Item.TheVariants as item
use Rattle.ax_types.specs.declared.items.SkipReason.TheVariants as reason
use Rattle.ax_types.specs.declared.packets.Payload.{Payload}
use Rattle.ax_types.specs.declared.packets.Payload.TheVariants as payload
use Rattle.ax_types.specs.declared.replies.How.{How}
use Rattle.ax_types.specs.declared.sessions.ClientState.{ClientState}
use Rattle.ax_types.specs.declared.sessions.ClientState.TheVariants as state
use Rattle.ax_types.specs.declared.sessions.Got.{Got}
use Rattle.ax_types.specs.declared.sessions.Heard.{Heard}
use Rattle.ax_types.specs.declared.sessions.Heard.TheVariants as heard
use Rattle.spec_claims.specs.Transcript as transcripts
use Rattle.spec_sequencer.specs.Sequencers as sequencers
use Rattle.spec_client.specs.Clients as clients
use Rattle.spec_client.specs.Receipts as receipts
use Rattle.law_release.proofs.Tests.{by_test, on, both, equal}
use Rattle.law_client.specs.Inputs as inputs
use Rattle.law_client.proofs.Lists.{reverse_onto}
use Rattle.law_client.proofs.Steps.{unless_if, unless_two}
use Rattle.law_requests.specs.Requests as requests

-- an item stands where others stand below it
pub stands_above : (x : Item) (ys xs : List Item) → transcripts.StandsIn x xs → transcripts.StandsIn x (ys ++ xs)
stands_above x [] xs a = a
stands_above x (y ∷ ys) xs a = inr (stands_above x ys xs a)

first_stands : (x : Item) (items above : List Item) → transcripts.StandsIn x (reverse (x ∷ items) ++ above)
first_stands x items above = subst (transcripts.StandsIn x) (sym (reverse_onto x items above)) (stands_above x (reverse items) (x ∷ above) (inl refl))

-- a client after a step, below what stands above
abbrev pub seat_of_step : List Item → clients.ClientStep → inputs.Seat
seat_of_step above next = record { client = next.client; above = reverse next.out.items ++ above }

abbrev Stays : List Item → ℕ → clients.ClientStep → Type 0
Stays above s next = inputs.HasClosed (seat_of_step above next) s

not_live : (t : ClientState) (s : ℕ) → t ≡ state.Closing s → clients.is_live_client t ≡ true → ⊥
not_live t s e f = on (ap (λ u. clients.is_live_client u) (sym e) ∙ f)

not_opening : (t : ClientState) (s : ℕ) → t ≡ state.Closing s → clients.is_opening t ≡ true → ⊥
not_opening t s e f = on (ap (λ u. clients.is_opening u) (sym e) ∙ f)

not_ended : (t : ClientState) (s : ℕ) → t ≡ state.Closing s → clients.has_ended t ≡ true → ⊥
not_ended t s e f = on (ap (λ u. clients.has_ended u) (sym e) ∙ f)

call_waits : (c : clients.Client) (above : List Item) (s : ℕ) (next : clients.ClientStep) → c.state ≡ state.Closing s → Stays above s (inputs.calls_or_not c next)
call_waits c above s next e =
    by_test (Stays above s) (clients.has_ended c.state) (inputs.uses_number c) (inputs.unless (clients.call_refusal c) c next) (λ f. absurd (not_ended c.state s e f))
    (λ f. unless_two (Stays above s) c next (clients.is_live_client c.state) (nat_le sequencers.most_unanswered (sequencers.unanswered_count c.sequencer)) reason.NoSession reason.WindowFull (inl e)
    (λ live free. absurd (not_live c.state s e live)))

answer_waits : (c : clients.Client) (above : List Item) (s : ℕ) (o : Option sequencers.Unanswered) (g : Got) → c.state ≡ state.Closing s → Stays above s (receipts.gets c o g)
answer_waits c above s None g e = inl e
answer_waits c above s (Some u) g e =
    by_test (Stays above s) (is_some u.got) (clients.ignores c) (receipts.releases (record c { sequencer = sequencers.with_answer c.sequencer u.number g }) []) (λ f. inl e) (λ f. inl e)

batch_waits : (c : clients.Client) (above : List Item) (s node : ℕ) (b : Batch) (t : Heard) → c.state ≡ state.Closing s → Stays above s (receipts.takes_batch c node b t)
batch_waits c above s node b heard.Old e = inl e
batch_waits c above s node b heard.Taken e = inl e
batch_waits c above s node b (heard.Missing m) e = inl e

end_comes : (c : clients.Client) (above : List Item) (s session place : ℕ) (way : How) → c.state ≡ state.Closing s → receipts.is_own c session ≡ true → Stays above s (receipts.takes_end c session place way)
end_comes c above s session place way e own =
    let same : session ≡ s = equal session (clients.own_session c.state) (both (clients.is_joined c.state) _ own).1 ∙ ap (λ t. clients.own_session t) e in
    let items = map (receipts.outcome_at_end session) c.sequencer.calls in
    inr (place, way, subst (λ u. transcripts.StandsIn (item.Ended u place way) (reverse (item.Ended session place way ∷ items) ++ above)) same (first_stands (item.Ended session place way) items above))

payload_waits : (c : clients.Client) (above : List Item) (s node : ℕ) (p : Payload) → c.state ≡ state.Closing s → Stays above s (receipts.receives c node p)
payload_waits c above s node (payload.Opened opening session) e =
    by_test (Stays above s) (clients.is_opening c.state && sequencers.accepts c.switch opening) (receipts.takes_opened c session) (clients.ignores c)
    (λ f. absurd (not_opening c.state s e (both (clients.is_opening c.state) (sequencers.accepts c.switch opening) f).0)) (λ f. inl e)
payload_waits c above s node (payload.Reply session seq place events answer) e =
    by_test (Stays above s) (receipts.is_own_live c session) (receipts.gets c (receipts.asked_command c.sequencer.calls seq) (record { place = place; events = events; reach = None; reply = answer })) (clients.ignores c)
    (λ f. answer_waits c above s (receipts.asked_command c.sequencer.calls seq) _ e) (λ f. inl e)
payload_waits c above s node (payload.Answer session number l place events term arrival answer) e =
    by_test (Stays above s) (receipts.is_own_live c session)
    (receipts.gets c (receipts.asked_query c.sequencer.calls number l) (record { place = place; events = events; reach = receipts.reach_of l term arrival; reply = answer })) (clients.ignores c)
    (λ f. answer_waits c above s (receipts.asked_query c.sequencer.calls number l) _ e) (λ f. inl e)
payload_waits c above s node (payload.Gap session last) e =
    by_test (Stays above s) (receipts.is_own_live c session) (clients.client_step c [] (clients.to_server c (receipts.gap_of c last))) (clients.ignores c) (λ f. inl e) (λ f. inl e)
payload_waits c above s node (payload.Batch session place prev events) e =
    let b : Batch = record { place = place; prev = prev; events = events } in
    by_test (Stays above s) (receipts.is_own c session) (receipts.takes_batch c node b (sequencers.heard_of c.sequencer b)) (clients.ignores c)
    (λ f. batch_waits c above s node b (sequencers.heard_of c.sequencer b) e) (λ f. inl e)
payload_waits c above s node (payload.Ended session place way) e =
    by_test (Stays above s) (receipts.is_own c session) (receipts.takes_end c session place way) (clients.ignores c) (λ f. end_comes c above s session place way e f) (λ f. inl e)
payload_waits c above s node p e = inl e

-- a client that waits for the end of its session goes on to wait, or is told of it
waits : (c : clients.Client) (above : List Item) (s : ℕ) (i : inputs.Input) → c.state ≡ state.Closing s → Stays above s (inputs.client_stepped c i)
waits c above s (inputs.Opens node) e =
    unless_if (Stays above s) c (clients.opens c node) (clients.is_busy c.state) reason.SessionOpen (inl e) (λ f. absurd (on (sym f ∙ ap (λ u. clients.is_busy u) e)))
waits c above s (inputs.Calls name o) e = call_waits c above s (clients.makes_call c name o) e
waits c above s (inputs.Queries l name q) e = call_waits c above s (clients.queries c l name q) e
waits c above s inputs.Keeps e = unless_if (Stays above s) c (clients.keeps c) (not (clients.is_joined c.state)) reason.NoSession (inl e) (λ f. inl e)
waits c above s inputs.Closes e =
    let n = sequencers.unanswered_count c.sequencer in
    unless_two (Stays above s) c (clients.closes c) (clients.is_live_client c.state) (nat_lt 0 n) reason.NoSession (reason.Busy n) (inl e) (λ live free. absurd (not_live c.state s e live))
waits c above s inputs.Resends e = unless_if (Stays above s) c (clients.resends c) (not (clients.is_busy c.state)) reason.NoSession (inl e) (λ f. inl e)
waits c above s (inputs.Switches node) e = inl e
waits c above s (inputs.Receives node p) e = payload_waits c above s node p e

pub closes_stay : requests.ClosesStay
closes_stay seat (inputs.Sees x) s (inl e) = inl e
closes_stay seat (inputs.Sees x) s (inr (p, way, a)) = inr (p, way, inr a)
closes_stay seat (inputs.Does i) s (inl e) = waits seat.client seat.above s i e
closes_stay seat (inputs.Does i) s (inr (p, way, a)) = inr (p, way, stands_above (item.Ended s p way) (reverse (inputs.client_stepped seat.client i).out.items) seat.above a)
