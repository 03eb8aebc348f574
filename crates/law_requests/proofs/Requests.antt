-- What a client sends, step by step, and that it stays true.
use Rattle.std.proofs.Common.{◌≡◌, ℕ, suc, ◌≤◌, cond, List, [], ◌∷◌, ◌++◌, map, reverse, filter, find, refl, ap, sym, ◌∙◌, subst, inl, inr, ⊎_elim, arith}
use Rattle.std.specs.Prelude.{Bool, true, false, ◌&&◌, not, is_some, nat_eq, nat_lt, nat_le, Option, Some, None, if◌then◌else◌}
use Rattle.std.specs.List.{AllByRecursion}
use Rattle.ax_types.specs.Places as lists
use Rattle.ax_types.specs.declared.entries.Batch.{Batch}
use Rattle.ax_types.specs.declared.items.Item.{Item}
use Rattle.ax_types.specs.declared.items.Item.TheVariants as item
use Rattle.ax_types.specs.declared.items.SkipReason.TheVariants as reason
use Rattle.ax_types.specs.declared.ops.Level.{Level}
use Rattle.ax_types.specs.declared.ops.Op.{Op}
use Rattle.ax_types.specs.declared.ops.Query.{Query}
use Rattle.ax_types.specs.declared.ops.WindowCall.{WindowCall}
use Rattle.ax_types.specs.declared.ops.WindowCall.TheVariants as call
use Rattle.ax_types.specs.declared.packets.Payload.{Payload}
use Rattle.ax_types.specs.declared.packets.Payload.TheVariants as payload
use Rattle.ax_types.specs.declared.sessions.ClientState.{ClientState}
use Rattle.ax_types.specs.declared.sessions.ClientState.TheVariants as state
use Rattle.ax_types.specs.declared.sessions.Got.{Got}
use Rattle.ax_types.specs.declared.sessions.Heard.{Heard}
use Rattle.ax_types.specs.declared.sessions.Heard.TheVariants as heard
use Rattle.spec_book.specs.History as histories
use Rattle.spec_claims.specs.Transcript as transcripts
use Rattle.spec_claims.specs.Once as claims_once
use Rattle.spec_claims.specs.Payloads as payloads
use Rattle.spec_sequencer.specs.Sequencers as sequencers
use Rattle.spec_client.specs.Clients as clients
use Rattle.spec_client.specs.Receipts as receipts
use Rattle.law_release.proofs.Tests.{by_test, on, on_or_off}
use Rattle.law_client.specs.Inputs as inputs
use Rattle.law_client.specs.Standing as standing
use Rattle.law_client.specs.Promises as promises
use Rattle.law_client.proofs.Lists.{IsAmong, among_behind, some_same, all_append}
use Rattle.law_client.proofs.Own.{SameRanks}
use Rattle.law_client.proofs.Steps.{Kept, joined, unless_if, unless_two, own_live, own_joined}
use Rattle.law_client.proofs.Promises.{new_client_stands, input_keeps, each_step_keeps}
use Rattle.law_requests.specs.Requests as requests
use Rattle.law_requests.proofs.Commands.{ranked, rank_behind, ranks_behind, numbered_behind}
use Rattle.law_requests.proofs.Closes.{seat_of_step, stands_above, closes_stay}

sent_each : (P : Payload → Type 0) (node : ℕ) (ps : List Payload) → AllByRecursion P ps → AllByRecursion (λ (x : ℕ × Payload). P x.1) (map (λ p. (node, p)) ps)
sent_each P node [] a = tt
sent_each P node (p ∷ ps) a = (a.0, sent_each P node ps a.1)

sent_all : (P : Payload → Type 0) (node : Option ℕ) (ps : List Payload) → AllByRecursion P ps → AllByRecursion (λ (x : ℕ × Payload). P x.1) (clients.sends_of node ps)
sent_all P None ps a = tt
sent_all P (Some node) ps a = sent_each P node ps a

among_filter : {X : Type 0} (test : X → Bool) (x : X) (xs : List X) → IsAmong x (filter test xs) → IsAmong x xs
among_filter test x [] a = absurd a
among_filter test x (y ∷ ys) a =
    ⊎_elim
    (λ e. ⊎_elim (λ f. inl f) (λ b. inr (among_filter test x ys b)) (subst (λ (b : Bool). IsAmong x (cond b (y ∷ filter test ys) (filter test ys))) e a))
    (λ e. inr (among_filter test x ys (subst (λ (b : Bool). IsAmong x (cond b (y ∷ filter test ys) (filter test ys))) e a)))
    (on_or_off (test y))

find_among : {X : Type 0} (test : X → Bool) (x : X) (xs : List X) → find test xs ≡ Some x → IsAmong x xs
find_among test x [] e = absurd (cc)
find_among test x (y ∷ ys) e =
    ⊎_elim (λ f. inl (some_same y x (sym (ap (λ b. cond b (Some y) (find test ys)) f) ∙ e))) (λ f. inr (find_among test x ys (sym (ap (λ b. cond b (Some y) (find test ys)) f) ∙ e))) (on_or_off (test y))

map_all : {X Y : Type 0} (P : Y → Type 0) (f : X → Y) (xs : List X) → ((x : X) → IsAmong x xs → P (f x)) → AllByRecursion P (map f xs)
map_all P f [] g = tt
map_all P f (x ∷ xs) g = (g x (inl refl), map_all P f xs (λ y a. g y (inr a)))

-- the call of a request
record HasCall (h : histories.History) (above : List Item) (s : ℕ) (r : clients.Request) : Type 0 where
  unanswered : sequencers.Unanswered
  asked : standing.IsOpenCall h above s unanswered r

has_call : (h : histories.History) (above : List Item) (s done : ℕ) (us : List sequencers.Unanswered) (rs : List clients.Request) (r : clients.Request) → standing.AreOpenCalls h above s done us rs → IsAmong r rs → HasCall h above s r
has_call h above s done us [] r a b = absurd b
has_call h above s done [] (q ∷ rs) r a b = absurd a
has_call h above s done (u ∷ us) (q ∷ rs) r a (inl e) = record { unanswered = u; asked = subst (λ z. standing.IsOpenCall h above s u z) e a.1 }
has_call h above s done (u ∷ us) (q ∷ rs) r a (inr b) = has_call h above s (suc done) us rs r a.2 b

abbrev seat_of : clients.Client → List Item → inputs.Seat
seat_of c above = record { client = c; above = above }

from_own : (h : histories.History) (c : clients.Client) (above : List Item) (s : ℕ) → standing.IsOwn h c above s → requests.IsFrom h (seat_of c above) c.me s
from_own h c above s o = record { client = refl; opened = record { opening = c.switch.opening; opened = o.opening; there = o.there } }

request_says : (h : histories.History) (c : clients.Client) (above : List Item) (r : clients.Request) → (o : standing.IsOwn h c above (clients.own_session c.state)) → IsAmong r c.requests
    → requests.RequestSays h (seat_of c above) (clients.payload_of c r)
request_says h c above r o a =
    let s = clients.own_session c.state in
    let f : HasCall h above s r = has_call h above s o.done c.sequencer.calls c.requests r o.asked a in
    by_call r.call f.asked.called f.unanswered f.asked.asked_so
  where
    by_call : (w : WindowCall) → transcripts.StandsIn (item.Called (clients.own_session c.state) r.number w) above
        → (u : sequencers.Unanswered) → standing.IsAskedSo above (clients.own_session c.state) u r w → requests.RequestSays h (seat_of c above) (clients.request_payload c r w)
    by_call (call.Command name p) called u so =
        let s = clients.own_session c.state in (
          from_own h c above s o,
          record { number = r.number; called = called; rank = so.2; in_order = subst (λ k. lists.at_place (claims_once.commands s (reverse above)) k ≡ Some (name, p)) (sym so.2) (ranked s r.number name p above o.numbers called) },
        )
    by_call (call.Query l name q) called u so = (from_own h c above (clients.own_session c.state) o, record { called = called; rank = so.2 })

-- what a step sends, where the client stands after it as its steps keep it
abbrev Say : histories.History → List Item → clients.ClientStep → Type 0
Say h above next = standing.Stands h (seat_of_step above next) → requests.AllSay h (seat_of_step above next) next.out.sends

own_of : (h : histories.History) (c : clients.Client) (above : List Item) → standing.Stands h (seat_of c above) → clients.is_joined c.state ≡ true → standing.IsOwn h c above (clients.own_session c.state)
own_of h c above k e = (joined h c above c.state e k.own).own

live_joined : (t : ClientState) → clients.is_live_client t ≡ true → clients.is_joined t ≡ true
live_joined t e = ap (λ b. if b then true else clients.is_closing t) e

-- what is sent for a client that is as it is after the step
server_says : (h : histories.History) (c d : clients.Client) (above items : List Item) (ps : List Payload)
    → (standing.Stands h (seat_of d (reverse items ++ above)) → AllByRecursion (requests.RequestSays h (seat_of d (reverse items ++ above))) ps)
    → Say h above (clients.client_step d items (clients.to_server d ps))
server_says h c d above items ps f k = sent_all (requests.RequestSays h (seat_of d (reverse items ++ above))) d.switch.server ps (f k)

register_says : (h : histories.History) (c : clients.Client) (above : List Item) → requests.RequestSays h (seat_of c above) (clients.register_of c)
register_says h c above = (refl, omega arith)

call_says : (h : histories.History) (c : clients.Client) (above : List Item) (seq : Option ℕ) (l : Option Level) (position m : ℕ) (w : WindowCall) → clients.is_live_client c.state ≡ true
    → let d : clients.Client = record (clients.with_request c seq l position w) { commands = m } in
    Say h above (clients.client_step d (clients.called_item c (suc c.calls) w ∷ []) (clients.to_server d (clients.payload_of d (record { number = suc c.calls; seq = position; call = w }) ∷ [])))
call_says h c above seq l position m w live =
    let d : clients.Client = record (clients.with_request c seq l position w) { commands = m } in
    let r : clients.Request = record { number = suc c.calls; seq = position; call = w } in
    let x = clients.called_item c (suc c.calls) w in
    server_says h c d above (x ∷ []) (clients.payload_of d r ∷ [])
    (λ k. (request_says h d (x ∷ above) r (own_of h d (x ∷ above) k (live_joined c.state live)) (among_behind r c.requests (r ∷ []) (inl refl)), tt))

call_or_not_says : (h : histories.History) (c : clients.Client) (above : List Item) (next : clients.ClientStep) → (clients.is_live_client c.state ≡ true → Say h above next) → Say h above (inputs.calls_or_not c next)
call_or_not_says h c above next f =
    by_test (Say h above) (clients.has_ended c.state) (inputs.uses_number c) (inputs.unless (clients.call_refusal c) c next) (λ e k. tt)
    (λ e. unless_two (Say h above) c next (clients.is_live_client c.state) (nat_le sequencers.most_unanswered (sequencers.unanswered_count c.sequencer)) reason.NoSession reason.WindowFull (λ k. tt) (λ live free. f live))

closing_state : (t : ClientState) → clients.is_closing t ≡ true → t ≡ state.Closing (clients.own_session t)
closing_state (state.Closing s) e = refl
closing_state state.NoneYet e = absurd (on e)
closing_state state.Opening e = absurd (on e)
closing_state (state.Live s) e = absurd (on e)
closing_state (state.Ended s) e = absurd (on e)

again_says : (h : histories.History) (c : clients.Client) (above : List Item) → standing.Stands h (seat_of c above) → AllByRecursion (requests.RequestSays h (seat_of c above)) (clients.again_of c)
again_says h c above k =
    let P = requests.RequestSays h (seat_of c above) in
    let closing : List Payload = if clients.is_closing c.state then clients.close_of c ∷ [] else [] in
    let asked = map (clients.payload_of c) (clients.open_requests c) in
    by_test (AllByRecursion P) (clients.is_opening c.state) (clients.register_of c ∷ []) (if clients.is_joined c.state then clients.connect_of c ∷ asked ++ closing else [])
    (λ e. (register_says h c above, tt))
    (λ e. by_test (AllByRecursion P) (clients.is_joined c.state) (clients.connect_of c ∷ asked ++ closing) []
    (λ f.
    let s = clients.own_session c.state in
    let o : standing.IsOwn h c above s = own_of h c above k f in (
      from_own h c above s o,
      all_append P asked closing
          (map_all P (clients.payload_of c) (clients.open_requests c) (λ r a. request_says h c above r o (among_filter (λ q. clients.lacks_answer c.sequencer.calls q.number) r c.requests a)))
          (by_test (AllByRecursion P) (clients.is_closing c.state) (clients.close_of c ∷ []) [] (λ g. ((from_own h c above s o, inl (closing_state c.state g)), tt)) (λ g. tt)),
    ))
    (λ f. tt))

-- a query that is asked again
found_says : (h : histories.History) (c : clients.Client) (above : List Item) (o : standing.IsOwn h c above (clients.own_session c.state)) (n : ℕ) (q : Option clients.Request) → receipts.request c.requests n ≡ q
    → AllByRecursion (requests.RequestSays h (seat_of c above)) (receipts.payload_for c q)
found_says h c above o n None e = tt
found_says h c above o n (Some r) e = (request_says h c above r o (find_among (λ p. nat_eq p.number n) r c.requests e), tt)

asked_again_says : (h : histories.History) (c : clients.Client) (above : List Item) (o : standing.IsOwn h c above (clients.own_session c.state)) (again : Option ℕ)
    → AllByRecursion (requests.RequestSays h (seat_of c above)) (receipts.asked_again c again)
asked_again_says h c above o None = tt
asked_again_says h c above o (Some n) = found_says h c above o n (receipts.request c.requests n) refl

releases_say : (h : histories.History) (c : clients.Client) (above first : List Item) → clients.is_joined c.state ≡ true → Say h above (receipts.releases c first)
releases_say h c above first e =
    let r = sequencers.release_of c.sequencer in
    let d : clients.Client = record c { sequencer = sequencers.released c.sequencer; requests = receipts.requests_left c.requests r.calls } in
    let items = first ++ receipts.items_of c r.items in
    server_says h c d above items (receipts.asked_again d r.again) (λ k. asked_again_says h d (reverse items ++ above) (own_of h d (reverse items ++ above) k e) r.again)

answer_says : (h : histories.History) (c : clients.Client) (above : List Item) (o : Option sequencers.Unanswered) (g : Got) → clients.is_joined c.state ≡ true → Say h above (receipts.gets c o g)
answer_says h c above None g e = λ k. tt
answer_says h c above (Some u) g e =
    let d : clients.Client = record c { sequencer = sequencers.with_answer c.sequencer u.number g } in
    by_test (Say h above) (is_some u.got) (clients.ignores c) (receipts.releases d []) (λ f k. tt) (λ f. releases_say h d above [] e)

batch_says : (h : histories.History) (c : clients.Client) (above : List Item) (node : ℕ) (b : Batch) (t : Heard) → clients.is_joined c.state ≡ true → Say h above (receipts.takes_batch c node b t)
batch_says h c above node b heard.Old e = λ k. tt
batch_says h c above node b heard.Taken e =
    releases_say h (record c { sequencer = sequencers.with_heard c.sequencer b }) above (item.Event (clients.own_session c.state) b.place b.prev b.events ∷ []) e
batch_says h c above node b (heard.Missing m) e = λ k. (from_own h c above (clients.own_session c.state) (own_of h c above k e), tt)

payload_says : (h : histories.History) (c : clients.Client) (above : List Item) (node : ℕ) (p : Payload) → Say h above (receipts.receives c node p)
payload_says h c above node (payload.Opened opening session) =
    let d : clients.Client = record c { state = state.Live session; switch = sequencers.with_opened c.switch; calls = 0; commands = 0; sequencer = sequencers.new_sequencer session; requests = [] } in
    let x = item.Opened session c.me in
    by_test (Say h above) (clients.is_opening c.state && sequencers.accepts c.switch opening) (receipts.takes_opened c session) (clients.ignores c)
    (λ e. server_says h c d above (x ∷ []) (clients.connect_of d ∷ []) (λ k. (from_own h d (x ∷ above) session (own_of h d (x ∷ above) k refl), tt))) (λ e k. tt)
payload_says h c above node (payload.Reply session seq place events answer) =
    let g : Got = record { place = place; events = events; reach = None; reply = answer } in
    by_test (Say h above) (receipts.is_own_live c session) (receipts.gets c (receipts.asked_command c.sequencer.calls seq) g) (clients.ignores c)
    (λ e. answer_says h c above (receipts.asked_command c.sequencer.calls seq) g (own_live c session e).0) (λ e k. tt)
payload_says h c above node (payload.Answer session number l place events term arrival answer) =
    let g : Got = record { place = place; events = events; reach = receipts.reach_of l term arrival; reply = answer } in
    by_test (Say h above) (receipts.is_own_live c session) (receipts.gets c (receipts.asked_query c.sequencer.calls number l) g) (clients.ignores c)
    (λ e. answer_says h c above (receipts.asked_query c.sequencer.calls number l) g (own_live c session e).0) (λ e k. tt)
payload_says h c above node (payload.Gap session last) =
    let above_last : clients.Request → Bool = λ r. receipts.is_command_above last r r.call in
    by_test (Say h above) (receipts.is_own_live c session) (clients.client_step c [] (clients.to_server c (receipts.gap_of c last))) (clients.ignores c)
    (λ e. server_says h c c above [] (receipts.gap_of c last)
    (λ k.
    let o = own_of h c above k (own_live c session e).0 in
    map_all (requests.RequestSays h (seat_of c above)) (clients.payload_of c) (filter above_last (clients.open_requests c))
    (λ r a. request_says h c above r o (among_filter (λ q. clients.lacks_answer c.sequencer.calls q.number) r c.requests (among_filter above_last r (clients.open_requests c) a)))))
    (λ e k. tt)
payload_says h c above node (payload.Batch session place prev events) =
    let b : Batch = record { place = place; prev = prev; events = events } in
    by_test (Say h above) (receipts.is_own c session) (receipts.takes_batch c node b (sequencers.heard_of c.sequencer b)) (clients.ignores c)
    (λ e. batch_says h c above node b (sequencers.heard_of c.sequencer b) (own_joined c session e).0) (λ e k. tt)
payload_says h c above node (payload.Ended session place way) =
    by_test (Say h above) (receipts.is_own c session) (receipts.takes_end c session place way) (clients.ignores c) (λ e k. tt) (λ e k. tt)
payload_says h c above node p = λ k. tt

input_says : (h : histories.History) (c : clients.Client) (above : List Item) (i : inputs.Input) → Say h above (inputs.client_stepped c i)
input_says h c above (inputs.Opens node) =
    let d : clients.Client = record c { switch = sequencers.with_opening (sequencers.moved_to c.switch node); state = state.Opening } in
    unless_if (Say h above) c (clients.opens c node) (clients.is_busy c.state) reason.SessionOpen (λ k. tt) (λ e. server_says h c d above [] (clients.register_of d ∷ []) (λ k. (register_says h d above, tt)))
input_says h c above (inputs.Calls name o) = call_or_not_says h c above (clients.makes_call c name o) (λ live. call_says h c above (Some (suc c.commands)) None (suc c.commands) (suc c.commands) (call.Command name o) live)
input_says h c above (inputs.Queries l name q) = call_or_not_says h c above (clients.queries c l name q) (λ live. call_says h c above None (Some l) c.commands c.commands (call.Query l name q) live)
input_says h c above inputs.Keeps =
    unless_if (Say h above) c (clients.keeps c) (not (clients.is_joined c.state)) reason.NoSession (λ k. tt)
    (λ e. server_says h c c above [] (payload.Keep c.me (clients.own_session c.state) (sequencers.received c.sequencer) c.sequencer.heard ∷ [])
    (λ k. (from_own h c above (clients.own_session c.state) (own_of h c above k (not_off (clients.is_joined c.state) e)), tt)))
  where
    not_off : (b : Bool) → not b ≡ false → b ≡ true
    not_off true e = refl
    not_off false e = sym e
input_says h c above inputs.Closes =
    let n = sequencers.unanswered_count c.sequencer in
    let s = clients.own_session c.state in
    let d : clients.Client = record c { state = state.Closing s } in
    unless_two (Say h above) c (clients.closes c) (clients.is_live_client c.state) (nat_lt 0 n) reason.NoSession (reason.Busy n) (λ k. tt)
    (λ live free. server_says h c d above [] (clients.close_of d ∷ []) (λ k. ((from_own h d above s (own_of h d above k refl), inl refl), tt)))
input_says h c above inputs.Resends =
    unless_if (Say h above) c (clients.resends c) (not (clients.is_busy c.state)) reason.NoSession (λ k. tt) (λ e. server_says h c c above [] (clients.again_of c) (λ k. again_says h c above k))
input_says h c above (inputs.Switches node) =
    let d : clients.Client = record c { switch = sequencers.moved_to c.switch node } in server_says h c d above [] (clients.again_of d) (λ k. again_says h d above k)
input_says h c above (inputs.Receives node p) = payload_says h c above node p

pub requests_say_calls : requests.RequestsSayCalls
requests_say_calls h seat i k m = input_says h seat.client seat.above i (each_step_keeps h seat (inputs.Does i) k m).stands

each_says : (h : histories.History) (seat : inputs.Seat) (xs : List inputs.Happening) → standing.Stands h seat → inputs.AllMayHappen h seat xs → requests.EachSays h seat xs
each_says h seat [] k m = tt
each_says h seat (inputs.Does i ∷ xs) k m = (requests_say_calls h seat i k m.0, each_says h (inputs.seat_after seat (inputs.Does i)) xs (each_step_keeps h seat (inputs.Does i) k m.0).stands m.1)
each_says h seat (inputs.Sees x ∷ xs) k m = each_says h (inputs.seat_after seat (inputs.Sees x)) xs (each_step_keeps h seat (inputs.Sees x) k m.0).stands m.1

pub each_request_says : requests.EachRequestSays
each_request_says h me xs m = each_says h (inputs.new_seat me) xs (new_client_stands h me) m

own_items : (h : histories.History) (seat : inputs.Seat) (xs : List inputs.Happening) → standing.Stands h seat → inputs.AllMayHappen h seat xs → requests.OwnItems h seat xs
own_items h seat [] k m = tt
own_items h seat (inputs.Does i ∷ xs) k m =
    let s : Kept h seat.client seat.above (inputs.client_stepped seat.client i) = input_keeps h seat.client seat.above i k m.0 in
    (s.owner, own_items h (inputs.seat_after seat (inputs.Does i)) xs s.stands m.1)
own_items h seat (inputs.Sees x ∷ xs) k m = own_items h (inputs.seat_after seat (inputs.Sees x)) xs (each_step_keeps h seat (inputs.Sees x) k m.0).stands m.1

pub own_items_are_of_own_sessions : requests.OwnItemsAreOfOwnSessions
own_items_are_of_own_sessions h me xs m = own_items h (inputs.new_seat me) xs (new_client_stands h me) m

-- the opening number never falls
abbrev Grows : clients.Client → clients.ClientStep → Type 0
Grows c next = c.switch.opening ≤ next.client.switch.opening

same : (n : ℕ) → n ≤ n
same n = omega arith

call_grows : (c : clients.Client) (next : clients.ClientStep) → Grows c next → Grows c (inputs.calls_or_not c next)
call_grows c next g =
    by_test (Grows c) (clients.has_ended c.state) (inputs.uses_number c) (inputs.unless (clients.call_refusal c) c next) (λ e. same c.switch.opening)
    (λ e. unless_two (Grows c) c next (clients.is_live_client c.state) (nat_le sequencers.most_unanswered (sequencers.unanswered_count c.sequencer)) reason.NoSession reason.WindowFull (same c.switch.opening) (λ live free. g))

answer_grows : (c : clients.Client) (o : Option sequencers.Unanswered) (g : Got) → Grows c (receipts.gets c o g)
answer_grows c None g = same c.switch.opening
answer_grows c (Some u) g =
    by_test (Grows c) (is_some u.got) (clients.ignores c) (receipts.releases (record c { sequencer = sequencers.with_answer c.sequencer u.number g }) []) (λ e. same c.switch.opening) (λ e. same c.switch.opening)

batch_grows : (c : clients.Client) (node : ℕ) (b : Batch) (t : Heard) → Grows c (receipts.takes_batch c node b t)
batch_grows c node b heard.Old = same c.switch.opening
batch_grows c node b heard.Taken = same c.switch.opening
batch_grows c node b (heard.Missing m) = same c.switch.opening

payload_grows : (c : clients.Client) (node : ℕ) (p : Payload) → Grows c (receipts.receives c node p)
payload_grows c node (payload.Opened opening session) =
    by_test (Grows c) (clients.is_opening c.state && sequencers.accepts c.switch opening) (receipts.takes_opened c session) (clients.ignores c) (λ e. same c.switch.opening) (λ e. same c.switch.opening)
payload_grows c node (payload.Reply session seq place events answer) =
    let g : Got = record { place = place; events = events; reach = None; reply = answer } in
    by_test (Grows c) (receipts.is_own_live c session) (receipts.gets c (receipts.asked_command c.sequencer.calls seq) g) (clients.ignores c)
    (λ e. answer_grows c (receipts.asked_command c.sequencer.calls seq) g) (λ e. same c.switch.opening)
payload_grows c node (payload.Answer session number l place events term arrival answer) =
    let g : Got = record { place = place; events = events; reach = receipts.reach_of l term arrival; reply = answer } in
    by_test (Grows c) (receipts.is_own_live c session) (receipts.gets c (receipts.asked_query c.sequencer.calls number l) g) (clients.ignores c)
    (λ e. answer_grows c (receipts.asked_query c.sequencer.calls number l) g) (λ e. same c.switch.opening)
payload_grows c node (payload.Gap session last) =
    by_test (Grows c) (receipts.is_own_live c session) (clients.client_step c [] (clients.to_server c (receipts.gap_of c last))) (clients.ignores c) (λ e. same c.switch.opening) (λ e. same c.switch.opening)
payload_grows c node (payload.Batch session place prev events) =
    let b : Batch = record { place = place; prev = prev; events = events } in
    by_test (Grows c) (receipts.is_own c session) (receipts.takes_batch c node b (sequencers.heard_of c.sequencer b)) (clients.ignores c) (λ e. batch_grows c node b (sequencers.heard_of c.sequencer b)) (λ e. same c.switch.opening)
payload_grows c node (payload.Ended session place way) =
    by_test (Grows c) (receipts.is_own c session) (receipts.takes_end c session place way) (clients.ignores c) (λ e. same c.switch.opening) (λ e. same c.switch.opening)
payload_grows c node p = same c.switch.opening

input_grows : (c : clients.Client) (i : inputs.Input) → Grows c (inputs.client_stepped c i)
input_grows c (inputs.Opens node) = unless_if (Grows c) c (clients.opens c node) (clients.is_busy c.state) reason.SessionOpen (same c.switch.opening) (λ e. omega arith)
input_grows c (inputs.Calls name o) = call_grows c (clients.makes_call c name o) (same c.switch.opening)
input_grows c (inputs.Queries l name q) = call_grows c (clients.queries c l name q) (same c.switch.opening)
input_grows c inputs.Keeps = unless_if (Grows c) c (clients.keeps c) (not (clients.is_joined c.state)) reason.NoSession (same c.switch.opening) (λ e. same c.switch.opening)
input_grows c inputs.Closes =
    let n = sequencers.unanswered_count c.sequencer in
    unless_two (Grows c) c (clients.closes c) (clients.is_live_client c.state) (nat_lt 0 n) reason.NoSession (reason.Busy n) (same c.switch.opening) (λ live free. same c.switch.opening)
input_grows c inputs.Resends = unless_if (Grows c) c (clients.resends c) (not (clients.is_busy c.state)) reason.NoSession (same c.switch.opening) (λ e. same c.switch.opening)
input_grows c (inputs.Switches node) = same c.switch.opening
input_grows c (inputs.Receives node p) = payload_grows c node p

-- what a request says, with more items above
command_more : (s seq : ℕ) (name : List ℕ) (o : Op) (ys above : List Item) → standing.AreNumberedDown (transcripts.calls s (ys ++ above)) → requests.IsCommandCalled above s seq name o → requests.IsCommandCalled (ys ++ above) s seq name o
command_more s seq name o [] above a c = c
command_more s seq name o (y ∷ ys) above a c =
    let more = command_more s seq name o ys above (numbered_behind s y (ys ++ above) a) c in
    let rank : seq ≡ transcripts.commands_upto s more.number (y ∷ ys ++ above) = more.rank ∙ sym (rank_behind s more.number (call.Command name o) y (ys ++ above) a more.called) in
    record {
      number = more.number;
      called = inr more.called;
      rank = rank;
      in_order = subst (λ k. lists.at_place (claims_once.commands s (reverse (y ∷ ys ++ above))) k ≡ Some (name, o)) (sym rank) (ranked s more.number name o (y ∷ ys ++ above) a (inr more.called));
    }

query_more : (s n : ℕ) (l : Level) (seq : ℕ) (name : List ℕ) (q : Query) (ys above : List Item) → standing.AreNumberedDown (transcripts.calls s (ys ++ above)) → requests.IsQueryCalled above s n l seq name q → requests.IsQueryCalled (ys ++ above) s n l seq name q
query_more s n l seq name q [] above a c = c
query_more s n l seq name q (y ∷ ys) above a c =
    let more = query_more s n l seq name q ys above (numbered_behind s y (ys ++ above) a) c in
    let ranks : SameRanks s n y (ys ++ above) = ranks_behind s n (call.Query l name q) y (ys ++ above) a more.called in
    record { called = inr more.called; rank = more.rank ∙ sym (ranks.below n (omega arith)) }

from_more : (h : histories.History) (seat : inputs.Seat) (d : clients.Client) (ys : List Item) (c s : ℕ) → d.me ≡ seat.client.me → requests.IsFrom h seat c s → requests.IsFrom h (seat_of d (ys ++ seat.above)) c s
from_more h seat d ys c s me f = record {
  client = f.client ∙ sym me;
  opened = record {
    opening = f.opened.opening;
    opened = subst (λ m. payloads.IsOpeningOf m f.opened.opening (lists.at_place h s)) (sym me) f.opened.opened;
    there = subst (λ m. transcripts.StandsIn (item.Opened s m) (ys ++ seat.above)) (sym me) (stands_above (item.Opened s seat.client.me) ys seat.above f.opened.there);
  };
}

says_more : (h : histories.History) (seat : inputs.Seat) (d : clients.Client) (ys : List Item) (p : Payload) → standing.Stands h (seat_of d (ys ++ seat.above)) → d.me ≡ seat.client.me → seat.client.switch.opening ≤ d.switch.opening
    → ((s : ℕ) → inputs.HasClosed seat s → inputs.HasClosed (seat_of d (ys ++ seat.above)) s)
    → requests.RequestSays h seat p → requests.RequestSays h (seat_of d (ys ++ seat.above)) p
says_more h seat d ys (payload.Register c opening) k me le closes says = (says.0 ∙ sym me, omega (arith, says.1, le))
says_more h seat d ys (payload.Keep c s answered heard) k me le closes says = from_more h seat d ys c s me says
says_more h seat d ys (payload.Command c s seq name o) k me le closes says =
    let f : requests.IsFrom h (seat_of d (ys ++ seat.above)) c s = from_more h seat d ys c s me says.0 in
    (f, command_more s seq name o ys seat.above (k.numbered s f.opened.opening f.opened.opened) says.1)
says_more h seat d ys (payload.Close c s) k me le closes says = (from_more h seat d ys c s me says.0, closes s says.1)
says_more h seat d ys (payload.Connect c s heard) k me le closes says = from_more h seat d ys c s me says
says_more h seat d ys (payload.Reset c s heard) k me le closes says = from_more h seat d ys c s me says
says_more h seat d ys (payload.Query c s n l seen seq name q) k me le closes says =
    let f : requests.IsFrom h (seat_of d (ys ++ seat.above)) c s = from_more h seat d ys c s me says.0 in
    (f, query_more s n l seq name q ys seat.above (k.numbered s f.opened.opening f.opened.opened) says.1)
says_more h seat d ys p k me le closes says = absurd says

pub said_stays_said : requests.SaidStaysSaid
said_stays_said h seat (inputs.Does i) p k m says =
    let s : promises.StepKeeps h seat (inputs.Does i) = each_step_keeps h seat (inputs.Does i) k m in
    let next = inputs.client_stepped seat.client i in
    says_more h seat next.client (reverse next.out.items) p s.stands s.me (input_grows seat.client i) (λ u closed. closes_stay seat (inputs.Does i) u closed) says
said_stays_said h seat (inputs.Sees x) p k m says =
    let s : promises.StepKeeps h seat (inputs.Sees x) = each_step_keeps h seat (inputs.Sees x) k m in
    says_more h seat seat.client (x ∷ []) p s.stands refl (omega arith) (λ u closed. closes_stay seat (inputs.Sees x) u closed) says
