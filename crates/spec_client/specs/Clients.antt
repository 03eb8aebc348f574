-- A client and its own calls: opening, commands, queries, keep-alives, closing, asking again, and its server.
use Rattle.std.specs.Prelude.{ℕ, suc, Bool, true, false, not, nat_eq, nat_lt, nat_le, Option, Some, None, is_some, List, [], ◌∷◌, ◌++◌, map, filter, if◌then◌else◌}
use Rattle.ax_types.specs.declared.items.Item.{Item}
use Rattle.ax_types.specs.declared.items.Item.TheVariants as item
use Rattle.ax_types.specs.declared.items.SkipReason.{SkipReason}
use Rattle.ax_types.specs.declared.items.SkipReason.TheVariants as reason
use Rattle.ax_types.specs.declared.ops.Level.{Level}
use Rattle.ax_types.specs.declared.ops.Op.{Op}
use Rattle.ax_types.specs.declared.ops.Query.{Query}
use Rattle.ax_types.specs.declared.ops.WindowCall.{WindowCall}
use Rattle.ax_types.specs.declared.ops.WindowCall.TheVariants as call
use Rattle.ax_types.specs.declared.packets.Payload.{Payload}
use Rattle.ax_types.specs.declared.packets.Payload.TheVariants as payload
use Rattle.ax_types.specs.declared.sessions.ClientOut.{ClientOut}
use Rattle.ax_types.specs.declared.sessions.ClientState.{ClientState}
use Rattle.ax_types.specs.declared.sessions.ClientState.TheVariants as state
use Rattle.spec_sequencer.specs.Sequencers as sequencers

-- what a call without an outcome asks, with its sequence, of a query the number of commands called before it
pub record Request : Type 0 where
  pub number : ℕ
  pub seq : ℕ
  pub call : WindowCall

-- a client: its state, its server and openings, the calls and commands made in its session, and those without an outcome
pub record Client : Type 0 where
  pub me : ℕ
  pub state : ClientState
  pub switch : sequencers.Switch
  pub calls : ℕ
  pub commands : ℕ
  pub sequencer : sequencers.Sequencer
  pub requests : List Request

abbrev pub new_client : ℕ → Client
new_client me = record { me = me; state = state.NoneYet; switch = sequencers.new_switch; calls = 0; commands = 0; sequencer = sequencers.new_sequencer 0; requests = [] }

-- what a step of a client gives
pub record ClientStep : Type 0 where
  pub client : Client
  pub out : ClientOut

abbrev pub client_step : Client → List Item → List (ℕ × Payload) → ClientStep
client_step c items sends = record { client = c; out = record { items = items; sends = sends } }

abbrev pub ignores : Client → ClientStep
ignores c = client_step c [] []

-- payloads for the connected server
abbrev pub sends_of : Option ℕ → List Payload → List (ℕ × Payload)
sends_of None ps = []
sends_of (Some node) ps = map (λ p. (node, p)) ps

abbrev pub to_server : Client → List Payload → List (ℕ × Payload)
to_server c ps = sends_of c.switch.server ps

-- the session of a client that has one, open, closing or ended; else 0
abbrev pub own_session : ClientState → ℕ
own_session (state.Live s) = s
own_session (state.Closing s) = s
own_session (state.Ended s) = s
own_session _ = 0

abbrev pub is_live_client : ClientState → Bool
is_live_client (state.Live s) = true
is_live_client _ = false

abbrev pub is_opening : ClientState → Bool
is_opening state.Opening = true
is_opening _ = false

abbrev pub is_closing : ClientState → Bool
is_closing (state.Closing s) = true
is_closing _ = false

abbrev pub has_ended : ClientState → Bool
has_ended (state.Ended s) = true
has_ended _ = false

-- open or closing
abbrev pub is_joined : ClientState → Bool
is_joined s = if is_live_client s then true else is_closing s

-- opening, open or closing
abbrev pub is_busy : ClientState → Bool
is_busy s = if is_opening s then true else is_joined s

-- the first reason that holds
abbrev pub refused_if : Bool → SkipReason → Option SkipReason
refused_if true r = Some r
refused_if false r = None

-- open: a new session, by a new opening number (Ongaro 2014, 6.3)
abbrev pub open_refusal : Client → Option SkipReason
open_refusal c = refused_if (is_busy c.state) reason.SessionOpen

abbrev pub register_of : Client → Payload
register_of c = payload.Register c.me c.switch.opening

abbrev pub opens : Client → ℕ → ClientStep
opens c node = let d = record c { switch = sequencers.with_opening (sequencers.moved_to c.switch node); state = state.Opening } in client_step d [] (to_server d (register_of d ∷ []))

-- call and query: a call takes the next number, and waits for its outcome
abbrev pub call_refusal : Client → Option SkipReason
call_refusal c = if not (is_live_client c.state) then Some reason.NoSession else refused_if (nat_le sequencers.most_unanswered (sequencers.unanswered_count c.sequencer)) reason.WindowFull

abbrev pub called_item : Client → ℕ → WindowCall → Item
called_item c number w = item.Called (own_session c.state) number w

abbrev pub with_request : Client → Option ℕ → Option Level → ℕ → WindowCall → Client
with_request c seq level position w = record c {
  calls = suc c.calls;
  sequencer = sequencers.with_call c.sequencer (record { number = suc c.calls; seq = seq; level = level });
  requests = c.requests ++ record { number = suc c.calls; seq = position; call = w } ∷ [];
}

-- the request of a call: a query names what its session has seen by now
abbrev pub request_payload : Client → Request → WindowCall → Payload
request_payload c r (call.Command name o) = payload.Command c.me (own_session c.state) r.seq name o
request_payload c r (call.Query level name q) = payload.Query c.me (own_session c.state) r.number level c.sequencer.seen r.seq name q

abbrev pub payload_of : Client → Request → Payload
payload_of c r = request_payload c r r.call

abbrev pub makes_call : Client → List ℕ → Op → ClientStep
makes_call c name o = let w = call.Command name o in
    let d = record (with_request c (Some (suc c.commands)) None (suc c.commands) w) { commands = suc c.commands } in
    client_step d (called_item c (suc c.calls) w ∷ []) (to_server d (payload_of d (record { number = suc c.calls; seq = suc c.commands; call = w }) ∷ []))

abbrev pub queries : Client → Level → List ℕ → Query → ClientStep
queries c level name q = let w = call.Query level name q in
    let d = with_request c None (Some level) c.commands w in
    client_step d (called_item c (suc c.calls) w ∷ []) (to_server d (payload_of d (record { number = suc c.calls; seq = c.commands; call = w }) ∷ []))

-- a call at a client whose session has ended uses up the next number
abbrev pub unsent_number : Client → ℕ
unsent_number c = suc c.calls

abbrev pub unsent : Client → Client
unsent c = record c { calls = suc c.calls }

-- keep: a sign of life, which says what the client has (Ongaro 2014, 6.3)
abbrev pub keep_refusal : Client → Option SkipReason
keep_refusal c = refused_if (not (is_joined c.state)) reason.NoSession

abbrev pub keeps : Client → ClientStep
keeps c = client_step c [] (to_server c (payload.Keep c.me (own_session c.state) (sequencers.received c.sequencer) c.sequencer.heard ∷ []))

-- close: the end of a session without calls
abbrev pub close_refusal : Client → Option SkipReason
close_refusal c = if not (is_live_client c.state) then Some reason.NoSession else refused_if (nat_lt 0 (sequencers.unanswered_count c.sequencer)) (reason.Busy (sequencers.unanswered_count c.sequencer))

abbrev pub close_of : Client → Payload
close_of c = payload.Close c.me (own_session c.state)

abbrev pub closes : Client → ClientStep
closes c = let d = record c { state = state.Closing (own_session c.state) } in client_step d [] (to_server d (close_of d ∷ []))

-- whether a call has no answer here yet
abbrev pub lacks_answer : List sequencers.Unanswered → ℕ → Bool
lacks_answer [] number = false
lacks_answer (u ∷ us) number = if nat_eq u.number number then not (is_some u.got) else lacks_answer us number

-- the calls that lack an answer, in order
abbrev pub open_requests : Client → List Request
open_requests c = filter (λ r. lacks_answer c.sequencer.calls r.number) c.requests

abbrev pub connect_of : Client → Payload
connect_of c = payload.Connect c.me (own_session c.state) c.sequencer.heard

-- resend: what may have been lost is sent again
abbrev pub resend_refusal : Client → Option SkipReason
resend_refusal c = refused_if (not (is_busy c.state)) reason.NoSession

abbrev pub again_of : Client → List Payload
again_of c =
    if is_opening c.state then register_of c ∷ []
    else if is_joined c.state then connect_of c ∷ map (payload_of c) (open_requests c) ++ (if is_closing c.state then close_of c ∷ [] else [])
    else []

abbrev pub resends : Client → ClientStep
resends c = client_step c [] (to_server c (again_of c))

-- switch: another server, and then as resend
abbrev pub switches : Client → ℕ → ClientStep
switches c node = resends (record c { switch = sequencers.moved_to c.switch node })
