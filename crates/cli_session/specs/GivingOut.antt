-- A release as it is made: each answer with the first request that is left.
use Rattle.std.specs.Prelude.{ℕ, Bool, true, false, if◌then◌else◌, List, [], ◌∷◌, ◌++◌, map, filter}
use Rattle.ax_types.specs.declared.items.Item.{Item}
use Rattle.ax_types.specs.declared.items.Item.TheVariants as item
use Rattle.ax_types.specs.declared.ops.WindowCall.{WindowCall}
use Rattle.ax_types.specs.declared.ops.WindowCall.TheVariants as call
use Rattle.ax_types.specs.declared.packets.Payload.{Payload}
use Rattle.ax_types.specs.declared.sessions.Got.{Got}
use Rattle.spec_sequencer.specs.Sequencers as sequencers
use Rattle.spec_client.specs.Clients as clients
use Rattle.spec_client.specs.Receipts as receipts

-- the items of answers that are given out in order of call
abbrev pub given_out : ℕ → List (ℕ × Got) → List clients.Request → List Item
given_out session [] rs = []
given_out session (g ∷ gots) [] = []
given_out session (g ∷ gots) (r ∷ rs) = receipts.answer_item session g.1 r r.call ∷ given_out session gots rs

-- the requests that are left
abbrev pub requests_after : List (ℕ × Got) → List clients.Request → List clients.Request
requests_after [] rs = rs
requests_after (g ∷ gots) [] = []
requests_after (g ∷ gots) (r ∷ rs) = requests_after gots rs

-- what is sent for the requests of calls that lack an answer
abbrev pub open_payloads : clients.Client → List clients.Request → List Payload
open_payloads c rs = map (clients.payload_of c) (filter (λ r. clients.lacks_answer c.sequencer.calls r.number) rs)

-- and of those the commands above the last one that the session state knows
abbrev pub gap_payloads : clients.Client → ℕ → List clients.Request → List Payload
gap_payloads c last rs = map (clients.payload_of c) (filter (λ r. receipts.is_command_above last r r.call) (filter (λ r. clients.lacks_answer c.sequencer.calls r.number) rs))

-- what is sent for one request
abbrev pub payload_if : Bool → clients.Client → clients.Request → List Payload
payload_if b c r = if b then clients.payload_of c r ∷ [] else []

-- the answers given out in order, and the query that is asked again
abbrev pub gives : clients.Client → List Item → clients.ClientStep
gives c first = let r = sequencers.release_of c.sequencer in
    let d = record c { sequencer = sequencers.released c.sequencer; requests = requests_after r.items c.requests } in
    clients.client_step d (first ++ given_out (clients.own_session c.state) r.items c.requests) (clients.to_server d (receipts.asked_again d r.again))

-- whether a call is a query
abbrev pub is_query_call : WindowCall → Bool
is_query_call (call.Command name o) = false
is_query_call (call.Query level name q) = true

-- what becomes of a request without an outcome when its session ends
abbrev pub item_at_end : ℕ → clients.Request → Item
item_at_end session r = if is_query_call r.call then item.Lost session r.number else item.Doubt session r.number
