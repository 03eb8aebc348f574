-- What a client does with a payload from a node; every other payload, and every one for another session or state, is ignored.
use Rattle.std.specs.Prelude.{ℕ, Bool, true, false, ◌&&◌, nat_eq, nat_lt, Option, Some, None, is_some, List, [], ◌∷◌, ◌++◌, map, filter, find, if◌then◌else◌}
use Rattle.std.specs.List.{list_any}
use Rattle.ax_types.specs.declared.entries.Batch.{Batch}
use Rattle.ax_types.specs.declared.items.Item.{Item}
use Rattle.ax_types.specs.declared.items.Item.TheVariants as item
use Rattle.ax_types.specs.declared.ops.Level.{Level}
use Rattle.ax_types.specs.declared.ops.Level.TheVariants as level
use Rattle.ax_types.specs.declared.ops.WindowCall.{WindowCall}
use Rattle.ax_types.specs.declared.ops.WindowCall.TheVariants as call
use Rattle.ax_types.specs.declared.packets.Payload.{Payload}
use Rattle.ax_types.specs.declared.packets.Payload.TheVariants as payload
use Rattle.ax_types.specs.declared.replies.How.{How}
use Rattle.ax_types.specs.declared.sessions.ClientState.TheVariants as state
use Rattle.ax_types.specs.declared.sessions.Got.{Got}
use Rattle.ax_types.specs.declared.sessions.Heard.{Heard}
use Rattle.ax_types.specs.declared.sessions.Heard.TheVariants as heard
use Rattle.spec_sequencer.specs.Sequencers as sequencers
use Rattle.spec_client.specs.Clients as clients

-- whether a payload is for the client's session, where it is open
abbrev pub is_own_live : clients.Client → ℕ → Bool
is_own_live c session = clients.is_live_client c.state && nat_eq session (clients.own_session c.state)

-- and where it is open or closing
abbrev pub is_own : clients.Client → ℕ → Bool
is_own c session = clients.is_joined c.state && nat_eq session (clients.own_session c.state)

-- the session of the current opening is taken
abbrev pub takes_opened : clients.Client → ℕ → clients.ClientStep
takes_opened c session = let d = record c { state = state.Live session; switch = sequencers.with_opened c.switch; calls = 0; commands = 0; sequencer = sequencers.new_sequencer session; requests = [] } in
    clients.client_step d (item.Opened session c.me ∷ []) (clients.to_server d (clients.connect_of d ∷ []))

-- the item of an answer that is given out
abbrev pub answer_item : ℕ → Got → clients.Request → WindowCall → Item
answer_item session g r (call.Command name o) = item.Reply session r.number g.place g.reply
answer_item session g r (call.Query l name q) = item.Read session r.number l g.place g.reach g.reply

abbrev pub request : List clients.Request → ℕ → Option clients.Request
request requests number = find (λ r. nat_eq r.number number) requests

abbrev pub item_for : ℕ → Got → Option clients.Request → List Item
item_for session g None = []
item_for session g (Some r) = answer_item session g r r.call ∷ []

abbrev pub items_of : clients.Client → List (ℕ × Got) → List Item
items_of c [] = []
items_of c (g ∷ gots) = item_for (clients.own_session c.state) g.1 (request c.requests g.0) ++ items_of c gots

-- the query that is asked again
abbrev pub payload_for : clients.Client → Option clients.Request → List Payload
payload_for c None = []
payload_for c (Some r) = clients.payload_of c r ∷ []

abbrev pub asked_again : clients.Client → Option ℕ → List Payload
asked_again c None = []
asked_again c (Some number) = payload_for c (request c.requests number)

-- the requests of the calls that still lack an outcome
abbrev pub lacks_outcome : List sequencers.Unanswered → ℕ → Bool
lacks_outcome us number = list_any (λ u. nat_eq u.number number) us

abbrev pub requests_left : List clients.Request → List sequencers.Unanswered → List clients.Request
requests_left requests us = filter (λ r. lacks_outcome us r.number) requests

-- release: the answers given out in order, and the query that is asked again
abbrev pub releases : clients.Client → List Item → clients.ClientStep
releases c first = let r = sequencers.release_of c.sequencer in
    let d = record c { sequencer = sequencers.released c.sequencer; requests = requests_left c.requests r.calls } in
    clients.client_step d (first ++ items_of c r.items) (clients.to_server d (asked_again d r.again))

-- a call gets its answer: the first one is kept
abbrev pub gets : clients.Client → Option sequencers.Unanswered → Got → clients.ClientStep
gets c None g = clients.ignores c
gets c (Some u) g = if is_some u.got then clients.ignores c else releases (record c { sequencer = sequencers.with_answer c.sequencer u.number g }) []

abbrev pub has_seq : ℕ → Option ℕ → Bool
has_seq seq None = false
has_seq seq (Some n) = nat_eq n seq

abbrev pub same_level : Level → Level → Bool
same_level level.Seq level.Seq = true
same_level level.Lin level.Lin = true
same_level _ _ = false

abbrev pub has_level : Level → Option Level → Bool
has_level l None = false
has_level l (Some k) = same_level k l

abbrev pub asked_command : List sequencers.Unanswered → ℕ → Option sequencers.Unanswered
asked_command us seq = find (λ u. has_seq seq u.seq) us

abbrev pub asked_query : List sequencers.Unanswered → ℕ → Level → Option sequencers.Unanswered
asked_query us number l = find (λ u. nat_eq u.number number && has_level l u.level) us

-- where a linearizable query reached its leader
abbrev pub reach_of : Level → ℕ → ℕ → Option (ℕ × ℕ)
reach_of level.Seq term arrival = None
reach_of level.Lin term arrival = Some (term, arrival)

-- commands above the last one that the session state knows are sent again
abbrev pub is_command_above : ℕ → clients.Request → WindowCall → Bool
is_command_above last r (call.Command name o) = nat_lt last r.seq
is_command_above last r (call.Query l name q) = false

abbrev pub gap_of : clients.Client → ℕ → List Payload
gap_of c last = map (clients.payload_of c) (filter (λ r. is_command_above last r r.call) (clients.open_requests c))

-- a batch of events: the next one is told, and lets answers go that waited for it
abbrev pub takes_batch : clients.Client → ℕ → Batch → Heard → clients.ClientStep
takes_batch c node b heard.Old = clients.ignores c
takes_batch c node b heard.Taken = releases (record c { sequencer = sequencers.with_heard c.sequencer b }) (item.Event (clients.own_session c.state) b.place b.prev b.events ∷ [])
takes_batch c node b (heard.Missing h) = clients.client_step c [] ((node, payload.Reset c.me (clients.own_session c.state) h) ∷ [])

-- the end of the session: its calls without an outcome are in doubt, or lost
abbrev pub outcome_at_end : ℕ → sequencers.Unanswered → Item
outcome_at_end session u = if sequencers.is_query u then item.Lost session u.number else item.Doubt session u.number

abbrev pub takes_end : clients.Client → ℕ → ℕ → How → clients.ClientStep
takes_end c session place h = clients.client_step (record c { state = state.Ended session; sequencer = record c.sequencer { calls = [] }; requests = [] })
    (item.Ended session place h ∷ map (outcome_at_end session) c.sequencer.calls) []

-- a payload from a node
abbrev pub receives : clients.Client → ℕ → Payload → clients.ClientStep
receives c node (payload.Opened opening session) = if clients.is_opening c.state && sequencers.accepts c.switch opening then takes_opened c session else clients.ignores c
receives c node (payload.Reply session seq place events reply) =
    if is_own_live c session then gets c (asked_command c.sequencer.calls seq) (record { place = place; events = events; reach = None; reply = reply }) else clients.ignores c
receives c node (payload.Answer session number l place events term arrival reply) =
    if is_own_live c session then gets c (asked_query c.sequencer.calls number l) (record { place = place; events = events; reach = reach_of l term arrival; reply = reply }) else clients.ignores c
receives c node (payload.Gap session last) = if is_own_live c session then clients.client_step c [] (clients.to_server c (gap_of c last)) else clients.ignores c
receives c node (payload.Batch session place prev events) =
    if is_own c session then (let b : Batch = record { place = place; prev = prev; events = events } in takes_batch c node b (sequencers.heard_of c.sequencer b)) else clients.ignores c
receives c node (payload.Ended session place h) = if is_own c session then takes_end c session place h else clients.ignores c
receives c node _ = clients.ignores c
