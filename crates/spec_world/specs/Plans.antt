-- What a step asks for: a server's step, a load, a client's step, or nothing but items, with every reason for a skip.
use Rattle.std.specs.Prelude.{ℕ, Bool, true, false, nat_lt, Option, Some, None, List, [], ◌∷◌, ◌++◌, if◌then◌else◌}
use Rattle.std.specs.List.{list_any}
use Rattle.ax_types.specs.Places as lists
use Rattle.ax_types.specs.declared.ids.End.{End}
use Rattle.ax_types.specs.declared.ids.End.TheVariants as end
use Rattle.ax_types.specs.declared.items.Item.{Item}
use Rattle.ax_types.specs.declared.items.Item.TheVariants as item
use Rattle.ax_types.specs.declared.items.SkipReason.{SkipReason}
use Rattle.ax_types.specs.declared.items.SkipReason.TheVariants as reason
use Rattle.ax_types.specs.declared.packets.Packet.{Packet}
use Rattle.ax_types.specs.declared.packets.Payload.{Payload}
use Rattle.ax_types.specs.declared.sessions.ServerInput.{ServerInput}
use Rattle.ax_types.specs.declared.sessions.ServerInput.TheVariants as input
use Rattle.ax_types.specs.declared.steps.Step.{Step}
use Rattle.ax_types.specs.declared.steps.Step.TheVariants as step
use Rattle.ax_types.specs.declared.steps.WatchKind.{WatchKind}
use Rattle.ax_types.specs.declared.steps.WatchKind.TheVariants as watch
use Rattle.spec_wire.specs.Spelling as wire_spelling
use Rattle.spec_cluster.specs.Bag as bags
use Rattle.spec_server.specs.Servers as servers
use Rattle.spec_client.specs.Clients as clients
use Rattle.spec_client.specs.Receipts as receipts
use Rattle.spec_world.specs.Worlds as worlds

-- a server's input at a node, the load of a node's store, a client's step, or nothing but items; each with the world that it starts from
pub data Plan : Type 0 where
  Serves : worlds.World → ℕ → worlds.Host → ServerInput → Plan
  Loads : worlds.World → ℕ → worlds.Host → Plan
  Asks : worlds.World → ℕ → worlds.Watcher → clients.ClientStep → Plan
  Shows : worlds.World → List Item → Plan

abbrev pub shows_nothing : worlds.World → Plan
shows_nothing w = Shows w []

abbrev pub skips : worlds.World → SkipReason → Plan
skips w r = Shows w (item.Skip r ∷ [])

-- a step of a node that is up; elect of one that leads already, and beat and expire of one that does not, are skipped
abbrev pub elects : worlds.World → ℕ → Option worlds.Host → Plan
elects w k None = shows_nothing w
elects w k (Some h) = if h.is_up then (if servers.leads h.server then skips w reason.IsLeader else Serves w k h (input.Elect h.clock)) else skips w reason.NodeDown

abbrev pub led_step : worlds.World → ℕ → Option worlds.Host → (ℕ → ServerInput) → Plan
led_step w k None i = shows_nothing w
led_step w k (Some h) i = if h.is_up then (if servers.leads h.server then Serves w k h (i h.clock) else skips w reason.NotLeader) else skips w reason.NodeDown

abbrev pub crashes : worlds.World → ℕ → Option worlds.Host → Plan
crashes w k None = shows_nothing w
crashes w k (Some h) = if h.is_up then shows_nothing (worlds.with_host w k (worlds.fallen_host w k h (worlds.kept_by h) [])) else skips w reason.NodeDown

abbrev pub starts : worlds.World → ℕ → Option worlds.Host → Plan
starts w k None = shows_nothing w
starts w k (Some h) = if h.is_up then skips w reason.NodeUp else Loads w k h

abbrev pub sets_clock : worlds.World → ℕ → ℕ → Option worlds.Host → Plan
sets_clock w k time None = shows_nothing w
sets_clock w k time (Some h) = shows_nothing (worlds.with_host w k (record h { clock = time }))

-- a packet reaches its receiver
abbrev pub reaches_node : worlds.World → ℕ → Packet → Option worlds.Host → Plan
reaches_node w k p None = shows_nothing w
reaches_node w k p (Some h) = Serves w k h (input.Packet h.clock p)

abbrev pub receives_from : worlds.World → ℕ → Payload → End → Option worlds.Watcher → Plan
receives_from w c p «from» None = shows_nothing w
receives_from w c p (end.Node k) (Some s) = Asks w c s (receipts.receives s.client k p)
receives_from w c p (end.Client d) (Some s) = shows_nothing w

abbrev pub reaches : worlds.World → Packet → End → Plan
reaches w p (end.Node k) = reaches_node w k p (lists.at_place w.hosts k)
reaches w p (end.Client c) = receives_from w c p.payload p.«from» (lists.at_place w.seats c)

-- a packet that is kept is delivered: it is marked, and reaches its receiver whole or is ignored
abbrev pub delivers_slot : worlds.World → ℕ → Option bags.KeptPacket → (Packet → Bool) → Plan
delivers_slot w number None is_whole = shows_nothing w
delivers_slot w number (Some s) is_whole = let m = record w { bag = bags.with_mark w.bag number } in
    if is_whole s.packet then reaches m s.packet s.packet.to else shows_nothing m

abbrev pub delivers_if : worlds.World → ℕ → (Packet → Bool) → Option SkipReason → Plan
delivers_if w number is_whole (Some r) = skips w r
delivers_if w number is_whole None = delivers_slot w number (bags.kept_at w.bag number) is_whole

abbrev pub delivers : worlds.World → ℕ → (Packet → Bool) → Plan
delivers w number is_whole = delivers_if w number is_whole (bags.take_refusal w.bag (worlds.up_nodes w) number)

-- the first bytes of a packet's spelling are the packet where they are all of them
abbrev pub is_within : ℕ → Packet → Bool
is_within bytes p = if nat_lt bytes (wire_spelling.payload_length p.payload) then false else true

abbrev pub drops : worlds.World → ℕ → Option SkipReason → Plan
drops w number (Some r) = skips w r
drops w number None = shows_nothing (record w { bag = bags.with_mark w.bag number })

-- a client's own step, or the reason why it is skipped
abbrev pub client_asks_if : worlds.World → ℕ → worlds.Watcher → Option SkipReason → clients.ClientStep → Plan
client_asks_if w c s (Some r) next = skips w r
client_asks_if w c s None next = Asks w c s next

abbrev pub client_asks : worlds.World → ℕ → Option worlds.Watcher → (clients.Client → Option SkipReason) → (clients.Client → clients.ClientStep) → Plan
client_asks w c None refusal next = shows_nothing w
client_asks w c (Some s) refusal next = client_asks_if w c s (refusal s.client) (next s.client)

-- a call at a client whose session has ended uses up a number and is unsent
abbrev pub calls_at : worlds.World → ℕ → Option worlds.Watcher → (clients.Client → clients.ClientStep) → Plan
calls_at w c None next = shows_nothing w
calls_at w c (Some s) next =
    if clients.has_ended s.client.state then Shows (worlds.with_watcher w c (record s { client = clients.unsent s.client })) (item.Unsent (clients.own_session s.client.state) (clients.unsent_number s.client) ∷ [])
    else client_asks_if w c s (clients.call_refusal s.client) (next s.client)

-- a watch is set once
abbrev pub same_kind : WatchKind → WatchKind → Bool
same_kind watch.All watch.All = true
same_kind watch.Changes watch.Changes = true
same_kind watch.Grants watch.Grants = true
same_kind _ _ = false

abbrev pub watches_at : worlds.World → ℕ → WatchKind → Option worlds.Watcher → Plan
watches_at w c kind None = shows_nothing w
watches_at w c kind (Some s) = if list_any (same_kind kind) s.watches then skips w reason.Watched else shows_nothing (worlds.with_watcher w c (record s { watches = s.watches ++ kind ∷ [] }))

abbrev pub never : clients.Client → Option SkipReason
never c = None

-- what a step asks for
abbrev pub plan : worlds.World → Step → Plan
plan w (step.Elect k) = elects w k (lists.at_place w.hosts k)
plan w (step.Beat k) = led_step w k (lists.at_place w.hosts k) input.Beat
plan w (step.Crash k) = crashes w k (lists.at_place w.hosts k)
plan w (step.Start k) = starts w k (lists.at_place w.hosts k)
plan w (step.Clock k time) = sets_clock w k time (lists.at_place w.hosts k)
plan w (step.Expire k) = led_step w k (lists.at_place w.hosts k) input.Check
plan w (step.Cut a b) = shows_nothing (record w { bag = bags.with_cut w.bag a b })
plan w (step.Join a b) = shows_nothing (record w { bag = bags.with_join w.bag a b })
plan w (step.Deliver number) = delivers w number (λ p. true)
plan w (step.Drop number) = drops w number (bags.mark_refusal w.bag number)
plan w (step.Short number bytes) = delivers w number (is_within bytes)
plan w step.List = Shows w (item.Listed (bags.pending_count w.bag) ∷ bags.pending_items w.bag)
plan w (step.Open c k) = client_asks w c (lists.at_place w.seats c) clients.open_refusal (λ x. clients.opens x k)
plan w (step.Switch c k) = client_asks w c (lists.at_place w.seats c) never (λ x. clients.switches x k)
plan w (step.Resend c) = client_asks w c (lists.at_place w.seats c) clients.resend_refusal clients.resends
plan w (step.Keep c) = client_asks w c (lists.at_place w.seats c) clients.keep_refusal clients.keeps
plan w (step.Close c) = client_asks w c (lists.at_place w.seats c) clients.close_refusal clients.closes
plan w (step.Watch c kind) = watches_at w c kind (lists.at_place w.seats c)
plan w (step.Call c name o) = calls_at w c (lists.at_place w.seats c) (λ x. clients.makes_call x name o)
plan w (step.Query c level name q) = calls_at w c (lists.at_place w.seats c) (λ x. clients.queries x level name q)
