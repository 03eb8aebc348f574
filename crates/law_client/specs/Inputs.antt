-- What happens at one client, in any order: its own calls, payloads that reach it, and items of others between its own.
use Rattle.std.specs.Prelude.{ℕ, ◌≡◌, ◌⊎◌, Option, Some, None, List, [], ◌∷◌, ◌++◌, reverse, if◌then◌else◌}
use Rattle.ax_types.specs.Places as lists
use Rattle.ax_types.specs.declared.items.Item.{Item}
use Rattle.ax_types.specs.declared.items.Item.TheVariants as item
use Rattle.ax_types.specs.declared.items.SkipReason.{SkipReason}
use Rattle.ax_types.specs.declared.ops.Level.{Level}
use Rattle.ax_types.specs.declared.ops.Op.{Op}
use Rattle.ax_types.specs.declared.ops.Query.{Query}
use Rattle.ax_types.specs.declared.packets.Payload.{Payload}
use Rattle.ax_types.specs.declared.packets.Payload.TheVariants as payload
use Rattle.ax_types.specs.declared.replies.How.{How}
use Rattle.ax_types.specs.declared.replies.How.TheVariants as how
use Rattle.ax_types.specs.declared.sessions.ClientState.TheVariants as state
use Rattle.spec_book.specs.History as histories
use Rattle.spec_claims.specs.Transcript as transcripts
use Rattle.spec_claims.specs.Payloads as payloads
use Rattle.spec_client.specs.Clients as clients
use Rattle.spec_client.specs.Receipts as receipts

pub data Input : Type 0 where
  Opens : ℕ → Input
  Calls : List ℕ → Op → Input
  Queries : Level → List ℕ → Query → Input
  Keeps : Input
  Closes : Input
  Resends : Input
  Switches : ℕ → Input
  Receives : ℕ → Payload → Input

-- a step that is refused changes nothing
abbrev pub unless : Option SkipReason → clients.Client → clients.ClientStep → clients.ClientStep
unless None c next = next
unless (Some r) c next = clients.ignores c

-- a call at a client whose session has ended uses up a number
abbrev pub uses_number : clients.Client → clients.ClientStep
uses_number c = clients.client_step (clients.unsent c) (item.Unsent (clients.own_session c.state) (clients.unsent_number c) ∷ []) []

abbrev pub calls_or_not : clients.Client → clients.ClientStep → clients.ClientStep
calls_or_not c next = if clients.has_ended c.state then uses_number c else unless (clients.call_refusal c) c next

abbrev pub client_stepped : clients.Client → Input → clients.ClientStep
client_stepped c (Opens node) = unless (clients.open_refusal c) c (clients.opens c node)
client_stepped c (Calls name o) = calls_or_not c (clients.makes_call c name o)
client_stepped c (Queries level name q) = calls_or_not c (clients.queries c level name q)
client_stepped c Keeps = unless (clients.keep_refusal c) c (clients.keeps c)
client_stepped c Closes = unless (clients.close_refusal c) c (clients.closes c)
client_stepped c Resends = unless (clients.resend_refusal c) c (clients.resends c)
client_stepped c (Switches node) = clients.switches c node
client_stepped c (Receives node p) = receipts.receives c node p

-- a client, and the items above, the nearest first
pub record Seat : Type 0 where
  pub client : clients.Client
  pub above : List Item

abbrev pub new_seat : ℕ → Seat
new_seat me = record { client = clients.new_client me; above = [] }

-- an input of the client, or an item of a node or of another client
pub data Happening : Type 0 where
  Does : Input → Happening
  Sees : Item → Happening

abbrev pub seat_after : Seat → Happening → Seat
seat_after seat (Does i) = let next = client_stepped seat.client i in record { client = next.client; above = reverse next.out.items ++ seat.above }
seat_after seat (Sees x) = record seat { above = x ∷ seat.above }

abbrev pub seat_after_all : Seat → List Happening → Seat
seat_after_all seat [] = seat
seat_after_all seat (x ∷ xs) = seat_after_all (seat_after seat x) xs

-- the session that an item is of
abbrev pub session_in : Item → Option ℕ
session_in (item.Opened s c) = Some s
session_in (item.Called s n w) = Some s
session_in (item.Event s p prev es) = Some s
session_in (item.Reply s n p r) = Some s
session_in (item.Read s n l p reach r) = Some s
session_in (item.Ended s p h) = Some s
session_in (item.Doubt s n) = Some s
session_in (item.Lost s n) = Some s
session_in (item.Unsent s n) = Some s
session_in (item.Unanswered s n) = Some s
session_in x = None

-- the history opens the session for another client
pub record IsOthers (me : ℕ) (h : histories.History) (s : ℕ) : Type 0 where
  pub client : ℕ
  pub opening : ℕ
  pub opened : payloads.IsOpeningOf client opening (lists.at_place h s)
  pub other : me ≡ client → ⊥

abbrev pub IsOfOthers : ℕ → histories.History → Option ℕ → Type 0
IsOfOthers me h None = Unit {0}
IsOfOthers me h (Some s) = IsOthers me h s

-- the client has asked to close the session: it waits for the end, or the end was told
abbrev pub HasClosed : Seat → ℕ → Type 0
HasClosed seat s = (seat.client.state ≡ state.Closing s) ⊎ ((p : ℕ) × (h : How) × transcripts.StandsIn (item.Ended s p h) seat.above)

-- the end of the client's session by a close is told only where the client has asked for it
abbrev pub IsAskedEnd : Seat → Payload → Type 0
IsAskedEnd seat (payload.Ended s p how.Closed) = clients.own_session seat.client.state ≡ s → HasClosed seat s
IsAskedEnd seat p = Unit {0}

-- a payload may reach the client where what it tells is true by then
abbrev pub MayReach : histories.History → Seat → Input → Type 0
MayReach h seat (Receives node p) = payloads.IsTruePayload seat.above h seat.client.me p × IsAskedEnd seat p
MayReach h seat i = Unit {0}

abbrev pub MayHappen : histories.History → Seat → Happening → Type 0
MayHappen h seat (Does i) = MayReach h seat i
MayHappen h seat (Sees x) = IsOfOthers seat.client.me h (session_in x)

abbrev pub AllMayHappen : histories.History → Seat → List Happening → Type 0
AllMayHappen h seat [] = Unit {0}
AllMayHappen h seat (x ∷ xs) = MayHappen h seat x × AllMayHappen h (seat_after seat x) xs
