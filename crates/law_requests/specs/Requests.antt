-- What a client's requests say: its sessions, and its calls as their items show them.
use Rattle.std.specs.Prelude.{ℕ, ◌≡◌, ◌≤◌, Some, List, [], ◌∷◌, reverse}
use Rattle.std.specs.List.{AllByRecursion}
use Rattle.ax_types.specs.Places as lists
use Rattle.ax_types.specs.declared.items.Item.{Item}
use Rattle.ax_types.specs.declared.items.Item.TheVariants as item
use Rattle.ax_types.specs.declared.ops.Level.{Level}
use Rattle.ax_types.specs.declared.ops.Op.{Op}
use Rattle.ax_types.specs.declared.ops.Query.{Query}
use Rattle.ax_types.specs.declared.ops.WindowCall.TheVariants as call
use Rattle.ax_types.specs.declared.packets.Payload.{Payload}
use Rattle.ax_types.specs.declared.packets.Payload.TheVariants as payload
use Rattle.spec_book.specs.History as histories
use Rattle.spec_claims.specs.Transcript as transcripts
use Rattle.spec_claims.specs.Once as claims_once
use Rattle.law_client.specs.Inputs as inputs
use Rattle.law_client.specs.Standing as standing
use Rattle.law_client.specs.Promises as promises

-- a command that was called, whose sequence is its rank among the session's commands; so it is the one of that rank
pub record IsCommandCalled (above : List Item) (s seq : ℕ) (name : List ℕ) (o : Op) : Type 0 where
  pub number : ℕ
  pub called : transcripts.StandsIn (item.Called s number (call.Command name o)) above
  pub rank : seq ≡ transcripts.commands_upto s number above
  pub in_order : lists.at_place (claims_once.commands s (reverse above)) seq ≡ Some (name, o)

-- a query that was called, with the number of the commands called before it
pub record IsQueryCalled (above : List Item) (s n : ℕ) (l : Level) (seq : ℕ) (name : List ℕ) (q : Query) : Type 0 where
  pub called : transcripts.StandsIn (item.Called s n (call.Query l name q)) above
  pub rank : seq ≡ transcripts.commands_below s n above

-- the client, and a session that the history opens for it, whose opening it showed
pub record IsFrom (h : histories.History) (seat : inputs.Seat) (c s : ℕ) : Type 0 where
  pub client : c ≡ seat.client.me
  pub opened : standing.IsOpenedFor seat.client.me h seat.above s

-- what a request of a client says; it sends no others
abbrev pub RequestSays : histories.History → inputs.Seat → Payload → Type 0
RequestSays h seat (payload.Register c opening) = (c ≡ seat.client.me) × (opening ≤ seat.client.switch.opening)
RequestSays h seat (payload.Keep c s answered heard) = IsFrom h seat c s
RequestSays h seat (payload.Command c s seq name o) = IsFrom h seat c s × IsCommandCalled seat.above s seq name o
RequestSays h seat (payload.Close c s) = IsFrom h seat c s × inputs.HasClosed seat s
RequestSays h seat (payload.Connect c s heard) = IsFrom h seat c s
RequestSays h seat (payload.Reset c s heard) = IsFrom h seat c s
RequestSays h seat (payload.Query c s n l seen seq name q) = IsFrom h seat c s × IsQueryCalled seat.above s n l seq name q
RequestSays h seat p = ⊥

-- what a client sends in a step, by how it stands then
abbrev pub AllSay : histories.History → inputs.Seat → List (ℕ × Payload) → Type 0
AllSay h seat sends = AllByRecursion (λ x. RequestSays h seat x.1) sends

abbrev pub RequestsSayCalls : Type 0
RequestsSayCalls = (h : histories.History) (seat : inputs.Seat) (i : inputs.Input) → standing.Stands h seat → inputs.MayReach h seat i
    → AllSay h (inputs.seat_after seat (inputs.Does i)) (inputs.client_stepped seat.client i).out.sends

-- each step of a client that was new, whatever happened at it
abbrev pub EachSays : histories.History → inputs.Seat → List inputs.Happening → Type 0
EachSays h seat [] = Unit {0}
EachSays h seat (inputs.Does i ∷ xs) = AllSay h (inputs.seat_after seat (inputs.Does i)) (inputs.client_stepped seat.client i).out.sends × EachSays h (inputs.seat_after seat (inputs.Does i)) xs
EachSays h seat (inputs.Sees x ∷ xs) = EachSays h (inputs.seat_after seat (inputs.Sees x)) xs

abbrev pub EachRequestSays : Type 0
EachRequestSays = promises.AlwaysAtClient (λ h me xs. EachSays h (inputs.new_seat me) xs)

-- what a request says stays so
abbrev pub SaidStaysSaid : Type 0
SaidStaysSaid = (h : histories.History) (seat : inputs.Seat) (x : inputs.Happening) (p : Payload) → standing.Stands h seat → inputs.MayHappen h seat x
    → RequestSays h seat p → RequestSays h (inputs.seat_after seat x) p

-- a close that was asked for stays so
abbrev pub ClosesStay : Type 0
ClosesStay = (seat : inputs.Seat) (x : inputs.Happening) (s : ℕ) → inputs.HasClosed seat s → inputs.HasClosed (inputs.seat_after seat x) s

-- the items of a step are of sessions that the history opens for the client, whose openings stand among the items
abbrev pub OwnItems : histories.History → inputs.Seat → List inputs.Happening → Type 0
OwnItems h seat [] = Unit {0}
OwnItems h seat (inputs.Does i ∷ xs) =
    let after = inputs.seat_after seat (inputs.Does i) in
    AllByRecursion (λ x. standing.IsOfOwn after.client.me h after.above (inputs.session_in x)) (inputs.client_stepped seat.client i).out.items × OwnItems h after xs
OwnItems h seat (inputs.Sees x ∷ xs) = OwnItems h (inputs.seat_after seat (inputs.Sees x)) xs

abbrev pub OwnItemsAreOfOwnSessions : Type 0
OwnItemsAreOfOwnSessions = promises.AlwaysAtClient (λ h me xs. OwnItems h (inputs.new_seat me) xs)
