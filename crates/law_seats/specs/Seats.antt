-- The clients of a run, each at its seat: how they stand to the items above and to a history, as long as what the network keeps
-- for them is true.
use Rattle.std.specs.Prelude.{ℕ, ◌≡◌, not, Some, None, Option, List, [], ◌∷◌, ◌++◌, filter, reverse}
use Rattle.std.specs.List.{AllByRecursion}
use Rattle.ax_types.specs.Places as lists
use Rattle.ax_types.specs.declared.ids.End.{End}
use Rattle.ax_types.specs.declared.ids.End.TheVariants as end
use Rattle.ax_types.specs.declared.items.Item.{Item}
use Rattle.ax_types.specs.declared.packets.Packet.{Packet}
use Rattle.ax_types.specs.declared.packets.Payload.{Payload}
use Rattle.ax_types.specs.declared.steps.KeptStep.{KeptStep}
use Rattle.spec_book.specs.History as histories
use Rattle.spec_claims.specs.Transcript as transcripts
use Rattle.spec_claims.specs.Once as claims_once
use Rattle.spec_claims.specs.Heard as claims_heard
use Rattle.spec_claims.specs.OutcomeOrder as outcome_order
use Rattle.spec_claims.specs.Payloads as payloads
use Rattle.spec_world.specs.Worlds as worlds
use Rattle.spec_world.specs.Moves as moves
use Rattle.spec_run.specs.Run as runs
use Rattle.law_growth.specs.PlanCases as plan_cases
use Rattle.law_client.specs.Inputs as inputs
use Rattle.law_client.specs.Standing as standing
use Rattle.law_client.specs.Promises as promises

-- items without those that watches show
abbrev pub unwatched : List Item → List Item
unwatched items = filter (λ x. not (claims_heard.is_watched x)) items

-- a client below these items, the nearest first
abbrev pub seat_below : List Item → worlds.Watcher → inputs.Seat
seat_below above s = record { client = s.client; above = unwatched above }

-- the history opens the session for one of the clients
pub record IsOfSeat (h : histories.History) (seats : List worlds.Watcher) (s : ℕ) : Type 0 where
  pub client : ℕ
  pub opening : ℕ
  pub seat : worlds.Watcher
  pub found : lists.at_place seats client ≡ Some seat
  pub opened : payloads.IsOpeningOf client opening (lists.at_place h s)

abbrev pub IsOfSeats : histories.History → List worlds.Watcher → Option ℕ → Type 0
IsOfSeats h seats None = Unit {0}
IsOfSeats h seats (Some s) = IsOfSeat h seats s

-- each client has its number and stands as its steps keep it; and each item is of a session that one of them opened, or of none
pub record AllStand (h : histories.History) (w : worlds.World) (above : List Item) : Type 0 where
  pub numbers : (c : ℕ) (s : worlds.Watcher) → lists.at_place w.seats c ≡ Some s → s.client.me ≡ c
  pub stand : (c : ℕ) (s : worlds.Watcher) → lists.at_place w.seats c ≡ Some s → standing.Stands h (seat_below above s)
  pub owned : AllByRecursion (λ x. IsOfSeats h w.seats (inputs.session_in x)) above

-- what a packet tells a client is true, and an end by a close is told only where it was asked for
abbrev pub IsTold : histories.History → worlds.World → List Item → Payload → End → Type 0
IsTold h w above p (end.Node k) = Unit {0}
IsTold h w above p (end.Client c) = payloads.IsTruePayload above h c p
    × ((s : worlds.Watcher) → lists.at_place w.seats c ≡ Some s → inputs.IsAskedEnd (seat_below above s) p)

abbrev pub AreTrueKept : histories.History → worlds.World → List Item → Type 0
AreTrueKept h w above = AllByRecursion (λ (p : Packet). IsTold h w above p.payload p.to) (plan_cases.kept_packets w.bag)

-- before each of these steps
abbrev pub AreTrueThrough : histories.History → worlds.World → List Item → List KeptStep → Type 0
AreTrueThrough h w above [] = Unit {0}
AreTrueThrough h w above (k ∷ steps) =
    let m = moves.moved w k in
    AreTrueKept h w above × AreTrueThrough h m.world (reverse m.items ++ above) steps

-- one step: the clients stand, the items of the step are as claimed, and end sessions as told
pub record SeatsKeep (h : histories.History) (w : worlds.World) (above : List Item) (k : KeptStep) : Type 0 where
  pub stand : AllStand h (moves.moved w k).world (reverse (moves.moved w k).items ++ above)
  pub claimed : transcripts.EachBelow (promises.IsClaimed h) above (moves.moved w k).items
  pub ends : outcome_order.EndsStep above (moves.moved w k).items

abbrev pub EachStepSeats : Type 0
EachStepSeats = (h : histories.History) (w : worlds.World) (above : List Item) (k : KeptStep) → AllStand h w above → AreTrueKept h w above → SeatsKeep h w above k

-- a run, for any history of which what was kept for clients was true before each step
pub record RunIsClaimed (h : histories.History) (nodes clients timeout : ℕ) (steps : List KeptStep) : Type 0 where
  pub stand : AllStand h (runs.run nodes clients timeout steps).world (reverse (transcripts.transcript (runs.run nodes clients timeout steps).shown))
  pub claimed : transcripts.EachItem (promises.IsClaimed h) (transcripts.transcript (runs.run nodes clients timeout steps).shown)
  pub ends : outcome_order.AreEnds (runs.run nodes clients timeout steps).shown
  pub heard : (s : ℕ) → claims_once.Begins (claims_heard.heard s (transcripts.transcript (runs.run nodes clients timeout steps).shown)) (histories.events h s)

abbrev pub RunsAreClaimed : Type 0
RunsAreClaimed = (h : histories.History) (nodes clients timeout : ℕ) (steps : List KeptStep) → AreTrueThrough h (worlds.new_world nodes clients timeout) [] steps
    → RunIsClaimed h nodes clients timeout steps
