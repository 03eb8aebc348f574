-- What requests say in a run: each that is under way, in a log, or committed, is one of its client.
use Rattle.std.specs.Prelude.{ℕ, ◌≡◌, Some, List, [], ◌++◌, reverse}
use Rattle.std.specs.List.{AllByRecursion}
use Rattle.ax_types.specs.Places as lists
use Rattle.ax_types.specs.declared.entries.Body.{Body}
use Rattle.ax_types.specs.declared.entries.Body.TheVariants as body
use Rattle.ax_types.specs.declared.entries.Entry.{Entry}
use Rattle.ax_types.specs.declared.items.Item.{Item}
use Rattle.ax_types.specs.declared.packets.Packet.{Packet}
use Rattle.ax_types.specs.declared.packets.Payload.{Payload}
use Rattle.ax_types.specs.declared.packets.Payload.TheVariants as payload
use Rattle.ax_types.specs.declared.steps.KeptStep.{KeptStep}
use Rattle.spec_book.specs.History as histories
use Rattle.spec_claims.specs.Transcript as transcripts
use Rattle.spec_world.specs.Worlds as worlds
use Rattle.spec_world.specs.Moves as moves
use Rattle.spec_run.specs.Run as runs
use Rattle.law_growth.specs.PlanCases as plan_cases
use Rattle.law_hosts.specs.Ledger as ledgers
use Rattle.law_requests.specs.Requests as requests
use Rattle.law_seats.specs.Seats as seats

-- what is said of the request that a body is made of
abbrev pub BodySays : (ℕ → Payload → Type 0) → Body → Type 0
BodySays S (body.Register c opening) = S c (payload.Register c opening)
BodySays S (body.Keep c s answered heard) = S c (payload.Keep c s answered heard)
BodySays S (body.Command c s seq name o) = S c (payload.Command c s seq name o)
BodySays S (body.Close c s) = S c (payload.Close c s)
BodySays S b = Unit {0}

abbrev pub EntriesSay : (ℕ → Payload → Type 0) → List Entry → Type 0
EntriesSay S es = AllByRecursion (λ (e : Entry). BodySays S e.body) es

-- what is said of a request by its client's number, and of the entries of an append
abbrev pub PayloadSays : (ℕ → Payload → Type 0) → Payload → Type 0
PayloadSays S (payload.Register c opening) = S c (payload.Register c opening)
PayloadSays S (payload.Keep c s answered heard) = S c (payload.Keep c s answered heard)
PayloadSays S (payload.Command c s seq name o) = S c (payload.Command c s seq name o)
PayloadSays S (payload.Close c s) = S c (payload.Close c s)
PayloadSays S (payload.Connect c s heard) = S c (payload.Connect c s heard)
PayloadSays S (payload.Reset c s heard) = S c (payload.Reset c s heard)
PayloadSays S (payload.Query c s n l seen seq name q) = S c (payload.Query c s n l seen seq name q)
PayloadSays S (payload.Append term prev prev_term commit round es) = EntriesSay S es
PayloadSays S p = Unit {0}

-- the client of that number says so, as it stands below these items
pub record IsSaidBy (h : histories.History) (ss : List worlds.Watcher) (above : List Item) (c : ℕ) (p : Payload) : Type 0 where
  pub seat : worlds.Watcher
  pub found : lists.at_place ss c ≡ Some seat
  pub says : requests.RequestSays h (seats.seat_below above seat) p

-- the log of a server, and what a failed add may have left
pub record HostSays (S : ℕ → Payload → Type 0) (x : worlds.Host) : Type 0 where
  pub log : EntriesSay S x.server.raft.log
  pub at_stake : EntriesSay S x.at_stake

pub record AllSaid (S : ℕ → Payload → Type 0) (w : worlds.World) : Type 0 where
  pub packets : AllByRecursion (λ (p : Packet). PayloadSays S p.payload) (plan_cases.kept_packets w.bag)
  pub hosts : AllByRecursion (HostSays S) w.hosts

abbrev pub AreSaid : histories.History → worlds.World → List Item → Type 0
AreSaid h w above = AllSaid (IsSaidBy h w.seats above) w

-- each step keeps it
abbrev pub EachStepSays : Type 0
EachStepSays = (h : histories.History) (w : worlds.World) (above : List Item) (k : KeptStep) → seats.AllStand h w above → seats.AreTrueKept h w above → AreSaid h w above
    → AreSaid h (moves.moved w k).world (reverse (moves.moved w k).items ++ above)

abbrev pub RunsAreSaid : Type 0
RunsAreSaid = (h : histories.History) (nodes clients timeout : ℕ) (steps : List KeptStep) → seats.AreTrueThrough h (worlds.new_world nodes clients timeout) [] steps
    → AreSaid h (runs.run nodes clients timeout steps).world (reverse (transcripts.transcript (runs.run nodes clients timeout steps).shown))

-- what a client said stays said in a step, by what each of them stands to
abbrev pub SaidStays : Type 0
SaidStays = (h : histories.History) (w : worlds.World) (above : List Item) (k : KeptStep) → seats.AllStand h w above → seats.AreTrueKept h w above
    → (c : ℕ) (p : Payload) → IsSaidBy h w.seats above c p → IsSaidBy h (moves.moved w k).world.seats (reverse (moves.moved w k).items ++ above) c p

-- what is committed is said by its client, and each step keeps that
abbrev pub EachStepCommits : Type 0
EachStepCommits = (h : histories.History) (l : ledgers.Ledger) (w : worlds.World) (above : List Item) (k : KeptStep) → seats.AllStand h w above → seats.AreTrueKept h w above → AreSaid h w above
    → EntriesSay (IsSaidBy h w.seats above) l.committed
    → EntriesSay (IsSaidBy h (moves.moved w k).world.seats (reverse (moves.moved w k).items ++ above)) (ledgers.ledger_by l w k).committed
