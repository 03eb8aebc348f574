-- Every run is faithful; and what holds in each world of a run, with its ledger and the items so far.
use Rattle.std.specs.Prelude.{ℕ, ◌≡◌, true, Option, Some, None, List, [], ◌++◌, length, reverse}
use Rattle.std.specs.List.{AllByRecursion}
use Rattle.ax_types.specs.Places as lists
use Rattle.ax_types.specs.declared.ids.End.TheVariants as end
use Rattle.ax_types.specs.declared.entries.Act.{Act}
use Rattle.ax_types.specs.declared.entries.Act.TheVariants as act
use Rattle.ax_types.specs.declared.items.Item.{Item}
use Rattle.ax_types.specs.declared.packets.Packet.{Packet}
use Rattle.ax_types.specs.declared.steps.KeptStep.{KeptStep}
use Rattle.spec_book.specs.History as histories
use Rattle.spec_claims.specs.Once as once
use Rattle.spec_claims.specs.Faithful as faithful
use Rattle.spec_claims.specs.Payloads as payloads
use Rattle.spec_world.specs.Worlds as worlds
use Rattle.spec_run.specs.Run as runs
use Rattle.law_told.specs.Truth as truths
use Rattle.law_sessions.specs.Acts as acts
use Rattle.law_answers.specs.TrueServers as true_servers
use Rattle.law_answers.specs.TrueSteps as true_steps
use Rattle.law_client.specs.Inputs as inputs
use Rattle.law_growth.specs.PlanCases as plan_cases
use Rattle.law_hosts.specs.Ledger as ledgers
use Rattle.law_hosts.proofs.Applied.{SoFar}
use Rattle.law_items.proofs.Below.{Shows}
use Rattle.law_items.proofs.Leads.{AreLed}
use Rattle.law_seats.specs.Seats as seats
use Rattle.law_asked.specs.Asked as asked

abbrev pub RunsAreFaithful : Type 0
RunsAreFaithful = (nodes clients timeout : ℕ) (steps : List KeptStep) → faithful.IsFaithful timeout (runs.run nodes clients timeout steps).shown (runs.run nodes clients timeout steps).world.history

-- an end by a close is told a client only where it asked for it
abbrev pub EndsAreAsked : worlds.World → List Item → Type 0
EndsAreAsked w early = AllByRecursion (λ (p : Packet). (c : ℕ) (s : worlds.Watcher) → p.to ≡ end.Client c → lists.at_place w.seats c ≡ Some s → inputs.IsAskedEnd (seats.seat_below (reverse early) s) p.payload) (plan_cases.kept_packets w.bag)

-- What the clients' requests, kept by the network or committed, say of the items so far: a query that is kept was called; a command
-- that is committed with sequence k is its session's k-th; and a close that is told was asked for
pub record RequestsStand (l : ledgers.Ledger) (w : worlds.World) (early : List Item) : Type 0 where
  pub queries : AllByRecursion (λ (p : Packet). true_steps.IsQueryMade (reverse early) p.payload) (plan_cases.kept_packets w.bag)
  pub commands : (s : ℕ) → acts.AreRequested (once.commands s early) s l.committed
  pub ends : EndsAreAsked w early

-- what holds in each world of a run, for every history that goes on from that world's; `early` has the first item first
pub record RunStands (nodes clients time : ℕ) (h : histories.History) (l : ledgers.Ledger) (w : worlds.World) (early : List Item) : Type 0 where
  pub so_far : SoFar nodes clients time l w
  pub led : AreLed l.leds w
  pub shows : Shows l.leds l.takens (length l.committed) (reverse early)
  pub numbered : truths.AreCallsNumbered early
  pub servers : (k : ℕ) (x : worlds.Host) → lists.at_place w.hosts k ≡ Some x → x.is_up ≡ true → true_servers.IsTrueServer time (reverse early) l.committed x.server
  pub told : AllByRecursion (λ (p : Packet). true_steps.IsTrueTo (reverse early) h p.to p.payload) (plan_cases.kept_packets w.bag)
  pub said : asked.AreSaid h w (reverse early)
  pub committed : asked.EntriesSay (asked.IsSaidBy h w.seats (reverse early)) l.committed
  pub requests : RequestsStand l w early
  pub stand : seats.AllStand h w (reverse early)
