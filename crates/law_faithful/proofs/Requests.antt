-- What requests say, by what the clients said.
use Rattle.std.proofs.Common.{◌≡◌, ℕ, ◌≤◌, List, [], ◌∷◌, reverse, refl, ap, sym, ◌∙◌, subst, arith}
use Rattle.std.specs.Prelude.{Some}
use Rattle.std.specs.List.{AllByRecursion}
use Rattle.ax_types.specs.Places as lists
use Rattle.ax_types.specs.declared.ids.End.TheVariants as end
use Rattle.ax_types.specs.declared.items.Item.{Item}
use Rattle.ax_types.specs.declared.packets.Packet.{Packet}
use Rattle.ax_types.specs.declared.packets.Payload.{Payload}
use Rattle.ax_types.specs.declared.packets.Payload.TheVariants as payload
use Rattle.spec_book.specs.History as histories
use Rattle.spec_world.specs.Worlds as worlds
use Rattle.spec_run.specs.KeptStores as kept_stores
use Rattle.law_sessions.specs.Acts as acts
use Rattle.law_sessions.proofs.Lawful.{acts_are_of_entries}
use Rattle.law_answers.specs.TrueSteps as true_steps
use Rattle.law_client.specs.Inputs as inputs
use Rattle.law_growth.specs.PlanCases as plan_cases
use Rattle.law_growth.proofs.Sent.{all_since}
use Rattle.law_hosts.specs.Ledger as ledgers
use Rattle.law_hosts.proofs.Applied.{SoFar}
use Rattle.law_seats.specs.Seats as seats
use Rattle.law_asked.specs.Asked as asked
use Rattle.law_asked.proofs.Derived.{query_called, commands_requested, ends_asked}
use Rattle.law_faithful.specs.Faith as faith

-- a query that its client said was called
query_made : (h : histories.History) (ss : List worlds.Watcher) (above : List Item) (p : Payload) → asked.PayloadSays (asked.IsSaidBy h ss above) p → true_steps.IsQueryMade above p
query_made h ss above (payload.Query c s n l seen seq name q) k = let a = query_called h ss above c s n l seen seq name q k in record { called = a.0; behind = let e = a.1 in omega (arith, e) }
query_made h ss above (payload.Vote xa xb xc) k = tt
query_made h ss above (payload.VoteReply xa xb) k = tt
query_made h ss above (payload.Append xa xb xc xd xe xf) k = tt
query_made h ss above (payload.AppendReply xa xb xc xd) k = tt
query_made h ss above (payload.Register xa xb) k = tt
query_made h ss above (payload.Keep xa xb xc xd) k = tt
query_made h ss above (payload.Command xa xb xc xd xe) k = tt
query_made h ss above (payload.Close xa xb) k = tt
query_made h ss above (payload.Connect xa xb xc) k = tt
query_made h ss above (payload.Reset xa xb xc) k = tt
query_made h ss above (payload.Opened xa xb) k = tt
query_made h ss above (payload.Reply xa xb xc xd xe) k = tt
query_made h ss above (payload.Gap xa xb) k = tt
query_made h ss above (payload.Answer xa xb xc xd xe xf xg xh) k = tt
query_made h ss above (payload.Batch xa xb xc xd) k = tt
query_made h ss above (payload.Ended xa xb xc) k = tt

-- from what clients said of packets and of what is committed, and from packets to clients that are true of the world's own history
pub requests_stand : (nodes clients time : ℕ) (h : histories.History) (l : ledgers.Ledger) (w : worlds.World) (early : List Item) → SoFar nodes clients time l w → seats.AllStand h w (reverse early) → asked.AreSaid h w (reverse early)
    → asked.EntriesSay (asked.IsSaidBy h w.seats (reverse early)) l.committed → AllByRecursion (λ (p : Packet). true_steps.IsTrueTo (reverse early) w.history p.to p.payload) (plan_cases.kept_packets w.bag) → faith.RequestsStand l w early
requests_stand nodes clients time h l w early f stand said committed told =
    let of : acts.AreOfEntries l.committed w.history = subst (acts.AreOfEntries l.committed) (sym f.stands.history) (acts_are_of_entries w.timeout l.committed) in
    record {
      queries = all_since (λ (p : Packet). asked.PayloadSays (asked.IsSaidBy h w.seats (reverse early)) p.payload) (λ (p : Packet). true_steps.IsQueryMade (reverse early) p.payload) (λ p k. query_made h w.seats (reverse early) p.payload k) (plan_cases.kept_packets w.bag) said.packets;
      commands = λ s. commands_requested h w.seats early s l.committed committed;
      ends = all_since (λ (p : Packet). true_steps.IsTrueTo (reverse early) w.history p.to p.payload)
          (λ (p : Packet). (c : ℕ) (s : worlds.Watcher) → p.to ≡ end.Client c → lists.at_place w.seats c ≡ Some s → inputs.IsAskedEnd (seats.seat_below (reverse early) s) p.payload)
          (λ p t c s e at. ends_asked h w.history w (reverse early) l.committed (reverse early) c s p.payload stand committed of at (subst (λ a. true_steps.IsTrueTo (reverse early) w.history a p.payload) e t)) (plan_cases.kept_packets w.bag) told;
    }
