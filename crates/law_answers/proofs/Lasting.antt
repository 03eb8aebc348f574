-- A server that starts answers truly, and one that takes no step goes on to.
use Rattle.std.proofs.Common.{ℕ, List, ◌∷◌, ◌++◌, refl, sym, ap, ◌∙◌, arith, inr}
use Rattle.std.specs.List.{AllByRecursion}
use Rattle.std.proofs.lemmas.List.{take-append-le, length-append}
use Rattle.ax_types.specs.declared.entries.Entry.{Entry}
use Rattle.ax_types.specs.declared.items.Item.{Item}
use Rattle.ax_types.specs.declared.ops.Level.{Level}
use Rattle.ax_types.specs.declared.ops.Query.{Query}
use Rattle.ax_types.specs.declared.ops.WindowCall.TheVariants as call
use Rattle.ax_types.specs.declared.sessions.Held.{Held}
use Rattle.spec_claims.specs.OutcomeOrder as outcome_order
use Rattle.spec_node.specs.Node as raft_nodes
use Rattle.spec_sessions.specs.Sessions as sessions
use Rattle.spec_server.specs.Gates as gates
use Rattle.spec_server.specs.ServerStep as server_steps
use Rattle.law_told.proofs.Lists.{all_since}
use Rattle.law_told.proofs.Staying.{AreCounted, same_below, reached_more, items_grow}
use Rattle.law_sessions.specs.Folds as folds
use Rattle.law_answers.specs.TrueServers as true_servers
use Rattle.law_answers.specs.TrueSteps as laws

pub servers_start : laws.ServersStart
servers_start timeout items committed me nodes kept = record {
  applied = record { within = omega arith; state = refl };
  gate = tt;
  readings = tt;
  idle = λ e. refl;
}

abbrev AreNext : Item → List Item → Type 0
AreNext x items = (s : ℕ) → outcome_order.IsNumbered s items x

pub queried_more : (x : Item) (items : List Item) (s n : ℕ) (l : Level) (seq : ℕ) (name : List ℕ) (q : Query) → AreNext x items → AreCounted items → true_servers.IsQueried items s n l seq name q → true_servers.IsQueried (x ∷ items) s n l seq name q
queried_more x items s n l seq name q m a k = record {
  called = inr k.called;
  behind = let e = same_below s n (call.Query l name q) x items (m s) a k.called in let b = k.behind in omega (arith, e, b);
}

held_more : (x : Item) (items : List Item) (h : Held) → AreNext x items → AreCounted items → true_servers.IsHeldTrue items h → true_servers.IsHeldTrue (x ∷ items) h
held_more x items h m a k = record {
  queried = queried_more x items h.session h.call h.level h.seq h.name h.query m a k.queried;
  reached = reached_more h.level x items h.session h.call h.place (server_steps.reach_term h.reach) (server_steps.reach_arrival h.reach) k.reached;
}

read_more : (x : Item) (items : List Item) (n : raft_nodes.Node) (w : gates.WaitingQuery) → AreNext x items → AreCounted items → true_servers.IsReadTrue items n w → true_servers.IsReadTrue (x ∷ items) n w
read_more x items n w m a k = record {
  queried = queried_more x items w.held.session w.held.call w.held.level w.held.seq w.held.name w.held.query m a k.queried;
  reach = k.reach;
  reached = record { later = x ∷ k.reached.later; earlier = k.reached.earlier; there = ap (λ xs. x ∷ xs) k.reached.there };
}

applied_last : (timeout : ℕ) (committed more : List Entry) (s : sessions.Sessions) → true_servers.IsAppliedOf timeout committed s → true_servers.IsAppliedOf timeout (committed ++ more) s
applied_last timeout committed more s k =
    let w = k.within in
    record {
      within = let e = length-append committed more in omega (arith, e, w);
      state = k.state ∙ ap (folds.sessions_after timeout) (sym (take-append-le s.applied committed more w));
    }

pub servers_last : laws.ServersLast
servers_last timeout early later committed more s numbered k = record {
  applied = applied_last timeout committed more s.state k.applied;
  gate = items_grow (λ items. AllByRecursion (true_servers.IsHeldTrue items) s.gate) (λ x items m a g. all_since (true_servers.IsHeldTrue items) (true_servers.IsHeldTrue (x ∷ items)) (λ h t. held_more x items h m a t) s.gate g) early later numbered k.gate;
  readings = items_grow (λ items. AllByRecursion (true_servers.IsReadTrue items s.raft) s.readings)
      (λ x items m a g. all_since (true_servers.IsReadTrue items s.raft) (true_servers.IsReadTrue (x ∷ items) s.raft) (λ w t. read_more x items s.raft w m a t) s.readings g) early later numbered k.readings;
  idle = k.idle;
}
