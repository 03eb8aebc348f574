-- Each server has applied what is committed up to its commit, and the history is the acts of what is committed.
use Rattle.std.proofs.Common.{◌≡◌, ℕ, zero, suc, ◌+◌, ◌-◌, ◌≤◌, ◌<◌, List, [], ◌∷◌, ◌++◌, length, take, drop, map, refl, ap, sym, ◌∙◌, subst, arith, inl, inr, append_assoc, append-nil, length-append}
use Rattle.std.specs.Prelude.{◌⊎◌, Bool, true, false, nat_lt, Option, Some, None, slice_get, if◌then◌else◌}
use Rattle.std.proofs.lemmas.List.{length-drop, length-take-le, take-append-le}
use Rattle.ax_types.specs.Places as lists
use Rattle.ax_types.specs.declared.entries.Act.{Act}
use Rattle.ax_types.specs.declared.entries.Entry.{Entry}
use Rattle.ax_types.specs.declared.entries.Loaded.{Loaded}
use Rattle.ax_types.specs.declared.raft.RaftInput.{RaftInput}
use Rattle.ax_types.specs.declared.sessions.ServerInput.{ServerInput}
use Rattle.ax_types.specs.declared.sessions.ServerOut.{ServerOut}
use Rattle.ax_types.specs.declared.steps.KeptStep.{KeptStep}
use Rattle.ax_types.specs.declared.steps.StepOutcome.{StepOutcome}
use Rattle.ax_types.specs.declared.steps.StepOutcome.TheVariants as outcome
use Rattle.spec_claims.specs.Once as once
use Rattle.spec_raft.specs.Positions as positions
use Rattle.spec_raft.specs.Majority as majorities
use Rattle.spec_raft.proofs.Placing.{at_place-changed}
use Rattle.spec_node.specs.Node as raft_nodes
use Rattle.spec_node.specs.NodeStep as node_steps
use Rattle.spec_node.specs.Saving as saving
use Rattle.spec_cluster.specs.Bag as bags
use Rattle.spec_cluster.specs.Cluster as clusters
use Rattle.spec_sessions.specs.Sessions as sessions
use Rattle.spec_server.specs.Servers as servers
use Rattle.spec_server.specs.ServerStep as server_steps
use Rattle.spec_world.specs.Worlds as worlds
use Rattle.spec_world.specs.Plans as plans
use Rattle.spec_world.specs.Moves as moves
use Rattle.spec_run.specs.Run as runs
use Rattle.spec_run.specs.KeptStores as kept_stores
use Rattle.spec_run.proofs.Joined.{ran-append}
use Rattle.law_refinement.proofs.Tests.{by_test, is_above, not_above}
use Rattle.law_refinement.proofs.Members.{change_here}
use Rattle.law_agreement.specs.Agreement as agreements
use Rattle.law_agreement.proofs.Agreement.{logs_begin, times_never_fall}
use Rattle.law_growth.specs.PlanCases as plan_cases
use Rattle.law_growth.specs.Staying as staying
use Rattle.law_growth.proofs.Cases.{none_some, some_same, plan_case}
use Rattle.law_growth.proofs.Numbers.{placed, raft_goes, carried_shape, carried_numbers, new_numbers}
use Rattle.law_hosts.specs.Ledger as ledgers
use Rattle.law_hosts.specs.Hosts as hosts
use Rattle.law_sessions.specs.Folds as folds
use Rattle.law_hosts.specs.Committed as laws
use Rattle.law_hosts.proofs.Matched.{MatchedAll, system_of, stands_up, serves_well, carried_matched, new_matched}
use Rattle.law_hosts.proofs.Growth.{past_of, input_grows}
use Rattle.law_hosts.proofs.Folds.{state_count, acts_count, applies_state, applies_acts, state_goes_on, history_goes_on}

-- the log of a server that is up
pub holds_committed : (n : ℕ) (stayed : ℕ → ℕ) (l : ledgers.Ledger) (w : worlds.World) (k : ℕ) (h : worlds.Host) → hosts.IsMatched n stayed l w → lists.at_place w.hosts k ≡ Some h → h.is_up ≡ true
    → laws.HoldsCommitted l.committed h.server.raft.log h.server.raft.commit
holds_committed n stayed l w k h m at up =
    let r = logs_begin n (system_of n stayed l w m) (past_of n stayed l w m) k (record { is_up = true; node = h.server.raft }) (stands_up n stayed l w m k h at up) in
    let s : laws.HoldsCommitted (system_of n stayed l w m).cluster.committed h.server.raft.log h.server.raft.commit = record { long = r.0; within = r.1; same = r.2 } in
    subst (λ c. laws.HoldsCommitted c h.server.raft.log h.server.raft.commit) m.ends.committed s

-- what is committed, where a node's commit may have passed it
reaches : (c : List Entry) (a : raft_nodes.Node) → a.commit ≤ length a.log → (clusters.entries_so_far c a ≡ c) ⊎ (length (clusters.entries_so_far c a) ≡ a.commit)
reaches c a le = by_test (λ es. (es ≡ c) ⊎ (length es ≡ a.commit)) (nat_lt (length c) a.commit) (take a.commit a.log) c (λ e. inr (length-take-le a.commit a.log le)) (λ e. inl refl)

input_reaches : (l : ledgers.Ledger) (k : ℕ) (n : raft_nodes.Node) (o : Option RaftInput) → (server_steps.raft_after n o).commit ≤ length (server_steps.raft_after n o).log
    → ((ledgers.with_input l k n o).committed ≡ l.committed) ⊎ (length (ledgers.with_input l k n o).committed ≡ (server_steps.raft_after n o).commit)
input_reaches l k n None le = inl refl
input_reaches l k n (Some i) le = reaches l.committed (node_steps.stepped n i) le

pub out_committed : (n : raft_nodes.Node) (o : Option RaftInput) → (server_steps.raft_out n o).committed ≡ (server_steps.raft_after n o).commit
out_committed n None = refl
out_committed n (Some i) = refl

-- what stands so in a world
pub record Stands (l : ledgers.Ledger) (w : worlds.World) : Type 0 where
  pub history : w.history ≡ kept_stores.acts_of w.timeout l.committed
  pub hosts : (k : ℕ) (h : worlds.Host) → lists.at_place w.hosts k ≡ Some h → laws.HasApplied w.timeout l.committed h

-- a server that took an input, where what is committed grew
pub record Serves (timeout : ℕ) (old new : List Entry) (h : worlds.Host) (i : ServerInput) : Type 0 where
  pub begins : once.Begins old new
  pub before : laws.HasApplied timeout old h
  pub rises : h.server.raft.commit ≤ (server_steps.server_after h.server i).raft.commit
  pub holds : laws.HoldsCommitted new (server_steps.server_after h.server i).raft.log (server_steps.server_after h.server i).raft.commit
  pub reached : (new ≡ old) ⊎ (length new ≡ (server_steps.server_after h.server i).raft.commit)

-- the entries that it applies
applies : (timeout : ℕ) (old new : List Entry) (h : worlds.Host) (i : ServerInput) → Serves timeout old new h i
    → server_steps.to_apply (server_steps.server_after h.server i).raft h.server.state ≡ drop h.server.raft.commit (take (server_steps.server_after h.server i).raft.commit new)
applies timeout old new h i s =
    let c : ℕ = h.server.raft.commit in
    let a : raft_nodes.Node = (server_steps.server_after h.server i).raft in
    let count : h.server.state.applied ≡ c = ap (λ (x : sessions.Sessions). x.applied) s.before.state ∙ state_count timeout (take c old) ∙ length-take-le c old s.before.within in
    ap (λ n. drop n (take a.commit a.log)) count ∙ ap (drop c) s.holds.same

serves_state : (timeout : ℕ) (old new : List Entry) (h : worlds.Host) (i : ServerInput) → Serves timeout old new h i → laws.HasApplied timeout new (record h { server = server_steps.server_after h.server i })
serves_state timeout old new h i s =
    let c : ℕ = h.server.raft.commit in
    let g : server_steps.Stage = server_steps.stage h.server (servers.task h.server i) in
    record {
      within = s.holds.within;
      state = applies_state g.raft g.connections h.server.state (server_steps.to_apply g.raft h.server.state)
          ∙ ap (folds.applied_all h.server.state) (applies timeout old new h i s)
          ∙ ap (λ x. folds.applied_all x (drop c (take g.raft.commit new))) s.before.state
          ∙ state_goes_on timeout old new c g.raft.commit s.begins s.before.within s.rises;
    }

added_acts : (history acts : List (ℕ × Act)) (committed c d : ℕ) → length history ≡ committed → length acts ≡ d - c → c ≤ d → history ++ drop (length history - (d - length acts)) acts ≡ history ++ drop (committed - c) acts
added_acts history acts committed c d e f le = ap (λ n. history ++ drop n acts) (let g : length history - (d - length acts) ≡ committed - c = omega (arith, e, f, le) in g)

serves_history : (timeout : ℕ) (old new : List Entry) (h : worlds.Host) (i : ServerInput) → Serves timeout old new h i → moves.history_with (kept_stores.acts_of timeout old) (server_steps.server_out h.server i) ≡ kept_stores.acts_of timeout new
serves_history timeout old new h i s =
    let c : ℕ = h.server.raft.commit in
    let g : server_steps.Stage = server_steps.stage h.server (servers.task h.server i) in
    let d : ℕ = g.raft.commit in
    let es : List Entry = drop c (take d new) in
    let acts : List (ℕ × Act) = kept_stores.acts_from (folds.sessions_after timeout (take c old)) es in
    let given : g.progress.acts ≡ acts =
    applies_acts g.raft g.connections h.server.state (server_steps.to_apply g.raft h.server.state) ∙ ap (kept_stores.acts_from h.server.state) (applies timeout old new h i s) ∙ ap (λ x. kept_stores.acts_from x es) s.before.state in
    let taken : length (take d new) ≡ d = length-take-le d new s.holds.within in
    let count : length acts ≡ d - c = acts_count (folds.sessions_after timeout (take c old)) es ∙ length-drop c (take d new) ∙ ap (λ n. n - c) taken in
    let history : List (ℕ × Act) = kept_stores.acts_of timeout old in
    ap {A = record { 0 : ℕ; 1 : List (ℕ × Act) }} (λ x. history ++ drop (length history - (x.0 - length x.1)) x.1) (λ j. (out_committed h.server.raft (servers.task h.server i).input j, given j))
    ∙ added_acts history acts (length old) c d (acts_count (sessions.new_sessions timeout) old) count s.rises
    ∙ history_goes_on timeout old new c d s.begins s.before.within s.rises s.holds.within s.reached

-- a host that holds no state
fresh : (timeout : ℕ) (committed : List Entry) (h : worlds.Host) (me nodes time : ℕ) (kept : Loaded) → time ≡ timeout → h.server ≡ servers.server_from me nodes time kept → laws.HasApplied timeout committed h
fresh timeout committed h me nodes time kept e f = record {
  within = subst (λ (x : servers.Server). x.raft.commit ≤ length committed) (sym f) (omega arith);
  state = subst (λ (x : servers.Server). x.state ≡ folds.sessions_after timeout (take x.raft.commit committed)) (sym f) (ap sessions.new_sessions e);
}

same_stands : (l : ledgers.Ledger) (w v : worlds.World) → v.timeout ≡ w.timeout → v.history ≡ w.history → v.hosts ≡ w.hosts → Stands l w → Stands l v
same_stands l w v e f g s = record {
  history = f ∙ s.history ∙ ap (λ t. kept_stores.acts_of t l.committed) (sym e);
  hosts = subst (λ t. (k : ℕ) (h : worlds.Host) → lists.at_place v.hosts k ≡ Some h → laws.HasApplied t l.committed h) (sym e) (subst (λ hs. (k : ℕ) (h : worlds.Host) → lists.at_place hs k ≡ Some h → laws.HasApplied w.timeout l.committed h) (sym g) s.hosts);
}

host_stands : (l : ledgers.Ledger) (v : worlds.World) (k : ℕ) (h : worlds.Host) → laws.HasApplied v.timeout l.committed h → Stands l v → Stands l (worlds.with_host v k h)
host_stands l v k h new s = record { history = s.history; hosts = placed (λ j x. laws.HasApplied v.timeout l.committed x) v.hosts k h new s.hosts }

-- what was applied stays a beginning of what is committed
applied_stays : (timeout : ℕ) (old new : List Entry) (h : worlds.Host) → once.Begins old new → laws.HasApplied timeout old h → laws.HasApplied timeout new h
applied_stays timeout old new h b a =
    let c : ℕ = h.server.raft.commit in
    let long : length new ≡ length old + length b.0 = ap length b.1 ∙ length-append old b.0 in
    record {
      within = omega (arith, a.within, long);
      state = a.state ∙ ap (folds.sessions_after timeout) (sym (take-append-le c old b.0 a.within) ∙ ap (take c) (sym b.1));
    }

-- each step
abbrev pub after_serves : worlds.World → ℕ → worlds.Host → ServerInput → worlds.World
after_serves v k h i = (moves.serves v k h i (server_steps.server_out h.server i)).world

pub serves_matched : (n : ℕ) (l : ledgers.Ledger) (w v : worlds.World) (k : ℕ) (h : worlds.Host) (i : ServerInput) → MatchedAll n l w → plan_cases.IsAlike w v → lists.at_place w.hosts k ≡ Some h → h.is_up ≡ true → plan_cases.IsInputOf w k h i
    → hosts.IsMatched n (λ j. 0) (ledgers.with_input l k h.server.raft (servers.task h.server i).input) (after_serves v k h i)
serves_matched n l w v k h i all a at up known = serves_well n (λ j. 0) l w v k h i (moves.history_with v.history (server_steps.server_out h.server i)) (all (λ j. 0)) a at up known

pub serves_facts : (n : ℕ) (l : ledgers.Ledger) (w v : worlds.World) (k : ℕ) (h : worlds.Host) (i : ServerInput) → MatchedAll n l w → Stands l w → plan_cases.IsAlike w v → lists.at_place w.hosts k ≡ Some h → h.is_up ≡ true → plan_cases.IsInputOf w k h i
    → Serves w.timeout l.committed (ledgers.with_input l k h.server.raft (servers.task h.server i).input).committed h i
serves_facts n l w v k h i all s a at up known =
    let o : Option RaftInput = (servers.task h.server i).input in
    let new : ledgers.Ledger = ledgers.with_input l k h.server.raft o in
    let x : worlds.Host = record h { server = server_steps.server_after h.server i } in
    let at_v : lists.at_place v.hosts k ≡ Some h = ap (λ hs. lists.at_place hs k) a.hosts ∙ at in
    let held : laws.HoldsCommitted new.committed x.server.raft.log x.server.raft.commit = holds_committed n (λ j. 0) new (after_serves v k h i) k x (serves_matched n l w v k h i all a at up known) (change_here v.hosts k h x at_v) up in
    record {
      begins = input_grows n (λ j. 0) l w k h i (all (λ j. 0)) at up known;
      before = s.hosts k h at;
      rises = (raft_goes h.server.raft o).commit;
      holds = held;
      reached = input_reaches l k h.server.raft o held.long;
    }

serves_stands : (n : ℕ) (l : ledgers.Ledger) (w v : worlds.World) (k : ℕ) (h : worlds.Host) (i : ServerInput) → MatchedAll n l w → Stands l w → plan_cases.IsAlike w v → lists.at_place w.hosts k ≡ Some h → h.is_up ≡ true → plan_cases.IsInputOf w k h i
    → Stands (ledgers.with_input l k h.server.raft (servers.task h.server i).input) (after_serves v k h i)
serves_stands n l w v k h i all s a at up known =
    let new : ledgers.Ledger = ledgers.with_input l k h.server.raft (servers.task h.server i).input in
    let x : worlds.Host = record h { server = server_steps.server_after h.server i } in
    let r : Serves w.timeout l.committed new.committed h i = serves_facts n l w v k h i all s a at up known in
    let old : Stands l v = same_stands l w v a.timeout a.history a.hosts s in
    record {
      history = ap (λ hs. moves.history_with hs (server_steps.server_out h.server i)) (a.history ∙ s.history) ∙ serves_history w.timeout l.committed new.committed h i r ∙ ap (λ t. kept_stores.acts_of t new.committed) (sym a.timeout);
      hosts = placed (λ j y. laws.HasApplied v.timeout new.committed y) v.hosts k x (subst (λ t. laws.HasApplied t new.committed x) (sym a.timeout) (serves_state w.timeout l.committed new.committed h i r))
          (λ j y e. applied_stays v.timeout l.committed new.committed y r.begins (old.hosts j y e));
    }

carried_stands : (n : ℕ) (l : ledgers.Ledger) (w : worlds.World) (p : plans.Plan) (o : StepOutcome) → plan_cases.IsCase w p → MatchedAll n l w → Stands l w → Stands (ledgers.ledger_in l p o) (moves.carried p o).world
carried_stands n l w p o (plan_cases.Serving v k h i a at up known e) all s = subst (λ x. Stands (ledgers.ledger_in l x o) (moves.carried x o).world) (sym e) (served o)
  where
    served : (o : StepOutcome) → Stands (ledgers.ledger_in l (plans.Serves v k h i) o) (moves.served v k h i o).world
    served outcome.Fine = serves_stands n l w v k h i all s a at up known
    served (outcome.Loaded added) = serves_stands n l w v k h i all s a at up known
    served (outcome.Failed saved) =
        let calls : List saving.Save = saving.calls_of (server_steps.server_out h.server i).saves in
        let kept : Loaded = saving.kept_at_failure (worlds.kept_by h) calls saved in
        let x : worlds.Host = worlds.fallen_host v k h kept (saving.at_stake (slice_get calls saved)) in
        host_stands l v k x (fresh v.timeout l.committed x k (worlds.nodes_of v) v.timeout kept refl refl) (same_stands l w v a.timeout a.history a.hosts s)
carried_stands n l w p o (plan_cases.Loading k h at down e) all s = subst (λ x. Stands (ledgers.ledger_in l x o) (moves.carried x o).world) (sym e) (loaded o)
  where
    loads : (added : ℕ) → Stands l (moves.loads w k h added).world
    loads added =
        let x : worlds.Host = record { is_up = true; clock = h.clock; server = servers.server_from k (worlds.nodes_of w) w.timeout (worlds.content_with h added); at_stake = [] } in
        host_stands l w k x (fresh w.timeout l.committed x k (worlds.nodes_of w) w.timeout (worlds.content_with h added) refl refl) s

    loaded : (o : StepOutcome) → Stands l (moves.loaded w k h o).world
    loaded outcome.Fine = loads 0
    loaded (outcome.Loaded added) = loads added
    loaded (outcome.Failed saved) = s
carried_stands n l w p o (plan_cases.Asking v c x next a at me e) all s = subst (λ x. Stands (ledgers.ledger_in l x o) (moves.carried x o).world) (sym e) (same_stands l w (moves.client_served v c x next).world a.timeout a.history a.hosts s)
carried_stands n l w p o (plan_cases.Falling k h at up e) all s = subst (λ x. Stands (ledgers.ledger_in l x o) (moves.carried x o).world) (sym e)
    (let x : worlds.Host = worlds.fallen_host w k h (worlds.kept_by h) [] in host_stands l w k x (fresh w.timeout l.committed x k (worlds.nodes_of w) w.timeout (worlds.kept_by h) refl refl) s)
carried_stands n l w p o (plan_cases.Setting k h time at e) all s = subst (λ x. Stands (ledgers.ledger_in l x o) (moves.carried x o).world) (sym e)
    (let a = s.hosts k h at in host_stands l w k (record h { clock = time }) (record { within = a.within; state = a.state }) s)
carried_stands n l w p o (plan_cases.Seating c x t items at me e) all s = subst (λ x. Stands (ledgers.ledger_in l x o) (moves.carried x o).world) (sym e) (same_stands l w (worlds.with_watcher w c t) refl refl refl s)
carried_stands n l w p o (plan_cases.Showing v items a e) all s = subst (λ x. Stands (ledgers.ledger_in l x o) (moves.carried x o).world) (sym e) (same_stands l w v a.timeout a.history a.hosts s)

pub carried_grows : (n : ℕ) (l : ledgers.Ledger) (w : worlds.World) (p : plans.Plan) (o : StepOutcome) → plan_cases.IsCase w p → MatchedAll n l w → once.Begins l.committed (ledgers.ledger_in l p o).committed
carried_grows n l w p o (plan_cases.Serving v k h i a at up known e) all = subst (λ x. once.Begins l.committed (ledgers.ledger_in l x o).committed) (sym e) (served o)
  where
    served : (o : StepOutcome) → once.Begins l.committed (ledgers.ledger_in l (plans.Serves v k h i) o).committed
    served outcome.Fine = input_grows n (λ j. 0) l w k h i (all (λ j. 0)) at up known
    served (outcome.Loaded added) = input_grows n (λ j. 0) l w k h i (all (λ j. 0)) at up known
    served (outcome.Failed saved) = ([], sym (append-nil l.committed))
carried_grows n l w p o (plan_cases.Loading k h at down e) all = subst (λ x. once.Begins l.committed (ledgers.ledger_in l x o).committed) (sym e) ([], sym (append-nil l.committed))
carried_grows n l w p o (plan_cases.Asking v c x next a at me e) all = subst (λ x. once.Begins l.committed (ledgers.ledger_in l x o).committed) (sym e) ([], sym (append-nil l.committed))
carried_grows n l w p o (plan_cases.Falling k h at up e) all = subst (λ x. once.Begins l.committed (ledgers.ledger_in l x o).committed) (sym e) ([], sym (append-nil l.committed))
carried_grows n l w p o (plan_cases.Setting k h time at e) all = subst (λ x. once.Begins l.committed (ledgers.ledger_in l x o).committed) (sym e) ([], sym (append-nil l.committed))
carried_grows n l w p o (plan_cases.Seating c x t items at me e) all = subst (λ x. once.Begins l.committed (ledgers.ledger_in l x o).committed) (sym e) ([], sym (append-nil l.committed))
carried_grows n l w p o (plan_cases.Showing v items a e) all = subst (λ x. once.Begins l.committed (ledgers.ledger_in l x o).committed) (sym e) ([], sym (append-nil l.committed))

-- a run so far
pub record SoFar (n clients time : ℕ) (l : ledgers.Ledger) (w : worlds.World) : Type 0 where
  pub numbers : staying.HasNumbers n clients time w
  pub matched : MatchedAll n l w
  pub stands : Stands l w

pub step_so_far : (n clients time : ℕ) (l : ledgers.Ledger) (w : worlds.World) (k : KeptStep) → SoFar n clients time l w → SoFar n clients time (ledgers.ledger_by l w k) (moves.moved w k).world
step_so_far n clients time l w k f =
    let p : plans.Plan = plans.plan w k.step in
    let c : plan_cases.IsCase w p = plan_case w k.step in
    let s = carried_shape w p k.outcome c in
    record {
      numbers = record { timeout = s.timeout ∙ f.numbers.timeout; hosts = s.hosts ∙ f.numbers.hosts; seats = s.seats ∙ f.numbers.seats; numbers = carried_numbers w p k.outcome c f.numbers.numbers };
      matched = carried_matched n l w p k.outcome c f.numbers.numbers f.numbers.hosts f.matched;
      stands = carried_stands n l w p k.outcome c f.matched f.stands;
    }

pub steps_so_far : (n clients time : ℕ) (l : ledgers.Ledger) (w : worlds.World) (steps : List KeptStep) → SoFar n clients time l w → SoFar n clients time (ledgers.ledger_from l w steps) (runs.ran w steps).world
steps_so_far n clients time l w [] f = f
steps_so_far n clients time l w (k ∷ steps) f = steps_so_far n clients time (ledgers.ledger_by l w k) (moves.moved w k).world steps (step_so_far n clients time l w k f)

steps_grow : (n clients time : ℕ) (l : ledgers.Ledger) (w : worlds.World) (steps : List KeptStep) → SoFar n clients time l w → once.Begins l.committed (ledgers.ledger_from l w steps).committed
steps_grow n clients time l w [] f = ([], sym (append-nil l.committed))
steps_grow n clients time l w (k ∷ steps) f =
    let a = carried_grows n l w (plans.plan w k.step) k.outcome (plan_case w k.step) f.matched in
    let b = steps_grow n clients time (ledgers.ledger_by l w k) (moves.moved w k).world steps (step_so_far n clients time l w k f) in
    (a.0 ++ b.0, b.1 ∙ ap (λ es. es ++ b.0) a.1 ∙ append_assoc l.committed a.0 b.0)

-- hosts of a new world have nothing to apply
new_applied : (n time a b j : ℕ) (h : worlds.Host) → slice_get (map (worlds.new_host n time) (lists.numbers_from a b)) j ≡ Some h → laws.HasApplied time [] h
new_applied n time a zero j h e = none_some h e
new_applied n time a (suc b) zero h e = subst (laws.HasApplied time []) (some_same (worlds.new_host n time a) h e) (record { within = omega arith; state = refl })
new_applied n time a (suc b) (suc j) h e = new_applied n time (suc a) b j h e

new_hosts : (n time : ℕ) (k : ℕ) (h : worlds.Host) → lists.at_place (map (worlds.new_host n time) (majorities.cluster_of n)) k ≡ Some h → laws.HasApplied time [] h
new_hosts n time zero h e = none_some h e
new_hosts n time (suc j) h e = new_applied n time 1 n j h e

pub new_so_far : (n clients time : ℕ) → SoFar n clients time ledgers.new_ledger (worlds.new_world n clients time)
new_so_far n clients time = record { numbers = new_numbers n clients time; matched = new_matched n clients time; stands = record { history = refl; hosts = new_hosts n time } }

pub run_so_far : (n clients time : ℕ) (steps : List KeptStep) → SoFar n clients time (ledgers.ledger_of n clients time steps) (runs.run n clients time steps).world
run_so_far n clients time steps = steps_so_far n clients time ledgers.new_ledger (worlds.new_world n clients time) steps (new_so_far n clients time)

-- the laws
pub history_is_of_committed : laws.HistoryIsOfCommitted
history_is_of_committed n clients time steps = let f = run_so_far n clients time steps in f.stands.history ∙ ap (λ t. kept_stores.acts_of t (ledgers.ledger_of n clients time steps).committed) f.numbers.timeout

pub servers_have_applied : laws.ServersHaveApplied
servers_have_applied n clients time steps k h at = let f = run_so_far n clients time steps in subst (λ t. laws.HasApplied t (ledgers.ledger_of n clients time steps).committed h) f.numbers.timeout (f.stands.hosts k h at)

pub logs_hold_committed : laws.LogsHoldCommitted
logs_hold_committed n clients time steps k h at up = holds_committed n (λ j. 0) (ledgers.ledger_of n clients time steps) (runs.run n clients time steps).world k h ((run_so_far n clients time steps).matched (λ j. 0)) at up

pub committed_times_rise : laws.CommittedTimesRise
committed_times_rise n clients time steps =
    let m : hosts.IsMatched n (λ j. 0) (ledgers.ledger_of n clients time steps) (runs.run n clients time steps).world = (run_so_far n clients time steps).matched (λ j. 0) in
    subst agreements.Rises m.ends.committed (times_never_fall n (system_of n (λ j. 0) (ledgers.ledger_of n clients time steps) (runs.run n clients time steps).world m) (past_of n (λ j. 0) (ledgers.ledger_of n clients time steps) (runs.run n clients time steps).world m)).1

ledger_append : (l : ledgers.Ledger) (w : worlds.World) (steps later : List KeptStep) → ledgers.ledger_from l w (steps ++ later) ≡ ledgers.ledger_from (ledgers.ledger_from l w steps) (runs.ran w steps).world later
ledger_append l w [] later = refl
ledger_append l w (k ∷ steps) later = ledger_append (ledgers.ledger_by l w k) (moves.moved w k).world steps later

pub committed_stays : laws.CommittedStays
committed_stays n clients time steps later =
    let l : ledgers.Ledger = ledgers.ledger_of n clients time steps in
    let w : worlds.World = (runs.run n clients time steps).world in
    subst (λ (x : ledgers.Ledger). once.Begins l.committed x.committed) (sym (ledger_append ledgers.new_ledger (worlds.new_world n clients time) steps later)) (steps_grow n clients time l w later (run_so_far n clients time steps))
