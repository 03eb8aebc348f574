-- Servers and clients stay at their numbers, and the history begins as before.
use Rattle.std.proofs.Common.{◌≡◌, ℕ, zero, suc, ◌+◌, List, [], ◌∷◌, ◌++◌, length, map, refl, ap, sym, ◌∙◌, subst, arith, append_assoc, append-nil}
use Rattle.std.specs.Prelude.{true, Option, Some, None, slice_get}
use Rattle.ax_types.specs.Places as lists
use Rattle.ax_types.specs.declared.items.Item.{Item}
use Rattle.ax_types.specs.declared.sessions.ServerInput.{ServerInput}
use Rattle.ax_types.specs.declared.raft.RaftInput.{RaftInput}
use Rattle.ax_types.specs.declared.steps.KeptStep.{KeptStep}
use Rattle.ax_types.specs.declared.steps.StepOutcome.{StepOutcome}
use Rattle.ax_types.specs.declared.steps.StepOutcome.TheVariants as outcome
use Rattle.spec_claims.specs.Once as once
use Rattle.spec_raft.specs.Positions as positions
use Rattle.spec_raft.specs.Majority as majorities
use Rattle.spec_raft.proofs.Placing.{length-change_place}
use Rattle.spec_raft.proofs.Counting.{length-cluster_of}
use Rattle.spec_node.specs.Node as raft_nodes
use Rattle.spec_node.specs.Saving as saving
use Rattle.spec_server.specs.Servers as servers
use Rattle.spec_server.specs.ServerStep as server_steps
use Rattle.spec_client.specs.Clients as clients
use Rattle.spec_world.specs.Worlds as worlds
use Rattle.spec_world.specs.Plans as plans
use Rattle.spec_world.specs.Moves as moves
use Rattle.spec_run.specs.Run as runs
use Rattle.law_growth.specs.PlanCases as plan_cases
use Rattle.law_growth.specs.Staying as laws
use Rattle.law_growth.proofs.NodesStay.{Goes, step_goes}
use Rattle.law_growth.proofs.Cases.{alike, none_some, some_same, plan_case}

-- what holds of the thing at each place, where one is replaced
pub placed : {X : Type 0} (P : ℕ → X → Type 0) (xs : List X) (k : ℕ) (new : X) → P k new → ((j : ℕ) (x : X) → lists.at_place xs j ≡ Some x → P j x)
    → (j : ℕ) (x : X) → lists.at_place (positions.change_place (λ old. new) xs k) j ≡ Some x → P j x
placed P xs zero new h all j x e = all j x e
placed P [] (suc k) new h all j x e = all j x e
placed P (y ∷ xs) (suc zero) new h all zero x e = none_some x e
placed P (y ∷ xs) (suc zero) new h all (suc zero) x e = subst (P 1) (some_same new x e) h
placed P (y ∷ xs) (suc zero) new h all (suc (suc j)) x e = all (suc (suc j)) x e
placed P (y ∷ xs) (suc (suc k)) new h all zero x e = none_some x e
placed P (y ∷ xs) (suc (suc k)) new h all (suc zero) x e = all (suc zero) x e
placed {X = X} P (y ∷ xs) (suc (suc k)) new h all (suc (suc j)) x e = placed (λ i. P (suc i)) xs (suc k) new h rest (suc j) x e
  where
    rest : (i : ℕ) (z : X) → lists.at_place xs i ≡ Some z → P (suc i) z
    rest zero z f = none_some z f
    rest (suc i) z f = all (suc (suc i)) z f

same_shape : (w v : worlds.World) → plan_cases.IsAlike w v → laws.HasShape w v
same_shape w v a = record { timeout = a.timeout; hosts = ap length a.hosts; seats = ap length a.seats }

-- a world whose servers, or clients, changed at one place
host_shape : (w v : worlds.World) (k : ℕ) (h : worlds.Host) → plan_cases.IsAlike w v → laws.HasShape w (worlds.with_host v k h)
host_shape w v k h a = record { timeout = a.timeout; hosts = length-change_place (λ old. h) v.hosts k ∙ ap length a.hosts; seats = ap length a.seats }

seat_shape : (w v : worlds.World) (c : ℕ) (s : worlds.Watcher) → plan_cases.IsAlike w v → laws.HasShape w (worlds.with_watcher v c s)
seat_shape w v c s a = record { timeout = a.timeout; hosts = ap length a.hosts; seats = length-change_place (λ old. s) v.seats c ∙ ap length a.seats }

pub carried_shape : (w : worlds.World) (p : plans.Plan) (o : StepOutcome) → plan_cases.IsCase w p → laws.HasShape w (moves.carried p o).world
carried_shape w p o (plan_cases.Serving v k h i a at up known e) = subst (λ x. laws.HasShape w (moves.carried x o).world) (sym e) (served o)
  where
    served : (o : StepOutcome) → laws.HasShape w (moves.served v k h i o).world
    served outcome.Fine = let s = host_shape w v k (record h { server = server_steps.server_after h.server i }) a in record { timeout = s.timeout; hosts = s.hosts; seats = s.seats }
    served (outcome.Loaded added) = let s = host_shape w v k (record h { server = server_steps.server_after h.server i }) a in record { timeout = s.timeout; hosts = s.hosts; seats = s.seats }
    served (outcome.Failed saved) = let calls = saving.calls_of (server_steps.server_out h.server i).saves in
        host_shape w v k (worlds.fallen_host v k h (saving.kept_at_failure (worlds.kept_by h) calls saved) (saving.at_stake (slice_get calls saved))) a
carried_shape w p o (plan_cases.Loading k h at down e) = subst (λ x. laws.HasShape w (moves.carried x o).world) (sym e) (loaded o)
  where
    loaded : (o : StepOutcome) → laws.HasShape w (moves.loaded w k h o).world
    loaded outcome.Fine = host_shape w w k (record { is_up = true; clock = h.clock; server = servers.server_from k (worlds.nodes_of w) w.timeout (worlds.content_with h 0); at_stake = [] }) (alike w)
    loaded (outcome.Loaded added) = host_shape w w k (record { is_up = true; clock = h.clock; server = servers.server_from k (worlds.nodes_of w) w.timeout (worlds.content_with h added); at_stake = [] }) (alike w)
    loaded (outcome.Failed saved) = same_shape w w (alike w)
carried_shape w p o (plan_cases.Asking v c s next a at me e) = subst (λ x. laws.HasShape w (moves.carried x o).world) (sym e)
    (let s = seat_shape w v c (record s { client = next.client }) a in record { timeout = s.timeout; hosts = s.hosts; seats = s.seats })
carried_shape w p o (plan_cases.Falling k h at up e) = subst (λ x. laws.HasShape w (moves.carried x o).world) (sym e) (host_shape w w k (worlds.fallen_host w k h (worlds.kept_by h) []) (alike w))
carried_shape w p o (plan_cases.Setting k h time at e) = subst (λ x. laws.HasShape w (moves.carried x o).world) (sym e) (host_shape w w k (record h { clock = time }) (alike w))
carried_shape w p o (plan_cases.Seating c s t items at me e) = subst (λ x. laws.HasShape w (moves.carried x o).world) (sym e) (seat_shape w w c t (alike w))
carried_shape w p o (plan_cases.Showing v items a e) = subst (λ x. laws.HasShape w (moves.carried x o).world) (sym e) (same_shape w v a)

pub servers_stay : laws.ServersStay
servers_stay w k = carried_shape w (plans.plan w k.step) k.outcome (plan_case w k.step)

-- numbers
same_numbers : (w v : worlds.World) → plan_cases.IsAlike w v → laws.StandAtNumbers w → laws.StandAtNumbers v
same_numbers w v a n = record {
  hosts = subst (λ hs. (k : ℕ) (h : worlds.Host) → lists.at_place hs k ≡ Some h → laws.HasNumber (length hs) k h.server.raft) (sym a.hosts) n.hosts;
  seats = subst (λ ss. (c : ℕ) (s : worlds.Watcher) → lists.at_place ss c ≡ Some s → s.client.me ≡ c) (sym a.seats) n.seats;
}

host_numbers : (v : worlds.World) (k : ℕ) (h : worlds.Host) → laws.HasNumber (length v.hosts) k h.server.raft → laws.StandAtNumbers v → laws.StandAtNumbers (worlds.with_host v k h)
host_numbers v k h new n = record {
  hosts = λ j x e. subst (λ m. laws.HasNumber m j x.server.raft) (sym (length-change_place (λ old. h) v.hosts k)) (placed (λ i y. laws.HasNumber (length v.hosts) i y.server.raft) v.hosts k h new n.hosts j x e);
  seats = n.seats;
}

seat_numbers : (v : worlds.World) (c : ℕ) (s : worlds.Watcher) → s.client.me ≡ c → laws.StandAtNumbers v → laws.StandAtNumbers (worlds.with_watcher v c s)
seat_numbers v c s me n = record { hosts = n.hosts; seats = placed (λ i y. y.client.me ≡ i) v.seats c s me n.seats }

pub raft_goes : (n : raft_nodes.Node) (i : Option RaftInput) → Goes n (server_steps.raft_after n i)
raft_goes n None = record { me = refl; size = refl; commit = omega arith }
raft_goes n (Some i) = let g = step_goes n i in record { me = g.me; size = g.size; commit = g.commit }

pub carried_numbers : (w : worlds.World) (p : plans.Plan) (o : StepOutcome) → plan_cases.IsCase w p → laws.StandAtNumbers w → laws.StandAtNumbers (moves.carried p o).world
carried_numbers w p o (plan_cases.Serving v k h i a at up known e) n = subst (λ x. laws.StandAtNumbers (moves.carried x o).world) (sym e) (served o)
  where
    old : laws.HasNumber (length v.hosts) k h.server.raft
    old = subst (λ hs. laws.HasNumber (length hs) k h.server.raft) (sym a.hosts) (n.hosts k h at)

    well : laws.StandAtNumbers (worlds.with_host v k (record h { server = server_steps.server_after h.server i }))
    well = let g = raft_goes h.server.raft (servers.task h.server i).input in host_numbers v k (record h { server = server_steps.server_after h.server i }) (record { me = g.me ∙ old.me; size = g.size ∙ old.size }) (same_numbers w v a n)

    served : (o : StepOutcome) → laws.StandAtNumbers (moves.served v k h i o).world
    served outcome.Fine = record { hosts = well.hosts; seats = well.seats }
    served (outcome.Loaded added) = record { hosts = well.hosts; seats = well.seats }
    served (outcome.Failed saved) = let calls = saving.calls_of (server_steps.server_out h.server i).saves in
        host_numbers v k (worlds.fallen_host v k h (saving.kept_at_failure (worlds.kept_by h) calls saved) (saving.at_stake (slice_get calls saved))) (record { me = refl; size = refl }) (same_numbers w v a n)
carried_numbers w p o (plan_cases.Loading k h at down e) n = subst (λ x. laws.StandAtNumbers (moves.carried x o).world) (sym e) (loaded o)
  where
    loaded : (o : StepOutcome) → laws.StandAtNumbers (moves.loaded w k h o).world
    loaded outcome.Fine = host_numbers w k (record { is_up = true; clock = h.clock; server = servers.server_from k (worlds.nodes_of w) w.timeout (worlds.content_with h 0); at_stake = [] }) (record { me = refl; size = refl }) n
    loaded (outcome.Loaded added) = host_numbers w k (record { is_up = true; clock = h.clock; server = servers.server_from k (worlds.nodes_of w) w.timeout (worlds.content_with h added); at_stake = [] }) (record { me = refl; size = refl }) n
    loaded (outcome.Failed saved) = n
carried_numbers w p o (plan_cases.Asking v c s next a at me e) n = subst (λ x. laws.StandAtNumbers (moves.carried x o).world) (sym e)
    (let r = seat_numbers v c (record s { client = next.client }) (me ∙ n.seats c s at) (same_numbers w v a n) in record { hosts = r.hosts; seats = r.seats })
carried_numbers w p o (plan_cases.Falling k h at up e) n = subst (λ x. laws.StandAtNumbers (moves.carried x o).world) (sym e) (host_numbers w k (worlds.fallen_host w k h (worlds.kept_by h) []) (record { me = refl; size = refl }) n)
carried_numbers w p o (plan_cases.Setting k h time at e) n = subst (λ x. laws.StandAtNumbers (moves.carried x o).world) (sym e) (host_numbers w k (record h { clock = time }) (n.hosts k h at) n)
carried_numbers w p o (plan_cases.Seating c s t items at me e) n = subst (λ x. laws.StandAtNumbers (moves.carried x o).world) (sym e) (seat_numbers w c t (me ∙ n.seats c s at) n)
carried_numbers w p o (plan_cases.Showing v items a e) n = subst (λ x. laws.StandAtNumbers (moves.carried x o).world) (sym e) (same_numbers w v a n)

pub numbers_stay : laws.NumbersStay
numbers_stay w k = carried_numbers w (plans.plan w k.step) k.outcome (plan_case w k.step)

-- the beginning
mapped : {X : Type 0} (P : ℕ → X → Type 0) (f : ℕ → X) → ((k : ℕ) → P k (f k)) → (a n j : ℕ) (x : X) → slice_get (map f (lists.numbers_from a n)) j ≡ Some x → P (a + j) x
mapped P f h a zero j x e = none_some x e
mapped P f h a (suc n) zero x e = subst (λ z. P (a + 0) z) (some_same (f a) x e) (subst (λ z. P z (f a)) (let g : a ≡ a + 0 = omega arith in g) (h a))
mapped P f h a (suc n) (suc j) x e = subst (λ z. P z x) (let g : suc a + j ≡ a + suc j = omega arith in g) (mapped P f h (suc a) n j x e)

pub at_cluster : {X : Type 0} (P : ℕ → X → Type 0) (f : ℕ → X) → ((k : ℕ) → P k (f k)) → (n j : ℕ) (x : X) → lists.at_place (map f (majorities.cluster_of n)) j ≡ Some x → P j x
at_cluster P f h n zero x e = none_some x e
at_cluster P f h n (suc j) x e = subst (λ i. P i x) (let g : 1 + j ≡ suc j = omega arith in g) (mapped P f h 1 n j x e)

length-map_numbers : {X : Type 0} (f : ℕ → X) (xs : List ℕ) → length (map f xs) ≡ length xs
length-map_numbers f [] = refl
length-map_numbers f (x ∷ xs) = ap suc (length-map_numbers f xs)

pub new_numbers : (nodes clients time : ℕ) → laws.HasNumbers nodes clients time (worlds.new_world nodes clients time)
new_numbers nodes clients time =
    let all : length (worlds.new_world nodes clients time).hosts ≡ nodes = length-map_numbers (worlds.new_host nodes time) (majorities.cluster_of nodes) ∙ length-cluster_of nodes in
    record {
      timeout = refl;
      hosts = all;
      seats = length-map_numbers worlds.new_watcher (majorities.cluster_of clients) ∙ length-cluster_of clients;
      numbers = record {
        hosts = subst (λ m. (k : ℕ) (h : worlds.Host) → lists.at_place (worlds.new_world nodes clients time).hosts k ≡ Some h → laws.HasNumber m k h.server.raft) (sym all)
            (at_cluster (λ k h. laws.HasNumber nodes k h.server.raft) (worlds.new_host nodes time) (λ k. record { me = refl; size = refl }) nodes);
        seats = at_cluster (λ c s. s.client.me ≡ c) worlds.new_watcher (λ c. refl) clients;
      };
    }

ran_numbers : (nodes clients time : ℕ) (w : worlds.World) (steps : List KeptStep) → laws.HasNumbers nodes clients time w → laws.HasNumbers nodes clients time (runs.ran w steps).world
ran_numbers nodes clients time w [] n = n
ran_numbers nodes clients time w (k ∷ steps) n =
    let s = servers_stay w k in
    ran_numbers nodes clients time (moves.moved w k).world steps (record { timeout = s.timeout ∙ n.timeout; hosts = s.hosts ∙ n.hosts; seats = s.seats ∙ n.seats; numbers = numbers_stay w k n.numbers })

pub runs_have_numbers : laws.RunsHaveNumbers
runs_have_numbers nodes clients time steps = ran_numbers nodes clients time (worlds.new_world nodes clients time) steps (new_numbers nodes clients time)

-- the history
same_history : (w v : worlds.World) → v.history ≡ w.history → once.Begins w.history v.history
same_history w v e = ([], e ∙ sym (append-nil w.history))

carried_history : (w : worlds.World) (p : plans.Plan) (o : StepOutcome) → plan_cases.IsCase w p → once.Begins w.history (moves.carried p o).world.history
carried_history w p o (plan_cases.Serving v k h i a at up known e) = subst (λ x. once.Begins w.history (moves.carried x o).world.history) (sym e) (served o)
  where
    served : (o : StepOutcome) → once.Begins w.history (moves.served v k h i o).world.history
    served outcome.Fine = (_, ap (λ old. moves.history_with old (server_steps.server_out h.server i)) a.history)
    served (outcome.Loaded added) = (_, ap (λ old. moves.history_with old (server_steps.server_out h.server i)) a.history)
    served (outcome.Failed saved) = same_history w v a.history
carried_history w p o (plan_cases.Loading k h at down e) = subst (λ x. once.Begins w.history (moves.carried x o).world.history) (sym e) (loaded o)
  where
    loaded : (o : StepOutcome) → once.Begins w.history (moves.loaded w k h o).world.history
    loaded outcome.Fine = same_history w w refl
    loaded (outcome.Loaded added) = same_history w w refl
    loaded (outcome.Failed saved) = same_history w w refl
carried_history w p o (plan_cases.Asking v c s next a at me e) = subst (λ x. once.Begins w.history (moves.carried x o).world.history) (sym e) (same_history w v a.history)
carried_history w p o (plan_cases.Falling k h at up e) = subst (λ x. once.Begins w.history (moves.carried x o).world.history) (sym e) (same_history w w refl)
carried_history w p o (plan_cases.Setting k h time at e) = subst (λ x. once.Begins w.history (moves.carried x o).world.history) (sym e) (same_history w w refl)
carried_history w p o (plan_cases.Seating c s t items at me e) = subst (λ x. once.Begins w.history (moves.carried x o).world.history) (sym e) (same_history w w refl)
carried_history w p o (plan_cases.Showing v items a e) = subst (λ x. once.Begins w.history (moves.carried x o).world.history) (sym e) (same_history w v a.history)

pub history_follows : laws.HistoryFollows
history_follows w k = carried_history w (plans.plan w k.step) k.outcome (plan_case w k.step)

pub histories_follow : laws.HistoriesFollow
histories_follow w [] = same_history w w refl
histories_follow w (k ∷ steps) =
    let a = history_follows w k in
    let b = histories_follow (moves.moved w k).world steps in
    (a.0 ++ b.0, b.1 ∙ ap (λ hs. hs ++ b.0) a.1 ∙ append_assoc w.history a.0 b.0)
