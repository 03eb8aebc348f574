-- A host that is up has no entries at stake.
use Rattle.std.proofs.Common.{◌≡◌, ℕ, zero, suc, List, [], ◌∷◌, map, refl, ap, sym, ◌∙◌, subst}
use Rattle.std.specs.Prelude.{true, false, Some, slice_get}
use Rattle.ax_types.specs.Places as lists
use Rattle.ax_types.specs.declared.steps.KeptStep.{KeptStep}
use Rattle.ax_types.specs.declared.steps.StepOutcome.{StepOutcome}
use Rattle.ax_types.specs.declared.steps.StepOutcome.TheVariants as outcome
use Rattle.spec_node.specs.Saving as saving
use Rattle.spec_server.specs.Servers as servers
use Rattle.spec_server.specs.ServerStep as server_steps
use Rattle.spec_world.specs.Worlds as worlds
use Rattle.spec_world.specs.Plans as plans
use Rattle.spec_world.specs.Moves as moves
use Rattle.spec_run.specs.Run as runs
use Rattle.law_growth.specs.PlanCases as plan_cases
use Rattle.law_growth.proofs.Cases.{none_some, some_same, true_false, plan_case}
use Rattle.law_growth.proofs.Numbers.{placed}

abbrev pub IsSettled : worlds.Host → Type 0
IsSettled h = h.is_up ≡ true → h.at_stake ≡ []

abbrev pub AllSettled : worlds.World → Type 0
AllSettled w = (k : ℕ) (h : worlds.Host) → lists.at_place w.hosts k ≡ Some h → IsSettled h

same_hosts : (w v : worlds.World) → v.hosts ≡ w.hosts → AllSettled w → AllSettled v
same_hosts w v e f = subst (λ hs. (k : ℕ) (h : worlds.Host) → lists.at_place hs k ≡ Some h → IsSettled h) (sym e) f

with_host : (v : worlds.World) (k : ℕ) (h : worlds.Host) → IsSettled h → AllSettled v → AllSettled (worlds.with_host v k h)
with_host v k h new f = placed (λ j x. IsSettled x) v.hosts k h new f

carried_settled : (w : worlds.World) (p : plans.Plan) (o : StepOutcome) → plan_cases.IsCase w p → AllSettled w → AllSettled (moves.carried p o).world
carried_settled w p o (plan_cases.Serving v k h i a at up known e) f = subst (λ x. AllSettled (moves.carried x o).world) (sym e) (served o)
  where
    served : (o : StepOutcome) → AllSettled (moves.served v k h i o).world
    served outcome.Fine = with_host v k (record h { server = server_steps.server_after h.server i }) (f k h at) (same_hosts w v a.hosts f)
    served (outcome.Loaded added) = with_host v k (record h { server = server_steps.server_after h.server i }) (f k h at) (same_hosts w v a.hosts f)
    served (outcome.Failed saved) =
        let calls : List saving.Save = saving.calls_of (server_steps.server_out h.server i).saves in
        with_host v k (worlds.fallen_host v k h (saving.kept_at_failure (worlds.kept_by h) calls saved) (saving.at_stake (slice_get calls saved))) (λ u. true_false (sym u)) (same_hosts w v a.hosts f)
carried_settled w p o (plan_cases.Loading k h at down e) f = subst (λ x. AllSettled (moves.carried x o).world) (sym e) (loaded o)
  where
    loads : (added : ℕ) → AllSettled (moves.loads w k h added).world
    loads added = with_host w k (record { is_up = true; clock = h.clock; server = servers.server_from k (worlds.nodes_of w) w.timeout (worlds.content_with h added); at_stake = [] }) (λ u. refl) f

    loaded : (o : StepOutcome) → AllSettled (moves.loaded w k h o).world
    loaded outcome.Fine = loads 0
    loaded (outcome.Loaded added) = loads added
    loaded (outcome.Failed saved) = f
carried_settled w p o (plan_cases.Asking v c s next a at me e) f = subst (λ x. AllSettled (moves.carried x o).world) (sym e) (same_hosts w (moves.client_served v c s next).world a.hosts f)
carried_settled w p o (plan_cases.Falling k h at up e) f = subst (λ x. AllSettled (moves.carried x o).world) (sym e) (with_host w k (worlds.fallen_host w k h (worlds.kept_by h) []) (λ u. true_false (sym u)) f)
carried_settled w p o (plan_cases.Setting k h time at e) f = subst (λ x. AllSettled (moves.carried x o).world) (sym e) (with_host w k (record h { clock = time }) (f k h at) f)
carried_settled w p o (plan_cases.Seating c s t items at me e) f = subst (λ x. AllSettled (moves.carried x o).world) (sym e) f
carried_settled w p o (plan_cases.Showing v items a e) f = subst (λ x. AllSettled (moves.carried x o).world) (sym e) (same_hosts w v a.hosts f)

ran_settled : (w : worlds.World) (steps : List KeptStep) → AllSettled w → AllSettled (runs.ran w steps).world
ran_settled w [] f = f
ran_settled w (k ∷ steps) f = ran_settled (moves.moved w k).world steps (carried_settled w (plans.plan w k.step) k.outcome (plan_case w k.step) f)

new_from : (n time a b j : ℕ) (h : worlds.Host) → slice_get (map (worlds.new_host n time) (lists.numbers_from a b)) j ≡ Some h → IsSettled h
new_from n time a zero j h e = none_some h e
new_from n time a (suc b) zero h e = subst IsSettled (some_same (worlds.new_host n time a) h e) (λ u. refl)
new_from n time a (suc b) (suc j) h e = new_from n time (suc a) b j h e

new_settled : (n clients time : ℕ) → AllSettled (worlds.new_world n clients time)
new_settled n clients time zero h e = none_some h e
new_settled n clients time (suc j) h e = new_from n time 1 n j h e

pub run_settled : (n clients time : ℕ) (steps : List KeptStep) → AllSettled (runs.run n clients time steps).world
run_settled n clients time steps = ran_settled (worlds.new_world n clients time) steps (new_settled n clients time)
