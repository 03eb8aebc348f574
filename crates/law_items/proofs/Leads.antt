-- Each server that leads was told to lead its term.
use Rattle.std.proofs.Common.{◌≡◌, ℕ, zero, suc, List, [], ◌∷◌, ◌++◌, length, map, refl, ap, sym, ◌∙◌, subst, inl, inr}
use Rattle.std.specs.Prelude.{◌⊎◌, Bool, true, false, Option, Some, None, slice_get}
use Rattle.std.proofs.lemmas.List.{append-nil}
use Rattle.ax_types.specs.Places as lists
use Rattle.ax_types.specs.declared.raft.RaftInput.{RaftInput}
use Rattle.ax_types.specs.declared.sessions.ServerInput.{ServerInput}
use Rattle.ax_types.specs.declared.steps.StepOutcome.{StepOutcome}
use Rattle.ax_types.specs.declared.steps.StepOutcome.TheVariants as outcome
use Rattle.spec_raft.specs.Majority as majorities
use Rattle.spec_node.specs.Node as raft_nodes
use Rattle.spec_node.specs.NodeStep as node_steps
use Rattle.spec_node.specs.Saving as saving
use Rattle.spec_cluster.specs.Cluster as clusters
use Rattle.spec_server.specs.Servers as servers
use Rattle.spec_server.specs.ServerStep as server_steps
use Rattle.spec_world.specs.Worlds as worlds
use Rattle.spec_world.specs.Plans as plans
use Rattle.spec_world.specs.Moves as moves
use Rattle.law_reads.proofs.Takens.{stays_at, last_at}
use Rattle.law_growth.specs.PlanCases as plan_cases
use Rattle.law_growth.proofs.Cases.{none_some, some_same, true_false}
use Rattle.law_growth.proofs.Numbers.{placed}
use Rattle.law_hosts.specs.Ledger as ledgers
use Rattle.law_items.proofs.Rules.{leads_after}

-- node k was told to lead a term
pub record WasLed (leds : List clusters.Led) (k t : ℕ) : Type 0 where
  pub place : ℕ
  pub led : clusters.Led
  pub found : lists.at_place leds place ≡ Some led
  pub node : led.node ≡ k
  pub term : led.term ≡ t

abbrev pub IsLedBy : List clusters.Led → ℕ → worlds.Host → Type 0
IsLedBy leds k h = h.is_up ≡ true → servers.leads h.server ≡ true → WasLed leds k h.server.raft.ballot.term

abbrev pub AreLed : List clusters.Led → worlds.World → Type 0
AreLed leds w = (k : ℕ) (h : worlds.Host) → lists.at_place w.hosts k ≡ Some h → IsLedBy leds k h

stays_led : (leds more : List clusters.Led) (k t : ℕ) → WasLed leds k t → WasLed (leds ++ more) k t
stays_led leds more k t l = record { place = l.place; led = l.led; found = stays_at leds more l.place l.led l.found; node = l.node; term = l.term }

-- the ledger gains the leaders and the reads of a step
pub input_leds : (l : ledgers.Ledger) (k : ℕ) (n : raft_nodes.Node) (o : Option RaftInput) → (ledgers.with_input l k n o).leds ≡ l.leds ++ clusters.led_by k (server_steps.raft_after n o) (server_steps.raft_out n o).led
input_leds l k n None = sym (append-nil l.leds)
input_leds l k n (Some i) = refl

pub input_takens : (l : ledgers.Ledger) (k : ℕ) (n : raft_nodes.Node) (o : Option RaftInput) → (ledgers.with_input l k n o).takens ≡ l.takens ++ clusters.taken_by k n (length l.committed) (server_steps.raft_out n o).reached
input_takens l k n None = sym (append-nil l.takens)
input_takens l k n (Some i) = refl

after_lead : (leds : List clusters.Led) (k : ℕ) (n a : raft_nodes.Node) (b : Bool) → (b ≡ true) ⊎ ((raft_nodes.is_leader n ≡ true) × (a.ballot.term ≡ n.ballot.term)) → (raft_nodes.is_leader n ≡ true → WasLed leds k n.ballot.term)
    → WasLed (leds ++ clusters.led_by k a b) k a.ballot.term
after_lead leds k n a true r f = let d : clusters.Led = record { term = a.ballot.term; node = k } in record { place = suc (length leds); led = d; found = last_at leds d; node = refl; term = refl }
after_lead leds k n a false (inl e) f = true_false (sym e)
after_lead leds k n a false (inr r) f = subst (WasLed (leds ++ []) k) (sym r.1) (stays_led leds [] k n.ballot.term (f r.0))

input_led : (l : ledgers.Ledger) (k : ℕ) (n : raft_nodes.Node) (o : Option RaftInput) → (raft_nodes.is_leader n ≡ true → WasLed l.leds k n.ballot.term) → raft_nodes.is_leader (server_steps.raft_after n o) ≡ true
    → WasLed (ledgers.with_input l k n o).leds k (server_steps.raft_after n o).ballot.term
input_led l k n None f lead = f lead
input_led l k n (Some i) f lead = after_lead l.leds k n (node_steps.did n i).node (node_steps.did n i).led (leads_after n i lead) f

same_hosts : (leds : List clusters.Led) (w v : worlds.World) → v.hosts ≡ w.hosts → AreLed leds w → AreLed leds v
same_hosts leds w v e f = subst (λ hs. (k : ℕ) (h : worlds.Host) → lists.at_place hs k ≡ Some h → IsLedBy leds k h) (sym e) f

pub serves_led : (l : ledgers.Ledger) (w v : worlds.World) (k : ℕ) (h : worlds.Host) (i : ServerInput) → plan_cases.IsAlike w v → lists.at_place w.hosts k ≡ Some h → h.is_up ≡ true → AreLed l.leds w
    → AreLed (ledgers.with_input l k h.server.raft (servers.task h.server i).input).leds (moves.serves v k h i (server_steps.server_out h.server i)).world
serves_led l w v k h i a at up f =
    let o : Option RaftInput = (servers.task h.server i).input in
    let new : List clusters.Led = (ledgers.with_input l k h.server.raft o).leds in
    placed (IsLedBy new) v.hosts k (record h { server = server_steps.server_after h.server i })
    (λ u lead. input_led l k h.server.raft o (f k h at up) lead)
    (λ j x e u lead. subst (λ ds. WasLed ds j x.server.raft.ballot.term) (sym (input_leds l k h.server.raft o))
    (stays_led l.leds (clusters.led_by k (server_steps.raft_after h.server.raft o) (server_steps.raft_out h.server.raft o).led) j x.server.raft.ballot.term (same_hosts l.leds w v a.hosts f j x e u lead)))

down_led : (leds : List clusters.Led) (v : worlds.World) (k : ℕ) (x : worlds.Host) → IsLedBy leds k x → AreLed leds v → AreLed leds (worlds.with_host v k x)
down_led leds v k x new f = placed (IsLedBy leds) v.hosts k x new f

pub carried_led : (l : ledgers.Ledger) (w : worlds.World) (p : plans.Plan) (o : StepOutcome) → plan_cases.IsCase w p → AreLed l.leds w → AreLed (ledgers.ledger_in l p o).leds (moves.carried p o).world
carried_led l w p o (plan_cases.Serving v k h i a at up known e) f = subst (λ x. AreLed (ledgers.ledger_in l x o).leds (moves.carried x o).world) (sym e) (served o)
  where
    served : (o : StepOutcome) → AreLed (ledgers.ledger_in l (plans.Serves v k h i) o).leds (moves.served v k h i o).world
    served outcome.Fine = serves_led l w v k h i a at up f
    served (outcome.Loaded added) = serves_led l w v k h i a at up f
    served (outcome.Failed saved) =
        let calls : List saving.Save = saving.calls_of (server_steps.server_out h.server i).saves in
        down_led l.leds v k (worlds.fallen_host v k h (saving.kept_at_failure (worlds.kept_by h) calls saved) (saving.at_stake (slice_get calls saved))) (λ u lead. true_false (sym u)) (same_hosts l.leds w v a.hosts f)
carried_led l w p o (plan_cases.Loading k h at down e) f = subst (λ x. AreLed (ledgers.ledger_in l x o).leds (moves.carried x o).world) (sym e) (loaded o)
  where
    loads : (added : ℕ) → AreLed l.leds (moves.loads w k h added).world
    loads added = down_led l.leds w k (record { is_up = true; clock = h.clock; server = servers.server_from k (worlds.nodes_of w) w.timeout (worlds.content_with h added); at_stake = [] }) (λ u lead. true_false (sym lead)) f

    loaded : (o : StepOutcome) → AreLed l.leds (moves.loaded w k h o).world
    loaded outcome.Fine = loads 0
    loaded (outcome.Loaded added) = loads added
    loaded (outcome.Failed saved) = f
carried_led l w p o (plan_cases.Asking v c s next a at me e) f = subst (λ x. AreLed (ledgers.ledger_in l x o).leds (moves.carried x o).world) (sym e) (same_hosts l.leds w (moves.client_served v c s next).world a.hosts f)
carried_led l w p o (plan_cases.Falling k h at up e) f = subst (λ x. AreLed (ledgers.ledger_in l x o).leds (moves.carried x o).world) (sym e) (down_led l.leds w k (worlds.fallen_host w k h (worlds.kept_by h) []) (λ u lead. true_false (sym u)) f)
carried_led l w p o (plan_cases.Setting k h time at e) f = subst (λ x. AreLed (ledgers.ledger_in l x o).leds (moves.carried x o).world) (sym e) (down_led l.leds w k (record h { clock = time }) (f k h at) f)
carried_led l w p o (plan_cases.Seating c s t items at me e) f = subst (λ x. AreLed (ledgers.ledger_in l x o).leds (moves.carried x o).world) (sym e) f
carried_led l w p o (plan_cases.Showing v items a e) f = subst (λ x. AreLed (ledgers.ledger_in l x o).leds (moves.carried x o).world) (sym e) (same_hosts l.leds w v a.hosts f)

-- nobody leads at the beginning
new_from : (leds : List clusters.Led) (n time a b k j : ℕ) (h : worlds.Host) → slice_get (map (worlds.new_host n time) (lists.numbers_from a b)) j ≡ Some h → IsLedBy leds k h
new_from leds n time a zero k j h e = none_some h e
new_from leds n time a (suc b) k zero h e = subst (IsLedBy leds k) (some_same (worlds.new_host n time a) h e) (λ u lead. true_false (sym lead))
new_from leds n time a (suc b) k (suc j) h e = new_from leds n time (suc a) b k j h e

pub new_led : (leds : List clusters.Led) (n clients time : ℕ) → AreLed leds (worlds.new_world n clients time)
new_led leds n clients time zero h e = none_some h e
new_led leds n clients time (suc j) h e = new_from leds n time 1 n (suc j) j h e
