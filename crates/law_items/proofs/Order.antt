-- The order of the items of nodes, step by step.
use Rattle.std.proofs.Common.{◌≡◌, ℕ, zero, suc, ◌+◌, ◌≤◌, max, List, [], ◌∷◌, ◌++◌, length, map, refl, ap, sym, ◌∙◌, subst, arith, inl, inr, length-append, append_assoc, append-nil}
use Rattle.std.specs.Prelude.{◌⊎◌, Bool, true, false, Option, Some, None}
use Rattle.std.specs.List.{AllByRecursion}
use Rattle.ax_types.specs.Places as lists
use Rattle.ax_types.specs.declared.entries.Entry.{Entry}
use Rattle.ax_types.specs.declared.items.Item.{Item}
use Rattle.ax_types.specs.declared.items.Item.TheVariants as item
use Rattle.ax_types.specs.declared.raft.RaftInput.{RaftInput}
use Rattle.ax_types.specs.declared.raft.RaftInput.TheVariants as input
use Rattle.ax_types.specs.declared.sessions.Held.{Held}
use Rattle.ax_types.specs.declared.sessions.ServerInput.{ServerInput}
use Rattle.ax_types.specs.declared.steps.KeptStep.{KeptStep}
use Rattle.ax_types.specs.declared.steps.StepOutcome.{StepOutcome}
use Rattle.ax_types.specs.declared.steps.StepOutcome.TheVariants as outcome
use Rattle.spec_claims.specs.Transcript as transcripts
use Rattle.spec_node.specs.Node as raft_nodes
use Rattle.spec_node.specs.NodeStep as node_steps
use Rattle.spec_cluster.specs.Cluster as clusters
use Rattle.spec_sessions.specs.Sessions as sessions
use Rattle.spec_server.specs.Servers as servers
use Rattle.spec_server.specs.ServerStep as server_steps
use Rattle.spec_world.specs.Worlds as worlds
use Rattle.spec_world.specs.Plans as plans
use Rattle.spec_world.specs.Moves as moves
use Rattle.spec_run.specs.Run as runs
use Rattle.law_agreement.proofs.Agreement.{led_once}
use Rattle.law_reads.specs.Reads as reads
use Rattle.law_reads.proofs.Takens.{stays_at, last_at}
use Rattle.law_reads.proofs.Transitions.{has_service}
use Rattle.law_growth.specs.PlanCases as plan_cases
use Rattle.law_growth.specs.Staying as staying
use Rattle.law_growth.proofs.Cases.{true_false, some_same, plan_case}
use Rattle.law_growth.proofs.NodesStay.{step_goes}
use Rattle.law_hosts.specs.Ledger as ledgers
use Rattle.law_hosts.specs.Hosts as hosts
use Rattle.law_hosts.proofs.Growth.{past_of}
use Rattle.law_hosts.proofs.Matched.{system_of}
use Rattle.law_hosts.proofs.Folds.{acts_count}
use Rattle.law_hosts.proofs.Applied.{SoFar, Stands, Serves, after_serves, serves_matched, serves_facts, out_committed, step_so_far, new_so_far}
use Rattle.law_items.specs.Ordered as laws
use Rattle.law_items.proofs.Rules.{IfRead, reached_none, read_term, read_commit}
use Rattle.law_items.proofs.Tasks.{IfReads, task_reads}
use Rattle.law_items.proofs.Quiet.{AllQuiet, PlanQuiet, all_quiet, plan_quiet, with_shown}
use Rattle.law_items.proofs.Below.{below, each_append, below_append, greatest_below, Covers, covers_at, Shows, shows_quiet, leader_part, commit_part, Reached, IfReached, reach_part}
use Rattle.law_items.proofs.Leads.{WasLed, AreLed, input_leds, input_takens, carried_led, new_led}

-- what the laws of Raft say of the ledger
leds_once : (n : ℕ) (stayed : ℕ → ℕ) (l : ledgers.Ledger) (w : worlds.World) (m : hosts.IsMatched n stayed l w) (i j : ℕ) (x y : clusters.Led) → lists.at_place l.leds i ≡ Some x → lists.at_place l.leds j ≡ Some y → x.term ≡ y.term → i ≡ j
leds_once n stayed l w m i j x y e f g = led_once n (system_of n stayed l w m) (past_of n stayed l w m) i j x y (ap (λ ds. lists.at_place ds i) m.ends.leds ∙ e) (ap (λ ds. lists.at_place ds j) m.ends.leds ∙ f) g

takens_numbered : (n : ℕ) (stayed : ℕ → ℕ) (l : ledgers.Ledger) (w : worlds.World) (m : hosts.IsMatched n stayed l w) (t : ℕ)
    → map (λ (x : clusters.ReadTaken). x.arrival) (reads.of_term t l.takens) ≡ lists.numbers_from 1 (length (reads.of_term t l.takens))
takens_numbered n stayed l w m t =
    subst (λ ts. map (λ (x : clusters.ReadTaken). x.arrival) (reads.of_term t ts) ≡ lists.numbers_from 1 (length (reads.of_term t ts))) m.ends.takens ((has_service n m.list m.may).serves.numbered t)

-- a read that was reached
abbrev Numbered : List clusters.ReadTaken → ℕ → Type 0
Numbered takens t = map (λ (x : clusters.ReadTaken). x.arrival) (reads.of_term t takens) ≡ lists.numbers_from 1 (length (reads.of_term t takens))

not_reached : (k : ℕ) (n a : raft_nodes.Node) (read : Option Held) (r : Option ℕ) (places : ℕ) (above : List Item) (takens : List clusters.ReadTaken) → r ≡ None → IfReached k n a read r places above takens
not_reached k n a read r places above takens e = subst (λ o. IfReached k n a read o places above takens) (sym e) tt

is_reached : (k : ℕ) (n a : raft_nodes.Node) (read : Option Held) (r : Option ℕ) (places : ℕ) (above : List Item) (takens : List clusters.ReadTaken) → a.ballot ≡ n.ballot → n.ballot.me ≡ k → ((h : Held) × (read ≡ Some h))
    → transcripts.StandsIn (item.Leader k n.ballot.term) above → transcripts.greatest_commit above ≤ places → Numbered (takens ++ clusters.taken_by k n places r) n.ballot.term → IfReached k n a read r places above takens
is_reached k n a read None places above takens same me held lead covered numbered = tt
is_reached k n a read (Some arrival) places above takens same me held lead covered numbered = record {
  held = held.0;
  is_read = held.1;
  me = ap (λ b. b.me) same ∙ me;
  term = ap (λ b. b.term) same;
  leader = subst (λ t. transcripts.StandsIn (item.Leader k t) above) (sym (ap (λ b. b.term) same)) lead;
  covered = covered;
  numbered = numbered;
}

reaching : (k : ℕ) (x : servers.Server) (o : Option RaftInput) (read : Option Held) (places : ℕ) (above : List Item) (takens : List clusters.ReadTaken) → x.raft.ballot.me ≡ k → IfReads x o read
    → (servers.leads x ≡ true → transcripts.StandsIn (item.Leader k x.raft.ballot.term) above) → (x.raft.commit ≡ (server_steps.raft_after x.raft o).commit → transcripts.greatest_commit above ≤ places) → Numbered (takens ++ clusters.taken_by k x.raft places (server_steps.raft_out x.raft o).reached) x.raft.ballot.term
    → IfReached k x.raft (server_steps.raft_after x.raft o) read (server_steps.raft_out x.raft o).reached places above takens
reaching k x None read places above takens me r lead covered numbered = tt
reaching k x (Some (input.Elect clock)) read places above takens me r lead covered numbered = not_reached k x.raft (node_steps.stepped x.raft (input.Elect clock)) read (node_steps.did x.raft (input.Elect clock)).reached places above takens (reached_none x.raft (input.Elect clock))
reaching k x (Some input.Beat) read places above takens me r lead covered numbered = tt
reaching k x (Some (input.Append clock bodies)) read places above takens me r lead covered numbered = tt
reaching k x (Some input.Read) read places above takens me r lead covered numbered =
    is_reached k x.raft (node_steps.stepped x.raft input.Read) read (node_steps.did x.raft input.Read).reached places above takens (read_term x.raft) me r.1 (lead r.0) (covered (sym (read_commit x.raft))) numbered
reaching k x (Some (input.Message a clock p)) read places above takens me r lead covered numbered =
    not_reached k x.raft (node_steps.stepped x.raft (input.Message a clock p)) read (node_steps.did x.raft (input.Message a clock p)).reached places above takens (reached_none x.raft (input.Message a clock p))

-- how many places are committed then
counts : (timeout : ℕ) (old new : List Entry) (h : worlds.Host) (i : ServerInput) → Serves timeout old new h i → length new ≡ max (length old) (server_steps.server_after h.server i).raft.commit
counts timeout old new h i s =
    let c : length new ≡ length old + length s.begins.0 = ap length s.begins.1 ∙ length-append old s.begins.0 in
    elim s.reached [ inl e ↦ (let f : length new ≡ length old = ap length e in let g = s.holds.within in omega (arith, f, g)) | inr e ↦ omega (arith, e, c) ]

abbrev pub Part : ledgers.Ledger → ℕ → List Item → List Item → Type 0
Part l places above items = transcripts.EachBelow laws.IsInOrder above items × Shows l.leds l.takens places (below above items)

-- a server's step
pub serves_shows : (n clients time : ℕ) (l : ledgers.Ledger) (w v : worlds.World) (k : ℕ) (h : worlds.Host) (i : ServerInput) (above : List Item) → SoFar n clients time l w → AreLed l.leds w → Shows l.leds l.takens (length l.committed) above
    → plan_cases.IsAlike w v → lists.at_place w.hosts k ≡ Some h → h.is_up ≡ true → plan_cases.IsInputOf w k h i
    → let new = ledgers.with_input l k h.server.raft (servers.task h.server i).input in Part new (length new.committed) above (moves.server_items v k (server_steps.server_out h.server i))
serves_shows n clients time l w v k h i above f leads s a at up known =
    let t : servers.Task = servers.task h.server i in
    let o : Option RaftInput = t.input in
    let x : raft_nodes.Node = h.server.raft in
    let y : raft_nodes.Node = server_steps.raft_after x o in
    let out = server_steps.raft_out x o in
    let new : ledgers.Ledger = ledgers.with_input l k x o in
    let m : hosts.IsMatched n (λ j. 0) new (after_serves v k h i) = serves_matched n l w v k h i f.matched a at up known in
    let facts : Serves w.timeout l.committed new.committed h i = serves_facts n l w v k h i f.matched f.stands a at up known in
    let places : ℕ = length l.committed in
    let first : List Item = moves.leader_item k (server_steps.led_term y out.led) in
    let second : List Item = moves.commit_item places y.commit in
    let third : List Item = moves.option_item (server_steps.reach_item y t.read out.reached) in
    let leds : List clusters.Led = l.leds ++ clusters.led_by k y out.led in
    let one = leader_part l.leds l.takens places above k y out.led s
    (subst (λ ds. (i j : ℕ) (p q : clusters.Led) → lists.at_place ds i ≡ Some p → lists.at_place ds j ≡ Some q → p.term ≡ q.term → i ≡ j) (input_leds l k x o) (leds_once n (λ j. 0) new (after_serves v k h i) m)) in
    let two = commit_part leds l.takens places y.commit (below above first) one.1 in
    let lead : servers.leads h.server ≡ true → transcripts.StandsIn (item.Leader k x.ballot.term) (below (below above first) second) =
    (λ b. let d = leads k h at up b in
    subst (λ j. transcripts.StandsIn (item.Leader j x.ballot.term) (below (below above first) second)) d.node
    (subst (λ u. transcripts.StandsIn (item.Leader d.led.node u) (below (below above first) second)) d.term (two.1.told d.place d.led (stays_at l.leds (clusters.led_by k y out.led) d.place d.led d.found)))) in
    let covered : x.commit ≡ y.commit → transcripts.greatest_commit (below (below above first) second) ≤ places = (λ e. let b = (f.stands.hosts k h at).within in let c = two.1.commits in omega (arith, e, b, c)) in
    let number : staying.HasNumber (length w.hosts) k x = f.numbers.numbers.hosts k h at in
    let three = reach_part leds l.takens (max places y.commit) (below (below above first) second) k places x y t.read out.reached two.1
    (reaching k h.server o t.read places (below (below above first) second) l.takens number.me (task_reads h.server i) lead covered (subst (λ ts. Numbered ts x.ballot.term) (input_takens l k x o) (takens_numbered n (λ j. 0) new (after_serves v k h i) m x.ballot.term))) in
    let all : transcripts.EachBelow laws.IsInOrder above (first ++ second ++ third) =
    each_append laws.IsInOrder above (first ++ second) third (each_append laws.IsInOrder above first second one.0 two.0) (subst (λ xs. transcripts.EachBelow laws.IsInOrder xs third) (sym (below_append above first second)) three.0) in
    let after : below above (first ++ second ++ third) ≡ below (below (below above first) second) third = below_append above (first ++ second) third ∙ ap (λ xs. below xs third) (below_append above first second) in
    let count : max places y.commit ≡ length new.committed = sym (counts w.timeout l.committed new.committed h i facts) in
    let shown : Shows new.leds new.takens (length new.committed) (below above (first ++ second ++ third)) =
    subst (λ ds. Shows ds new.takens (length new.committed) (below above (first ++ second ++ third))) (sym (input_leds l k x o))
    (subst (λ ts. Shows leds ts (length new.committed) (below above (first ++ second ++ third))) (sym (input_takens l k x o))
    (subst (λ c. Shows leds (l.takens ++ clusters.taken_by k x places out.reached) c (below above (first ++ second ++ third))) count
    (subst (λ xs. Shows leds (l.takens ++ clusters.taken_by k x places out.reached) (max places y.commit) xs) (sym after) three.1))) in
    let history : length v.history ≡ places = ap length (a.history ∙ f.stands.history) ∙ acts_count (sessions.new_sessions w.timeout) l.committed in
    let committed : out.committed ≡ y.commit = out_committed x o in
    subst (λ c. Part new (length new.committed) above (first ++ moves.commit_item c out.committed ++ third)) (sym history)
    (subst (λ c. Part new (length new.committed) above (first ++ moves.commit_item places c ++ third)) (sym committed) (all, shown))

-- each step
pub carried_shows : (n clients time : ℕ) (l : ledgers.Ledger) (w : worlds.World) (p : plans.Plan) (o : StepOutcome) (above : List Item) → plan_cases.IsCase w p → PlanQuiet p → SoFar n clients time l w → AreLed l.leds w → Shows l.leds l.takens (length l.committed) above
    → Part (ledgers.ledger_in l p o) (length (ledgers.ledger_in l p o).committed) above (moves.carried p o).items
carried_shows n clients time l w p o above (plan_cases.Serving v k h i a at up known e) q f leads s = subst (λ x. Part (ledgers.ledger_in l x o) (length (ledgers.ledger_in l x o).committed) above (moves.carried x o).items) (sym e) (served o)
  where
    served : (o : StepOutcome) → Part (ledgers.ledger_in l (plans.Serves v k h i) o) (length (ledgers.ledger_in l (plans.Serves v k h i) o).committed) above (moves.served v k h i o).items
    served outcome.Fine = serves_shows n clients time l w v k h i above f leads s a at up known
    served (outcome.Loaded added) = serves_shows n clients time l w v k h i above f leads s a at up known
    served (outcome.Failed saved) = shows_quiet l.leds l.takens (length l.committed) above (item.Halted k ∷ []) (refl, tt) s
carried_shows n clients time l w p o above (plan_cases.Loading k h at down e) q f leads s = subst (λ x. Part (ledgers.ledger_in l x o) (length (ledgers.ledger_in l x o).committed) above (moves.carried x o).items) (sym e) (loaded o)
  where
    loaded : (o : StepOutcome) → Part l (length l.committed) above (moves.loaded w k h o).items
    loaded outcome.Fine = (tt, s)
    loaded (outcome.Loaded added) = (tt, s)
    loaded (outcome.Failed saved) = shows_quiet l.leds l.takens (length l.committed) above (item.Halted k ∷ []) (refl, tt) s
carried_shows n clients time l w p o above (plan_cases.Asking v c x next a at me e) q f leads s = subst (λ x. Part (ledgers.ledger_in l x o) (length (ledgers.ledger_in l x o).committed) above (moves.carried x o).items) (sym e)
    (shows_quiet l.leds l.takens (length l.committed) above (moves.with_shown c x.watches next.out.items) (with_shown c x.watches next.out.items (subst PlanQuiet e q)) s)
carried_shows n clients time l w p o above (plan_cases.Falling k h at up e) q f leads s = subst (λ x. Part (ledgers.ledger_in l x o) (length (ledgers.ledger_in l x o).committed) above (moves.carried x o).items) (sym e) (tt, s)
carried_shows n clients time l w p o above (plan_cases.Setting k h t at e) q f leads s = subst (λ x. Part (ledgers.ledger_in l x o) (length (ledgers.ledger_in l x o).committed) above (moves.carried x o).items) (sym e) (tt, s)
carried_shows n clients time l w p o above (plan_cases.Seating c x t items at me e) q f leads s = subst (λ x. Part (ledgers.ledger_in l x o) (length (ledgers.ledger_in l x o).committed) above (moves.carried x o).items) (sym e)
    (shows_quiet l.leds l.takens (length l.committed) above items (all_quiet items (subst PlanQuiet e q)) s)
carried_shows n clients time l w p o above (plan_cases.Showing v items a e) q f leads s = subst (λ x. Part (ledgers.ledger_in l x o) (length (ledgers.ledger_in l x o).committed) above (moves.carried x o).items) (sym e)
    (shows_quiet l.leds l.takens (length l.committed) above items (all_quiet items (subst PlanQuiet e q)) s)

-- reads that are ready
is_given : {X : Type 0} (xs ys : List X) → AllByRecursion (λ y. (i : ℕ) × (lists.at_place (xs ++ ys) i ≡ Some y)) ys
is_given xs [] = tt
is_given {X = X} xs (y ∷ ys) = (
  (suc (length xs), subst (λ zs. lists.at_place zs (suc (length xs)) ≡ Some y) (append_assoc xs (y ∷ []) ys) (stays_at (xs ++ y ∷ []) ys (suc (length xs)) y (last_at xs y))),
  subst (λ zs. AllByRecursion (λ (z : X). (i : ℕ) × (lists.at_place zs i ≡ Some z)) ys) (append_assoc xs (y ∷ []) ys) (is_given (xs ++ y ∷ []) ys),
)

all_back : {X Y : Type 0} (P : Y → Type 0) (f : X → Y) (xs : List X) → AllByRecursion P (map f xs) → AllByRecursion (λ x. P (f x)) xs
all_back P f [] h = tt
all_back P f (x ∷ xs) h = (h.0, all_back P f xs h.1)

all_since : {X : Type 0} (P R : X → Type 0) → ((x : X) → P x → R x) → (xs : List X) → AllByRecursion P xs → AllByRecursion R xs
all_since P R f [] h = tt
all_since P R f (x ∷ xs) h = (f x h.0, all_since P R f xs h.1)

input_givens : (l : ledgers.Ledger) (k : ℕ) (n : raft_nodes.Node) (o : Option RaftInput) → (ledgers.with_input l k n o).givens ≡ l.givens ++ clusters.given_by k (server_steps.raft_after n o) (server_steps.raft_out n o).reads
input_givens l k n None = sym (append-nil l.givens)
input_givens l k n (Some i) = refl

given_covers : (n : ℕ) (l : ledgers.Ledger) (w : worlds.World) (m : hosts.IsMatched n (λ j. 0) l w) (places node : ℕ) (g : clusters.ReadGiven) (i : ℕ) (above : List Item) → Shows l.leds l.takens places above → lists.at_place l.givens i ≡ Some g
    → laws.IsCovered above node g.term (g.arrival, g.place)
given_covers n l w m places node g i above s at session number later earlier e =
    let service = has_service n m.list m.may in
    let sees : reads.SeesCommitted l.takens g = subst (λ ts. reads.SeesCommitted ts g) m.ends.takens (service.serves.givens i g (ap (λ gs. lists.at_place gs i) m.ends.givens ∙ at)) in
    let t = covers_at l.takens later (item.Reach node g.term g.arrival session number) earlier (subst (Covers l.takens) e s.covers) in
    let once = service.serves.once t.place sees.position t.taken sees.taken (ap (λ ts. lists.at_place ts t.place) m.ends.takens ∙ t.found) (ap (λ ts. lists.at_place ts sees.position) m.ends.takens ∙ sees.is_there) (t.term ∙ sym sees.term) (t.arrival ∙ sym sees.arrival) in
    let same : t.taken ≡ sees.taken = some_same t.taken sees.taken (sym t.found ∙ ap (lists.at_place l.takens) once ∙ sees.is_there) in
    let a = t.covers in let b = sees.fresh in let c : t.taken.committed ≡ sees.taken.committed = ap (λ (x : clusters.ReadTaken). x.committed) same in
    omega (arith, a, b, c)

-- of a server's step, with the items after it
pub reads_covered : (n clients time : ℕ) (l : ledgers.Ledger) (w v : worlds.World) (k : ℕ) (h : worlds.Host) (i : ServerInput) (above : List Item) → SoFar n clients time l w → AreLed l.leds w → Shows l.leds l.takens (length l.committed) above
    → plan_cases.IsAlike w v → lists.at_place w.hosts k ≡ Some h → h.is_up ≡ true → plan_cases.IsInputOf w k h i
    → AllByRecursion (laws.IsCovered (below above (moves.server_items v k (server_steps.server_out h.server i))) (server_steps.server_after h.server i).raft.ballot.me (server_steps.server_after h.server i).raft.ballot.term) (server_steps.raft_out h.server.raft (servers.task h.server i).input).reads
reads_covered n clients time l w v k h i above f leads s a at up known =
    let o : Option RaftInput = (servers.task h.server i).input in
    let y : raft_nodes.Node = server_steps.raft_after h.server.raft o in
    let ready : List (ℕ × ℕ) = (server_steps.raft_out h.server.raft o).reads in
    let new : ledgers.Ledger = ledgers.with_input l k h.server.raft o in
    let m : hosts.IsMatched n (λ j. 0) new (after_serves v k h i) = serves_matched n l w v k h i f.matched a at up known in
    let after : List Item = below above (moves.server_items v k (server_steps.server_out h.server i)) in
    let shown = (serves_shows n clients time l w v k h i above f leads s a at up known).1 in
    let given : (ℕ × ℕ) → clusters.ReadGiven = (λ r. record { node = k; term = y.ballot.term; arrival = r.0; place = r.1 }) in
    let there : AllByRecursion (λ (g : clusters.ReadGiven). (j : ℕ) × (lists.at_place new.givens j ≡ Some g)) (map given ready) =
    subst (λ gs. AllByRecursion (λ (g : clusters.ReadGiven). (j : ℕ) × (lists.at_place gs j ≡ Some g)) (map given ready)) (sym (input_givens l k h.server.raft o)) (is_given l.givens (map given ready)) in
    all_since (λ r. (j : ℕ) × (lists.at_place new.givens j ≡ Some (given r))) (laws.IsCovered after y.ballot.me y.ballot.term)
    (λ r p. given_covers n new (after_serves v k h i) m (length new.committed) y.ballot.me (given r) p.0 after shown p.1) ready
    (all_back (λ (g : clusters.ReadGiven). (j : ℕ) × (lists.at_place new.givens j ≡ Some g)) given ready there)

pub record RunShows (l : ledgers.Ledger) (w : worlds.World) (above : List Item) (shown : List transcripts.Shown) : Type 0 where
  pub ordered : transcripts.EachBelow laws.IsInOrder above (transcripts.transcript shown)
  pub counted : transcripts.greatest_commit (below above (transcripts.transcript shown)) ≡ length w.history

ran_shows : (n clients time : ℕ) (l : ledgers.Ledger) (w : worlds.World) (steps : List KeptStep) (above : List Item) → SoFar n clients time l w → AreLed l.leds w → Shows l.leds l.takens (length l.committed) above
    → RunShows (ledgers.ledger_from l w steps) (runs.ran w steps).world above (runs.ran w steps).shown
ran_shows n clients time l w [] above f leads s = record { ordered = tt; counted = s.commits ∙ sym (ap length f.stands.history ∙ acts_count (sessions.new_sessions w.timeout) l.committed) }
ran_shows n clients time l w (k ∷ steps) above f leads s =
    let p : plans.Plan = plans.plan w k.step in
    let c : plan_cases.IsCase w p = plan_case w k.step in
    let items : List Item = (moves.moved w k).items in
    let later : List Item = transcripts.transcript (runs.ran (moves.moved w k).world steps).shown in
    let one = carried_shows n clients time l w p k.outcome above c (plan_quiet w k.step) f leads s in
    let rest = ran_shows n clients time (ledgers.ledger_by l w k) (moves.moved w k).world steps (below above items) (step_so_far n clients time l w k f) (carried_led l w p k.outcome c leads) one.1 in
    record {
      ordered = each_append laws.IsInOrder above items later one.0 rest.ordered;
      counted = ap transcripts.greatest_commit (below_append above items later) ∙ rest.counted;
    }

run_shows : (n clients time : ℕ) (steps : List KeptStep) → RunShows (ledgers.ledger_of n clients time steps) (runs.run n clients time steps).world [] (runs.run n clients time steps).shown
run_shows n clients time steps =
    ran_shows n clients time ledgers.new_ledger (worlds.new_world n clients time) steps [] (new_so_far n clients time) (new_led [] n clients time)
    (record { commits = refl; leaders = λ t. refl; told = λ i d e. absurd (nowhere i d e); reaches = λ t. refl; covers = tt })
  where
    nowhere : (i : ℕ) (d : clusters.Led) → lists.at_place [] i ≡ Some d → ⊥
    nowhere zero d e = cc (e)
    nowhere (suc i) d e = cc (e)

-- the laws
pub node_items_are_ordered : laws.NodeItemsAreOrdered
node_items_are_ordered n clients time steps = (run_shows n clients time steps).ordered

pub history_is_counted : laws.HistoryIsCounted
history_is_counted n clients time steps =
    let items : List Item = transcripts.transcript (runs.run n clients time steps).shown in
    let a = (run_shows n clients time steps).counted in
    let b : transcripts.greatest_commit (below [] items) ≡ max 0 (transcripts.greatest_commit items) = greatest_below [] items in
    omega (arith, a, b)
