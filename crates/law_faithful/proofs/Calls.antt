-- What stands at nodes follows calls: a linearizable query that reached a leader was called, and so was each command that is committed.
use Rattle.std.proofs.Common.{◌≡◌, ◌⊎◌, ℕ, zero, suc, ◌+◌, ◌≤◌, ◌<◌, Bool, true, false, cond, nat_eq, nat_lt, nat_le, List, [], ◌∷◌, ◌++◌, Option, Some, None, length, map, flat_map, count_by, reverse, slice_get, refl, ap, sym, ◌∙◌, subst, inl, inr, arith, append_assoc, append-nil}
use Rattle.std.specs.List.{AllByRecursion}
use Rattle.std.proofs.lemmas.List.{length-append}
use Rattle.std.proofs.lemmas.List.Sums.{sum_by-cons, sum_by-append}
use Rattle.std.proofs.lemmas.List.Concat.{flat_map-cons}
use Rattle.std.proofs.lemmas.Bool.Decides.{nat_tests}
use Rattle.ax_types.specs.Places as lists
use Rattle.ax_types.specs.declared.entries.Act.{Act}
use Rattle.ax_types.specs.declared.entries.Act.TheVariants as act
use Rattle.ax_types.specs.declared.entries.Body.{Body}
use Rattle.ax_types.specs.declared.entries.Body.TheVariants as body
use Rattle.ax_types.specs.declared.entries.Entry.{Entry}
use Rattle.ax_types.specs.declared.ids.End.{End}
use Rattle.ax_types.specs.declared.ids.End.TheVariants as end
use Rattle.ax_types.specs.declared.items.Item.{Item}
use Rattle.ax_types.specs.declared.items.Item.TheVariants as item
use Rattle.ax_types.specs.declared.ops.Level.{Level}
use Rattle.ax_types.specs.declared.ops.Level.TheVariants as level
use Rattle.ax_types.specs.declared.ops.Op.{Op}
use Rattle.ax_types.specs.declared.ops.Query.{Query}
use Rattle.ax_types.specs.declared.ops.WindowCall.{WindowCall}
use Rattle.ax_types.specs.declared.ops.WindowCall.TheVariants as call
use Rattle.ax_types.specs.declared.packets.Packet.{Packet}
use Rattle.ax_types.specs.declared.packets.Payload.{Payload}
use Rattle.ax_types.specs.declared.packets.Payload.TheVariants as payload
use Rattle.ax_types.specs.declared.raft.RaftInput.TheVariants as raft_input
use Rattle.ax_types.specs.declared.sessions.Held.{Held}
use Rattle.ax_types.specs.declared.sessions.ServerInput.{ServerInput}
use Rattle.ax_types.specs.declared.sessions.ServerInput.TheVariants as input
use Rattle.ax_types.specs.declared.steps.KeptStep.{KeptStep}
use Rattle.ax_types.specs.declared.steps.StepOutcome.{StepOutcome}
use Rattle.ax_types.specs.declared.steps.StepOutcome.TheVariants as outcome
use Rattle.spec_book.specs.History as histories
use Rattle.spec_claims.specs.Transcript as transcripts
use Rattle.spec_claims.specs.Once as once
use Rattle.spec_node.specs.Node as raft_nodes
use Rattle.spec_sessions.specs.Sessions as sessions
use Rattle.spec_server.specs.Servers as servers
use Rattle.spec_server.specs.ServerStep as server_steps
use Rattle.spec_world.specs.Worlds as worlds
use Rattle.spec_world.specs.Plans as plans
use Rattle.spec_world.specs.Moves as moves
use Rattle.spec_run.specs.KeptStores as kept_stores
use Rattle.law_told.proofs.Staying.{dos_grown}
use Rattle.law_sessions.specs.Acts as acts
use Rattle.law_sessions.proofs.Commands.{acts_begin_commands}
use Rattle.law_answers.specs.TrueSteps as true_steps
use Rattle.law_answers.proofs.Steps.{dos_all}
use Rattle.law_growth.specs.PlanCases as plan_cases
use Rattle.law_growth.proofs.Cases.{plan_case}
use Rattle.law_refinement.proofs.Tests.{by_test}
use Rattle.law_hosts.specs.Ledger as ledgers
use Rattle.law_hosts.proofs.Folds.{acts_count}
use Rattle.law_hosts.proofs.Applied.{SoFar, Serves, serves_facts, step_so_far, out_committed}
use Rattle.law_items.proofs.Below.{below, each_append, below_append}
use Rattle.law_items.proofs.Quiet.{AllQuiet, IsQuiet, PlanQuiet, all_quiet, plan_quiet, with_shown}
use Rattle.law_faithful.specs.Faith as faith

-- a linearizable query that reached a leader was called
abbrev pub IsReachCalled : List Item → Item → Type 0
IsReachCalled above (item.Reach k t a s n) = (name : List ℕ) × (query : Query) × transcripts.StandsIn (item.Called s n (call.Query level.Lin name query)) above
IsReachCalled above x = Unit {0}

-- what holds of the items that are none of nodes
each_quiet : (P : List Item → Item → Type 0) → ((above : List Item) (x : Item) → IsQuiet x → P above x) → (above xs : List Item) → AllQuiet xs → transcripts.EachBelow P above xs
each_quiet P f above [] q = tt
each_quiet P f above (x ∷ xs) q = (f above x q.0, each_quiet P f (x ∷ above) xs q.1)

quiet_called : (above : List Item) (x : Item) → IsQuiet x → IsReachCalled above x
quiet_called above (item.Reach k t a s n) q = absurd (cc)
quiet_called above x q = tt

quiet_before : (h : histories.History) (s : ℕ) (above : List Item) (x : Item) → IsQuiet x → once.IsCalledBefore h s above x
quiet_before h s above (item.Commit p) q = absurd (cc)
quiet_before h s above x q = tt

-- the query of a read was called
abbrev IsReadCalled : List Item → Option Held → Type 0
IsReadCalled items None = Unit {0}
IsReadCalled items (Some h) = transcripts.StandsIn (item.Called h.session h.call (call.Query level.Lin h.name h.query)) items

abbrev TaskCalled : List Item → servers.Task → Type 0
TaskCalled items t = IsReadCalled items t.read

passed_called : (items : List Item) (s : servers.Server) (a : End) (p : Payload) → TaskCalled items (servers.passed_on s a p)
passed_called items s (end.Client c) p = tt
passed_called items s (end.Node k) p = tt

logged_called : (items : List Item) (s : servers.Server) (clock : ℕ) (a : End) (p : Payload) (b : Body) → TaskCalled items (servers.logged s clock a p b)
logged_called items s clock a p b = by_test (TaskCalled items) (servers.leads s) (servers.raft_task (raft_input.Append clock (b ∷ []))) (servers.passed_on s a p) (λ e. tt) (λ e. passed_called items s a p)

asked_called : (items : List Item) (s : servers.Server) (a : End) (p : Payload) (l : Level) (h : Held) → transcripts.StandsIn (item.Called h.session h.call (call.Query l h.name h.query)) items → TaskCalled items (servers.asked_at s a p l h)
asked_called items s a p level.Seq h k = tt
asked_called items s a p level.Lin h k = by_test (TaskCalled items) (servers.leads s) (record (servers.raft_task raft_input.Read) { read = Some h }) (servers.passed_on s a p) (λ e. k) (λ e. passed_called items s a p)

message_called : (items : List Item) (clock : ℕ) (a : End) (p : Payload) → TaskCalled items (servers.raft_message clock a p)
message_called items clock (end.Node j) p = tt
message_called items clock (end.Client c) p = tt

packet_called : (items : List Item) (s : servers.Server) (clock : ℕ) (a : End) (p : Payload) → true_steps.IsQueryMade items p → TaskCalled items (servers.packet_task s clock a p)
packet_called items s clock a (payload.Vote t l lt) k = message_called items clock a (payload.Vote t l lt)
packet_called items s clock a (payload.VoteReply t g) k = message_called items clock a (payload.VoteReply t g)
packet_called items s clock a (payload.Append t p pt c r es) k = message_called items clock a (payload.Append t p pt c r es)
packet_called items s clock a (payload.AppendReply t ok p r) k = message_called items clock a (payload.AppendReply t ok p r)
packet_called items s clock a (payload.Register c o) k = logged_called items s clock a (payload.Register c o) (body.Register c o)
packet_called items s clock a (payload.Keep c session answered heard) k = logged_called items s clock a (payload.Keep c session answered heard) (body.Keep c session answered heard)
packet_called items s clock a (payload.Command c session seq name o) k = logged_called items s clock a (payload.Command c session seq name o) (body.Command c session seq name o)
packet_called items s clock a (payload.Close c session) k = logged_called items s clock a (payload.Close c session) (body.Close c session)
packet_called items s clock a (payload.Query c session n l seen seq name q) k =
    asked_called items s a (payload.Query c session n l seen seq name q) l (record { client = c; session = session; call = n; place = seen; seq = seq; level = l; reach = None; name = name; query = q }) k.called
packet_called items s clock a (payload.Connect c session heard) k = tt
packet_called items s clock a (payload.Reset c session heard) k = tt
packet_called items s clock a (payload.Opened o session) k = tt
packet_called items s clock a (payload.Reply session seq p named r) k = tt
packet_called items s clock a (payload.Gap session last) k = tt
packet_called items s clock a (payload.Answer session n l p named term arrival r) k = tt
packet_called items s clock a (payload.Batch session p prev es) k = tt
packet_called items s clock a (payload.Ended session p way) k = tt

expiries_called : (items : List Item) (xs : List ℕ) (clock : ℕ) → TaskCalled items (servers.expiries xs clock)
expiries_called items [] clock = tt
expiries_called items (x ∷ xs) clock = tt

get_all : {X : Type 0} (P : X → Type 0) (xs : List X) (j : ℕ) (x : X) → AllByRecursion P xs → slice_get xs j ≡ Some x → P x
get_all P [] j x h e = absurd (cc)
get_all P (y ∷ xs) zero x h e = let f : y ≡ x = cc in subst P f h.0
get_all P (y ∷ xs) (suc j) x h e = get_all P xs j x h.1 e

all_at : {X : Type 0} (P : X → Type 0) (xs : List X) (j : ℕ) (x : X) → AllByRecursion P xs → lists.at_place xs j ≡ Some x → P x
all_at P xs zero x h e = absurd (cc)
all_at P xs (suc j) x h e = get_all P xs j x h e

task_called : (w : worlds.World) (k : ℕ) (x : worlds.Host) (i : ServerInput) (items : List Item) → plan_cases.IsInputOf w k x i → AllByRecursion (λ (p : Packet). true_steps.IsQueryMade items p.payload) (plan_cases.kept_packets w.bag) → TaskCalled items (servers.task x.server i)
task_called w k x (input.Elect clock) items known queries = tt
task_called w k x (input.Beat clock) items known queries = tt
task_called w k x (input.Check clock) items known queries = expiries_called items (sessions.due_sessions x.server.state (raft_nodes.time_for x.server.raft clock)) clock
task_called w k x (input.Packet clock p) items known queries =
    packet_called items x.server clock p.«from» p.payload (all_at (λ (q : Packet). true_steps.IsQueryMade items q.payload) (plan_cases.kept_packets w.bag) known.1.place p queries known.1.found)

stands_below : (x : Item) (above xs : List Item) → transcripts.StandsIn x above → transcripts.StandsIn x (below above xs)
stands_below x above [] k = k
stands_below x above (y ∷ xs) k = stands_below x (y ∷ above) xs (inr k)

leader_called : (above : List Item) (k : ℕ) (o : Option ℕ) → transcripts.EachBelow IsReachCalled above (moves.leader_item k o)
leader_called above k None = tt
leader_called above k (Some t) = (tt, tt)

commit_called : (above : List Item) (places c : ℕ) → transcripts.EachBelow IsReachCalled above (moves.commit_item places c)
commit_called above places c = by_test (transcripts.EachBelow IsReachCalled above) (nat_lt places c) (item.Commit c ∷ []) [] (λ e. (tt, tt)) (λ e. tt)

reach_called : (above : List Item) (n : raft_nodes.Node) (read : Option Held) (reached : Option ℕ) → IsReadCalled above read → transcripts.EachBelow IsReachCalled above (moves.option_item (server_steps.reach_item n read reached))
reach_called above n None reached k = tt
reach_called above n (Some h) None k = tt
reach_called above n (Some h) (Some arrival) k = ((h.name, h.query, k), tt)

read_below : (above xs : List Item) (read : Option Held) → IsReadCalled above read → IsReadCalled (below above xs) read
read_below above xs None k = tt
read_below above xs (Some h) k = stands_below (item.Called h.session h.call (call.Query level.Lin h.name h.query)) above xs k

serves_called : (above : List Item) (v : worlds.World) (k : ℕ) (x : worlds.Host) (i : ServerInput) → TaskCalled above (servers.task x.server i) → transcripts.EachBelow IsReachCalled above (moves.server_items v k (server_steps.server_out x.server i))
serves_called above v k x i c =
    let t : servers.Task = servers.task x.server i in
    let n : raft_nodes.Node = server_steps.raft_after x.server.raft t.input in
    let out = server_steps.raft_out x.server.raft t.input in
    let first : List Item = moves.leader_item k (server_steps.led_term n out.led) in
    let second : List Item = moves.commit_item (length v.history) out.committed in
    let third : List Item = moves.option_item (server_steps.reach_item n t.read out.reached) in
    each_append IsReachCalled above (first ++ second) third (each_append IsReachCalled above first second (leader_called above k (server_steps.led_term n out.led)) (commit_called (below above first) (length v.history) out.committed))
    (reach_called (below above (first ++ second)) n t.read out.reached (read_below above (first ++ second) t.read c))

-- how many commands a session called
abbrev count_calls : ℕ → List Item → ℕ
count_calls s items = count_by (λ c. transcripts.is_command c.1) (transcripts.calls s items)

one_command : (c : ℕ × WindowCall) → length (once.command_of c) ≡ cond (transcripts.is_command c.1) 1 0
one_command (n, call.Command name o) = refl
one_command (n, call.Query l name q) = refl

commands_long : (cs : List (ℕ × WindowCall)) → length (flat_map once.command_of cs) ≡ count_by (λ c. transcripts.is_command c.1) cs
commands_long [] = refl
commands_long (c ∷ cs) =
    let a = ap length (flat_map-cons once.command_of c cs) in
    let b = length-append (once.command_of c) (flat_map once.command_of cs) in
    let d = sum_by-cons (λ x. cond (transcripts.is_command x.1) 1 0) c cs in
    let e = one_command c in
    let r = commands_long cs in
    omega (arith, a, b, d, e, r)

calls_one : (s : ℕ) (x : Item) (items : List Item) → count_calls s (x ∷ items) ≡ count_by (λ c. transcripts.is_command c.1) (transcripts.called_by s x) + count_calls s items
calls_one s x items = ap (count_by (λ c. transcripts.is_command c.1)) (flat_map-cons (transcripts.called_by s) x items) ∙ sum_by-append (λ c. cond (transcripts.is_command c.1) 1 0) (transcripts.called_by s x) (transcripts.calls s items)

calls_append : (s : ℕ) (xs ys : List Item) → count_calls s (xs ++ ys) ≡ count_calls s xs + count_calls s ys
calls_append s [] ys = omega arith
calls_append s (x ∷ xs) ys =
    let a = calls_one s x (xs ++ ys) in
    let b = calls_one s x xs in
    let r = calls_append s xs ys in
    omega (arith, a, b, r)

calls_below : (s : ℕ) (above xs : List Item) → count_calls s (below above xs) ≡ count_calls s xs + count_calls s above
calls_below s above [] = omega arith
calls_below s above (x ∷ xs) =
    let a = calls_below s (x ∷ above) xs in
    let b = calls_one s x above in
    let c = calls_one s x xs in
    omega (arith, a, b, c)

below_reversed : (early above : List Item) → below above early ≡ mathlib.Core.List.reverse_aux early above
below_reversed [] above = refl
below_reversed (x ∷ early) above = below_reversed early (x ∷ above)

calls_reverse : (s : ℕ) (early : List Item) → count_calls s (reverse early) ≡ count_calls s early
calls_reverse s early = let a = calls_below s [] early in let b = ap (count_calls s) (below_reversed early []) in let z : count_calls s [] ≡ 0 = refl in omega (arith, a, b, z)

-- a server's items call nothing
leader_calls : (s k : ℕ) (o : Option ℕ) → count_calls s (moves.leader_item k o) ≡ 0
leader_calls s k None = refl
leader_calls s k (Some t) = refl

commit_calls : (s places c : ℕ) → count_calls s (moves.commit_item places c) ≡ 0
commit_calls s places c = by_test (λ xs. count_calls s xs ≡ 0) (nat_lt places c) (item.Commit c ∷ []) [] (λ e. refl) (λ e. refl)

reach_calls : (s : ℕ) (n : raft_nodes.Node) (read : Option Held) (reached : Option ℕ) → count_calls s (moves.option_item (server_steps.reach_item n read reached)) ≡ 0
reach_calls s n None reached = refl
reach_calls s n (Some h) None = refl
reach_calls s n (Some h) (Some arrival) = refl

-- the acts of a session up to the end of a beginning are all of it
abbrev Done : Type 0
Done = ℕ × (List ℕ × Op)

with_beyond : (p n : ℕ) (b : Bool) (x : List ℕ × Op) (ds : List Done) → n ≤ p → AllByRecursion (λ (d : Done). n < d.0) ds → AllByRecursion (λ (d : Done). n < d.0) (cond b ((p + 1, x) ∷ ds) ds)
with_beyond p n true x ds l h = (omega arith, h)
with_beyond p n false x ds l h = h

dos_beyond : (s done n : ℕ) (h : histories.History) → n ≤ done → AllByRecursion (λ (d : Done). n < d.0) (histories.dos_after s done h)
dos_beyond s done n [] l = tt
dos_beyond s done n ((time, act.Do t name o) ∷ h) l = with_beyond done n (nat_eq s t) (name, o) (histories.dos_after s (done + 1) h) l (dos_beyond s (done + 1) n h (omega arith))
dos_beyond s done n ((time, act.Open c o) ∷ h) l = dos_beyond s (done + 1) n h (omega arith)
dos_beyond s done n ((time, act.Keep t) ∷ h) l = dos_beyond s (done + 1) n h (omega arith)
dos_beyond s done n ((time, act.Close t) ∷ h) l = dos_beyond s (done + 1) n h (omega arith)
dos_beyond s done n ((time, act.Expire t) ∷ h) l = dos_beyond s (done + 1) n h (omega arith)
dos_beyond s done n ((time, act.Nothing) ∷ h) l = dos_beyond s (done + 1) n h (omega arith)

not_upto : (a n : ℕ) → n < a → nat_le a n ≡ false
not_upto a n l = grind (arith, nat_tests)

count_none : (n : ℕ) (ds : List Done) → AllByRecursion (λ (d : Done). n < d.0) ds → count_by (λ (d : Done). nat_le d.0 n) ds ≡ 0
count_none n [] h = refl
count_none n (d ∷ ds) h =
    let e = not_upto d.0 n h.0 in
    let a = sum_by-cons (λ (x : Done). cond (nat_le x.0 n) 1 0) d ds in
    let nothing : ℕ = 0 in
    let z : cond (nat_le d.0 n) 1 0 ≡ nothing = ap (λ b. cond b 1 0) e in
    let r = count_none n ds h.1 in
    omega (arith, a, z, r)

dos_front : (g r : histories.History) (s : ℕ) → once.dos_upto (g ++ r) s (length g) ≡ length (histories.dos g s)
dos_front g r s =
    let a = ap (count_by (λ (d : Done). nat_le d.0 (length g))) (dos_grown g r s) in
    let b = sum_by-append (λ (d : Done). cond (nat_le d.0 (length g)) 1 0) (histories.dos g s) (histories.dos_after s (0 + length g) r) in
    let c = count_none (length g) (histories.dos_after s (0 + length g) r) (dos_beyond s (0 + length g) (length g) r (omega arith)) in
    let d = dos_all g s in
    omega (arith, a, b, c, d)

-- at a commit
is_above : (a b : ℕ) → nat_lt a b ≡ true → a < b
is_above a b e = grind (arith, nat_tests)

commit_before : (h : histories.History) (s : ℕ) (above : List Item) (places c : ℕ) → (places < c → once.dos_upto h s c ≤ count_calls s above) → transcripts.EachBelow (once.IsCalledBefore h s) above (moves.commit_item places c)
commit_before h s above places c f = by_test (transcripts.EachBelow (once.IsCalledBefore h s) above) (nat_lt places c) (item.Commit c ∷ []) [] (λ e. (f (is_above places c e), tt)) (λ e. tt)

leader_before : (h : histories.History) (s : ℕ) (above : List Item) (k : ℕ) (o : Option ℕ) → transcripts.EachBelow (once.IsCalledBefore h s) above (moves.leader_item k o)
leader_before h s above k None = tt
leader_before h s above k (Some t) = (tt, tt)

reach_before : (h : histories.History) (s : ℕ) (above : List Item) (n : raft_nodes.Node) (read : Option Held) (reached : Option ℕ) → transcripts.EachBelow (once.IsCalledBefore h s) above (moves.option_item (server_steps.reach_item n read reached))
reach_before h s above n None reached = tt
reach_before h s above n (Some x) None = tt
reach_before h s above n (Some x) (Some arrival) = (tt, tt)

begun_length : {X : Type 0} (xs ys : List X) → once.Begins xs ys → length xs ≤ length ys
begun_length xs ys b = let a = ap length b.1 in let c = length-append xs b.0 in omega (arith, a, c)

length_mapped : {X Y : Type 0} (f : X → Y) (xs : List X) → length (map f xs) ≡ length xs
length_mapped f [] = refl
length_mapped f (x ∷ xs) = ap (λ n. suc n) (length_mapped f xs)

serves_before : (nodes clients time : ℕ) (h : histories.History) (l : ledgers.Ledger) (w v : worlds.World) (early : List Item) (k : ℕ) (x : worlds.Host) (i : ServerInput) → SoFar nodes clients time l w
    → plan_cases.IsAlike w v → lists.at_place w.hosts k ≡ Some x → x.is_up ≡ true → plan_cases.IsInputOf w k x i
    → once.Begins (kept_stores.acts_of time (ledgers.with_input l k x.server.raft (servers.task x.server i).input).committed) h
    → (s : ℕ) → acts.AreRequested (once.commands s (early ++ moves.server_items v k (server_steps.server_out x.server i))) s (ledgers.with_input l k x.server.raft (servers.task x.server i).input).committed
    → transcripts.EachBelow (once.IsCalledBefore h s) (reverse early) (moves.server_items v k (server_steps.server_out x.server i))
serves_before nodes clients time h l w v early k x i f a at up known g s asked =
    let t : servers.Task = servers.task x.server i in
    let n : raft_nodes.Node = server_steps.raft_after x.server.raft t.input in
    let out = server_steps.raft_out x.server.raft t.input in
    let new : List Entry = (ledgers.with_input l k x.server.raft t.input).committed in
    let made : histories.History = kept_stores.acts_of time new in
    let first : List Item = moves.leader_item k (server_steps.led_term n out.led) in
    let second : List Item = moves.commit_item (length v.history) out.committed in
    let third : List Item = moves.option_item (server_steps.reach_item n t.read out.reached) in
    let r = serves_facts nodes l w v k x i f.matched f.stands a at up known in
    let long : length made ≡ length new = acts_count (sessions.new_sessions time) new in
    let history : length v.history ≡ length l.committed = ap length (a.history ∙ f.stands.history) ∙ acts_count (sessions.new_sessions w.timeout) l.committed in
    let out_is : out.committed ≡ n.commit = out_committed x.server.raft t.input in
    let at_end : length v.history < out.committed → out.committed ≡ length made = λ lt.
    elim r.reached [
      | inl e ↦ let b = r.holds.within in let c = ap length e in absurd (omega (arith, lt, history, out_is, b, c))
      | inr e ↦ omega (arith, e, out_is, long)
    ] in
    let begun = acts_begin_commands time new s (once.commands s (early ++ (first ++ second ++ third))) asked in
    let short = begun_length (map (λ d. d.1) (histories.dos made s)) (once.commands s (early ++ (first ++ second ++ third))) begun in
    let mapped = length_mapped (λ d. d.1) (histories.dos made s) in
    let counted = commands_long (transcripts.calls s (early ++ (first ++ second ++ third))) in
    let c1 = calls_append s early (first ++ second ++ third) in
    let c2 = calls_append s (first ++ second) third in
    let c3 = calls_append s first second in
    let z1 = leader_calls s k (server_steps.led_term n out.led) in
    let z2 = commit_calls s (length v.history) out.committed in
    let z3 = reach_calls s n t.read out.reached in
    let d1 = calls_below s (reverse early) first in
    let d2 = calls_reverse s early in
    let below_commit : length v.history < out.committed → once.dos_upto h s out.committed ≤ count_calls s (below (reverse early) first) = λ lt.
    let e1 : once.dos_upto h s out.committed ≡ once.dos_upto (made ++ g.0) s (length made) = ap (λ q. once.dos_upto q s out.committed) g.1 ∙ ap (once.dos_upto (made ++ g.0) s) (at_end lt) in
    let e2 = dos_front made g.0 s in
    omega (arith, e1, e2, short, mapped, counted, c1, c2, c3, z1, z2, z3, d1, d2) in
    each_append (once.IsCalledBefore h s) (reverse early) (first ++ second) third
    (each_append (once.IsCalledBefore h s) (reverse early) first second (leader_before h s (reverse early) k (server_steps.led_term n out.led)) (commit_before h s (below (reverse early) first) (length v.history) out.committed below_commit))
    (reach_before h s (below (reverse early) (first ++ second)) n t.read out.reached)

-- each plan
carried_called : (w : worlds.World) (early : List Item) (p : plans.Plan) (o : StepOutcome) → plan_cases.IsCase w p → PlanQuiet p → AllByRecursion (λ (q : Packet). true_steps.IsQueryMade (reverse early) q.payload) (plan_cases.kept_packets w.bag)
    → transcripts.EachBelow IsReachCalled (reverse early) (moves.carried p o).items
carried_called w early p o (plan_cases.Serving v k x i a at up known e) q queries = subst (λ y. transcripts.EachBelow IsReachCalled (reverse early) (moves.carried y o).items) (sym e) (served o)
  where
    served : (o : StepOutcome) → transcripts.EachBelow IsReachCalled (reverse early) (moves.served v k x i o).items
    served outcome.Fine = serves_called (reverse early) v k x i (task_called w k x i (reverse early) known queries)
    served (outcome.Loaded added) = serves_called (reverse early) v k x i (task_called w k x i (reverse early) known queries)
    served (outcome.Failed saved) = (tt, tt)
carried_called w early p o (plan_cases.Loading k x at down e) q queries = subst (λ y. transcripts.EachBelow IsReachCalled (reverse early) (moves.carried y o).items) (sym e) (loaded o)
  where
    loaded : (o : StepOutcome) → transcripts.EachBelow IsReachCalled (reverse early) (moves.loaded w k x o).items
    loaded outcome.Fine = tt
    loaded (outcome.Loaded added) = tt
    loaded (outcome.Failed saved) = (tt, tt)
carried_called w early p o (plan_cases.Asking v c x next a at me e) q queries = subst (λ y. transcripts.EachBelow IsReachCalled (reverse early) (moves.carried y o).items) (sym e)
    (each_quiet IsReachCalled quiet_called (reverse early) (moves.with_shown c x.watches next.out.items) (with_shown c x.watches next.out.items (subst PlanQuiet e q)))
carried_called w early p o (plan_cases.Falling k x at up e) q queries = subst (λ y. transcripts.EachBelow IsReachCalled (reverse early) (moves.carried y o).items) (sym e) tt
carried_called w early p o (plan_cases.Setting k x t at e) q queries = subst (λ y. transcripts.EachBelow IsReachCalled (reverse early) (moves.carried y o).items) (sym e) tt
carried_called w early p o (plan_cases.Seating c x t items at me e) q queries = subst (λ y. transcripts.EachBelow IsReachCalled (reverse early) (moves.carried y o).items) (sym e) (each_quiet IsReachCalled quiet_called (reverse early) items (all_quiet items (subst PlanQuiet e q)))
carried_called w early p o (plan_cases.Showing v items a e) q queries = subst (λ y. transcripts.EachBelow IsReachCalled (reverse early) (moves.carried y o).items) (sym e) (each_quiet IsReachCalled quiet_called (reverse early) items (all_quiet items (subst PlanQuiet e q)))

abbrev IfRequested : ℕ → histories.History → ledgers.Ledger → List Item → ℕ → plans.Plan → StepOutcome → Type 0
IfRequested time h l early s p o = once.Begins (kept_stores.acts_of time (ledgers.ledger_in l p o).committed) h → acts.AreRequested (once.commands s (early ++ (moves.carried p o).items)) s (ledgers.ledger_in l p o).committed
    → transcripts.EachBelow (once.IsCalledBefore h s) (reverse early) (moves.carried p o).items

carried_before : (nodes clients time : ℕ) (h : histories.History) (l : ledgers.Ledger) (w : worlds.World) (early : List Item) (s : ℕ) (p : plans.Plan) (o : StepOutcome) → plan_cases.IsCase w p → PlanQuiet p → SoFar nodes clients time l w → IfRequested time h l early s p o
carried_before nodes clients time h l w early s p o (plan_cases.Serving v k x i a at up known e) q f = subst (λ y. IfRequested time h l early s y o) (sym e) (served o)
  where
    served : (o : StepOutcome) → IfRequested time h l early s (plans.Serves v k x i) o
    served outcome.Fine g asked = serves_before nodes clients time h l w v early k x i f a at up known g s asked
    served (outcome.Loaded added) g asked = serves_before nodes clients time h l w v early k x i f a at up known g s asked
    served (outcome.Failed saved) g asked = (tt, tt)
carried_before nodes clients time h l w early s p o (plan_cases.Loading k x at down e) q f = subst (λ y. IfRequested time h l early s y o) (sym e) (loaded o)
  where
    loaded : (o : StepOutcome) → IfRequested time h l early s (plans.Loads w k x) o
    loaded outcome.Fine g asked = tt
    loaded (outcome.Loaded added) g asked = tt
    loaded (outcome.Failed saved) g asked = (tt, tt)
carried_before nodes clients time h l w early s p o (plan_cases.Asking v c x next a at me e) q f = subst (λ y. IfRequested time h l early s y o) (sym e)
    (λ g asked. each_quiet (once.IsCalledBefore h s) (quiet_before h s) (reverse early) (moves.with_shown c x.watches next.out.items) (with_shown c x.watches next.out.items (subst PlanQuiet e q)))
carried_before nodes clients time h l w early s p o (plan_cases.Falling k x at up e) q f = subst (λ y. IfRequested time h l early s y o) (sym e) (λ g asked. tt)
carried_before nodes clients time h l w early s p o (plan_cases.Setting k x t at e) q f = subst (λ y. IfRequested time h l early s y o) (sym e) (λ g asked. tt)
carried_before nodes clients time h l w early s p o (plan_cases.Seating c x t items at me e) q f = subst (λ y. IfRequested time h l early s y o) (sym e) (λ g asked. each_quiet (once.IsCalledBefore h s) (quiet_before h s) (reverse early) items (all_quiet items (subst PlanQuiet e q)))
carried_before nodes clients time h l w early s p o (plan_cases.Showing v items a e) q f = subst (λ y. IfRequested time h l early s y o) (sym e) (λ g asked. each_quiet (once.IsCalledBefore h s) (quiet_before h s) (reverse early) items (all_quiet items (subst PlanQuiet e q)))

-- of a step: from what holds before it, and from what the requests say after it
pub step_called : (nodes clients time : ℕ) (h : histories.History) (l : ledgers.Ledger) (w : worlds.World) (early : List Item) (k : KeptStep) → faith.RunStands nodes clients time h l w early → transcripts.EachBelow IsReachCalled (reverse early) (moves.moved w k).items
step_called nodes clients time h l w early k x = carried_called w early (plans.plan w k.step) k.outcome (plan_case w k.step) (plan_quiet w k.step) x.requests.queries

pub step_before : (nodes clients time : ℕ) (h g : histories.History) (l : ledgers.Ledger) (w : worlds.World) (early : List Item) (k : KeptStep) → faith.RunStands nodes clients time g l w early → once.Begins (moves.moved w k).world.history h
    → faith.RequestsStand (ledgers.ledger_by l w k) (moves.moved w k).world (early ++ (moves.moved w k).items) → (s : ℕ) → transcripts.EachBelow (once.IsCalledBefore h s) (reverse early) (moves.moved w k).items
step_before nodes clients time h g l w early k x b z s =
    let m = step_so_far nodes clients time l w k x.so_far in
    let history : (moves.moved w k).world.history ≡ kept_stores.acts_of time (ledgers.ledger_by l w k).committed = m.stands.history ∙ ap (λ t. kept_stores.acts_of t (ledgers.ledger_by l w k).committed) m.numbers.timeout in
    carried_before nodes clients time h l w early s (plans.plan w k.step) k.outcome (plan_case w k.step) (plan_quiet w k.step) x.so_far (subst (λ q. once.Begins q h) history b) (z.commands s)
