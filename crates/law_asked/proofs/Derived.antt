-- What follows from what is said: committed requests, queries under way, commands that take effect, and ends by a close.
use Rattle.std.proofs.Common.{◌≡◌, ℕ, List, ◌++◌, reverse, length, take, refl, ap, sym, ◌∙◌, subst}
use Rattle.std.specs.Prelude.{nat_lt, Option, Some, None, flat_map}
use Rattle.std.specs.List.{AllByRecursion}
use Rattle.std.proofs.lemmas.List.{reverse-reverse}
use Rattle.ax_types.specs.Places as lists
use Rattle.ax_types.specs.declared.entries.Act.{Act}
use Rattle.ax_types.specs.declared.entries.Act.TheVariants as act
use Rattle.ax_types.specs.declared.entries.Body.{Body}
use Rattle.ax_types.specs.declared.entries.Body.TheVariants as body
use Rattle.ax_types.specs.declared.entries.Entry.{Entry}
use Rattle.ax_types.specs.declared.items.Item.{Item}
use Rattle.ax_types.specs.declared.items.Item.TheVariants as item
use Rattle.ax_types.specs.declared.ops.Level.{Level}
use Rattle.ax_types.specs.declared.ops.Query.{Query}
use Rattle.ax_types.specs.declared.ops.WindowCall.TheVariants as call
use Rattle.ax_types.specs.declared.packets.Payload.{Payload}
use Rattle.ax_types.specs.declared.packets.Payload.TheVariants as payload
use Rattle.ax_types.specs.declared.raft.RaftInput.{RaftInput}
use Rattle.ax_types.specs.declared.replies.How.TheVariants as how
use Rattle.ax_types.specs.declared.sessions.ClientState.{ClientState}
use Rattle.ax_types.specs.declared.sessions.ClientState.TheVariants as state
use Rattle.ax_types.specs.declared.sessions.ServerInput.{ServerInput}
use Rattle.ax_types.specs.declared.steps.StepOutcome.{StepOutcome}
use Rattle.ax_types.specs.declared.steps.StepOutcome.TheVariants as outcome
use Rattle.spec_book.specs.History as histories
use Rattle.spec_claims.specs.Transcript as transcripts
use Rattle.spec_claims.specs.Once as claims_once
use Rattle.spec_claims.specs.OutcomeOrder as outcome_order
use Rattle.spec_claims.specs.Payloads as payloads
use Rattle.spec_node.specs.Node as nodes
use Rattle.spec_node.specs.NodeStep as node_steps
use Rattle.spec_client.specs.Clients as clients
use Rattle.spec_server.specs.Servers as servers
use Rattle.spec_world.specs.Worlds as worlds
use Rattle.spec_world.specs.Plans as plans
use Rattle.spec_world.specs.Moves as moves
use Rattle.spec_run.specs.KeptStores as kept_stores
use Rattle.law_growth.specs.PlanCases as plan_cases
use Rattle.law_growth.proofs.Cases.{plan_case}
use Rattle.law_hosts.specs.Ledger as ledgers
use Rattle.law_sessions.specs.Acts as acts
use Rattle.law_origin.proofs.Each.{each_take, each_at}
use Rattle.law_release.proofs.Tests.{by_test}
use Rattle.law_client.specs.Inputs as inputs
use Rattle.law_client.specs.Standing as standing
use Rattle.law_client.proofs.Lists.{some_same}
use Rattle.law_client.proofs.Steps.{same_opening}
use Rattle.law_requests.specs.Requests as requests
use Rattle.law_seats.specs.Seats as seats
use Rattle.law_seats.proofs.Unwatched.{unwatched_reverse, calls_same, below_same, stands_up}
use Rattle.law_asked.specs.Asked as asked
use Rattle.law_asked.proofs.Serving.{EntrySays, InputMay, ServerSays, server_says, raft_log}
use Rattle.law_asked.proofs.Saying.{said_stays}
use Rattle.law_asked.proofs.Moving.{input_says, host_at}
use Rattle.law_asked.proofs.Runs.{entries_since, said_since}

-- what becomes committed was in the log of a server
with_input_says : (S : ℕ → Payload → Type 0) (l : ledgers.Ledger) (k : ℕ) (n : nodes.Node) (i : Option RaftInput) → asked.EntriesSay S l.committed → AllByRecursion (EntrySays S) n.log → InputMay S n i
    → asked.EntriesSay S (ledgers.with_input l k n i).committed
with_input_says S l k n None c log may = c
with_input_says S l k n (Some i) c log may =
    let after = node_steps.stepped n i in
    by_test (AllByRecursion (EntrySays S)) (nat_lt (length l.committed) after.commit) (take after.commit after.log) l.committed
    (λ e. each_take (EntrySays S) after.commit after.log (raft_log S n (Some i) log may)) (λ e. c)

served_commits : (S : ℕ → Payload → Type 0) (l : ledgers.Ledger) (v : worlds.World) (k : ℕ) (x : worlds.Host) (i : ServerInput) (o : StepOutcome) → asked.EntriesSay S l.committed → asked.HostSays S x → ServerSays S x.server i
    → asked.EntriesSay S (ledgers.ledger_in l (plans.Serves v k x i) o).committed
served_commits S l v k x i outcome.Fine c h s = with_input_says S l k x.server.raft (servers.task x.server i).input c h.log s.add
served_commits S l v k x i (outcome.Loaded added) c h s = with_input_says S l k x.server.raft (servers.task x.server i).input c h.log s.add
served_commits S l v k x i (outcome.Failed saved) c h s = c

carried_commits : (S : ℕ → Payload → Type 0) (l : ledgers.Ledger) (w : worlds.World) (p : plans.Plan) (o : StepOutcome) → plan_cases.IsCase w p → asked.AllSaid S w → asked.EntriesSay S l.committed
    → asked.EntriesSay S (ledgers.ledger_in l p o).committed
carried_commits S l w p o (plan_cases.Serving v k x i alike is up comes e) a c =
    let h : asked.HostSays S x = host_at S w k x is a in
    subst (λ q. asked.EntriesSay S (ledgers.ledger_in l q o).committed) (sym e) (served_commits S l v k x i o c h (server_says S x.server i h.log (input_says S w k x i comes a)))
carried_commits S l w p o (plan_cases.Loading k x is down e) a c = subst (λ q. asked.EntriesSay S (ledgers.ledger_in l q o).committed) (sym e) c
carried_commits S l w p o (plan_cases.Asking v d s next alike is me e) a c = subst (λ q. asked.EntriesSay S (ledgers.ledger_in l q o).committed) (sym e) c
carried_commits S l w p o (plan_cases.Falling k x is up e) a c = subst (λ q. asked.EntriesSay S (ledgers.ledger_in l q o).committed) (sym e) c
carried_commits S l w p o (plan_cases.Setting k x time is e) a c = subst (λ q. asked.EntriesSay S (ledgers.ledger_in l q o).committed) (sym e) c
carried_commits S l w p o (plan_cases.Seating d s t items is me e) a c = subst (λ q. asked.EntriesSay S (ledgers.ledger_in l q o).committed) (sym e) c
carried_commits S l w p o (plan_cases.Showing v items alike e) a c = subst (λ q. asked.EntriesSay S (ledgers.ledger_in l q o).committed) (sym e) c

-- what is committed is said by its client, and each step keeps that
pub committed_says : asked.EachStepCommits
committed_says h l w above k stand told said c =
    let m = moves.moved w k in
    let S = asked.IsSaidBy h w.seats above in
    let T = asked.IsSaidBy h m.world.seats (reverse m.items ++ above) in
    let f : (d : ℕ) (p : Payload) → S d p → T d p = λ d p s. said_stays h w above k stand told d p s in
    carried_commits T l w (plans.plan w k.step) k.outcome (plan_case w k.step) (said_since S T f w said) (entries_since S T f l.committed c)

-- a query that is said was called, behind as many commands as it says
pub query_called : (h : histories.History) (ss : List worlds.Watcher) (above : List Item) (c s n : ℕ) (l : Level) (seen seq : ℕ) (name : List ℕ) (q : Query)
    → asked.IsSaidBy h ss above c (payload.Query c s n l seen seq name q)
    → transcripts.StandsIn (item.Called s n (call.Query l name q)) above × (transcripts.commands_below s n above ≡ seq)
query_called h ss above c s n l seen seq name q said =
    (stands_up (item.Called s n (call.Query l name q)) above said.says.1.called, sym (below_same s n above) ∙ sym said.says.1.rank)

commands_same : (s : ℕ) (items : List Item) → claims_once.commands s (reverse (seats.unwatched (reverse items))) ≡ claims_once.commands s items
commands_same s items =
    ap (λ xs. claims_once.commands s xs) (sym (unwatched_reverse (reverse items)) ∙ ap seats.unwatched (reverse-reverse items)) ∙ ap (λ cs. flat_map claims_once.command_of cs) (calls_same s items)

-- a command that is committed is its session's command of its sequence
pub commands_requested : (h : histories.History) (ss : List worlds.Watcher) (items : List Item) (s : ℕ) (es : List Entry) → asked.EntriesSay (asked.IsSaidBy h ss (reverse items)) es
    → acts.AreRequested (claims_once.commands s items) s es
commands_requested h ss items s es said p k c is = by_entry (lists.at_place es p) refl is
  where
    of_body : (b : Body) → asked.BodySays (asked.IsSaidBy h ss (reverse items)) b → acts.IsCommandBody s k c b → lists.at_place (claims_once.commands s items) k ≡ Some c
    of_body (body.Command d t n name o) b i =
        let in_order = b.says.1.in_order in
        ap (λ u. lists.at_place (claims_once.commands u items) k) (sym i.0) ∙ ap (λ m. lists.at_place (claims_once.commands t items) m) (sym i.1)
        ∙ ap (λ cs. lists.at_place cs n) (sym (commands_same t items)) ∙ in_order ∙ ap (λ x. Some x) (sym i.2)
    of_body body.Blank b i = absurd i
    of_body (body.Register d o) b i = absurd i
    of_body (body.Keep d t x y) b i = absurd i
    of_body (body.Close d t) b i = absurd i
    of_body (body.Expire t) b i = absurd i

    by_entry : (o : Option Entry) → lists.at_place es p ≡ o → acts.IsCommandAt s k c o → lists.at_place (claims_once.commands s items) k ≡ Some c
    by_entry None e i = absurd i
    by_entry (Some x) e i = of_body x.body (each_at (EntrySays (asked.IsSaidBy h ss (reverse items))) es p x said e) i

-- the session of a client that has one was opened by it
own_opening : (h : histories.History) (c : clients.Client) (above : List Item) (s : ℕ) (t : ClientState) → standing.OwnStands h c above t → clients.own_session t ≡ s → (s ≡ 0 → ⊥) → (o : ℕ) × payloads.IsOpeningOf c.me o (lists.at_place h s)
own_opening h c above s state.NoneYet k e n = absurd (n (sym e))
own_opening h c above s state.Opening k e n = absurd (n (sym e))
own_opening h c above s (state.Live u) k e n = (c.switch.opening, subst (λ v. payloads.IsOpeningOf c.me c.switch.opening (lists.at_place h v)) e k.0.opening)
own_opening h c above s (state.Closing u) k e n = (c.switch.opening, subst (λ v. payloads.IsOpeningOf c.me c.switch.opening (lists.at_place h v)) e k.0.opening)
own_opening h c above s (state.Ended u) k e n = (c.switch.opening, subst (λ v. payloads.IsOpeningOf c.me c.switch.opening (lists.at_place h v)) e k.0.opening)

no_place : (h : histories.History) (c o s : ℕ) → payloads.IsOpeningOf c o (lists.at_place h s) → s ≡ 0 → ⊥
no_place h c o s is e = subst (λ u. payloads.IsOpeningOf c o (lists.at_place h u)) e is

-- an end by a close, which the history `past` has at its place, was asked for by the client whose session it is: the entry there is its close
pub close_asked : (h past : histories.History) (w : worlds.World) (above : List Item) (es : List Entry) (c : ℕ) (t : worlds.Watcher) (s p : ℕ) → seats.AllStand h w above → asked.EntriesSay (asked.IsSaidBy h w.seats above) es
    → acts.AreOfEntries es past → lists.at_place w.seats c ≡ Some t → outcome_order.IsEndOf s how.Closed (lists.at_place past p)
    → inputs.IsAskedEnd (seats.seat_below above t) (payload.Ended s p how.Closed)
close_asked h past w above es c t s p stand said of is ends mine = by_act (lists.at_place past p) refl ends
  where
    asked_so : (d : ℕ) → asked.IsSaidBy h w.seats above d (payload.Close d s) → inputs.HasClosed (seats.seat_below above t) s
    asked_so d b =
        let f : requests.IsFrom h (seats.seat_below above b.seat) d s = b.says.0 in
        let apart = no_place h b.seat.client.me f.opened.opening s f.opened.opened in
        let own = own_opening h t.client (seats.unwatched above) s t.client.state (stand.stand c t is).own mine apart in
        let same : t.client.me ≡ b.seat.client.me = (same_opening t.client.me b.seat.client.me own.0 f.opened.opening (lists.at_place h s) own.1 f.opened.opened).0 in
        let one : c ≡ d = sym (stand.numbers c t is) ∙ same ∙ stand.numbers d b.seat b.found in
        let seat : b.seat ≡ t = some_same b.seat t (sym b.found ∙ ap (λ n. lists.at_place w.seats n) (sym one) ∙ is) in
        subst (λ u. inputs.HasClosed (seats.seat_below above u) s) seat b.says.1

    of_body : (b : Body) → asked.BodySays (asked.IsSaidBy h w.seats above) b → kept_stores.IsBodyOf (act.Close s) b → inputs.HasClosed (seats.seat_below above t) s
    of_body (body.Close d u) b i = asked_so d (subst (λ v. asked.IsSaidBy h w.seats above d (payload.Close d v)) i b)
    of_body body.Blank b i = absurd i
    of_body (body.Register d o) b i = absurd i
    of_body (body.Keep d u x y) b i = absurd i
    of_body (body.Command d u n name o) b i = absurd i
    of_body (body.Expire u) b i = absurd i

    by_entry : (time : ℕ) (o : Option Entry) → lists.at_place es p ≡ o → acts.IsActOf o (time, act.Close s) → inputs.HasClosed (seats.seat_below above t) s
    by_entry time None e i = absurd i
    by_entry time (Some x) e i = of_body x.body (each_at (EntrySays (asked.IsSaidBy h w.seats above)) es p x said e) i.1

    by_act : (a : Option (ℕ × Act)) → lists.at_place past p ≡ a → outcome_order.IsEndOf s how.Closed a → inputs.HasClosed (seats.seat_below above t) s
    by_act None e i = absurd i
    by_act (Some (time, act.Close u)) e i =
        by_entry time (lists.at_place es p) refl (subst (λ v. acts.IsActOf (lists.at_place es p) (time, act.Close v)) (sym i) (of.each p (time, act.Close u) e))
    by_act (Some (time, act.Nothing)) e i = absurd i
    by_act (Some (time, act.Open d o)) e i = absurd i
    by_act (Some (time, act.Keep u)) e i = absurd i
    by_act (Some (time, act.Do u n o)) e i = absurd i
    by_act (Some (time, act.Expire u)) e i = absurd i

-- so is each end that a true packet tells
pub ends_asked : (h past : histories.History) (w : worlds.World) (above : List Item) (es : List Entry) (items : List Item) (c : ℕ) (t : worlds.Watcher) (p : Payload) → seats.AllStand h w above
    → asked.EntriesSay (asked.IsSaidBy h w.seats above) es → acts.AreOfEntries es past → lists.at_place w.seats c ≡ Some t → payloads.IsTruePayload items past c p → inputs.IsAskedEnd (seats.seat_below above t) p
ends_asked h past w above es items c t (payload.Ended s p how.Closed) stand said of is true_it = close_asked h past w above es c t s p stand said of is true_it
ends_asked h past w above es items c t (payload.Ended s p how.Expired) stand said of is true_it = tt
ends_asked h past w above es items c t (payload.Opened o s) stand said of is true_it = tt
ends_asked h past w above es items c t (payload.Reply s q p n r) stand said of is true_it = tt
ends_asked h past w above es items c t (payload.Gap s l) stand said of is true_it = tt
ends_asked h past w above es items c t (payload.Batch s p v b) stand said of is true_it = tt
ends_asked h past w above es items c t (payload.Answer s n l p e u a r) stand said of is true_it = tt
ends_asked h past w above es items c t p stand said of is true_it = tt
