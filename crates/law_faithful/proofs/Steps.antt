-- What holds in a world of a run holds after each step.
use Rattle.std.proofs.Common.{◌≡◌, ℕ, zero, suc, List, [], ◌∷◌, ◌++◌, length, map, reverse, refl, ap, sym, ◌∙◌, subst, inl, inr, append_assoc, append-nil, arith}
use Rattle.std.specs.Prelude.{◌⊎◌, Bool, true, false, Option, Some, None, slice_get}
use Rattle.std.specs.List.{AllByRecursion}
use Rattle.std.proofs.lemmas.List.{reverse-append}
use Rattle.ax_types.specs.Places as lists
use Rattle.ax_types.specs.declared.entries.Entry.{Entry}
use Rattle.ax_types.specs.declared.ids.End.{End}
use Rattle.ax_types.specs.declared.ids.End.TheVariants as end
use Rattle.ax_types.specs.declared.items.Item.{Item}
use Rattle.ax_types.specs.declared.items.Item.TheVariants as item
use Rattle.ax_types.specs.declared.packets.Packet.{Packet}
use Rattle.ax_types.specs.declared.ops.WindowCall.TheVariants as call
use Rattle.ax_types.specs.declared.packets.Payload.{Payload}
use Rattle.ax_types.specs.declared.packets.Payload.TheVariants as payload
use Rattle.ax_types.specs.declared.sessions.ServerInput.{ServerInput}
use Rattle.ax_types.specs.declared.sessions.ServerInput.TheVariants as input
use Rattle.ax_types.specs.declared.sessions.ServerOut.{ServerOut}
use Rattle.ax_types.specs.declared.steps.KeptStep.{KeptStep}
use Rattle.ax_types.specs.declared.steps.StepOutcome.{StepOutcome}
use Rattle.ax_types.specs.declared.steps.StepOutcome.TheVariants as outcome
use Rattle.spec_book.specs.History as histories
use Rattle.spec_claims.specs.Transcript as transcripts
use Rattle.spec_claims.specs.Once as once
use Rattle.spec_claims.specs.OutcomeOrder as outcome_order
use Rattle.spec_claims.specs.Payloads as payloads
use Rattle.spec_node.specs.Saving as saving
use Rattle.spec_server.specs.Servers as servers
use Rattle.spec_server.specs.ServerStep as server_steps
use Rattle.spec_world.specs.Worlds as worlds
use Rattle.spec_world.specs.Plans as plans
use Rattle.spec_world.specs.Moves as moves
use Rattle.spec_run.specs.KeptStores as kept_stores
use Rattle.law_refinement.proofs.Orders.{all_at}
use Rattle.law_client.specs.Inputs as inputs
use Rattle.law_client.specs.Promises as promises
use Rattle.law_told.specs.Truth as truths
use Rattle.law_told.proofs.Staying.{history_grows, same_below, items_grow, payloads_stay_true}
use Rattle.law_answers.specs.TrueServers as true_servers
use Rattle.law_answers.specs.TrueSteps as true_steps
use Rattle.law_answers.proofs.Steps.{servers_send_truth}
use Rattle.law_answers.proofs.Lasting.{servers_start, servers_last}
use Rattle.law_growth.specs.PlanCases as plan_cases
use Rattle.law_growth.proofs.Cases.{true_false, plan_case}
use Rattle.law_growth.proofs.Numbers.{placed, history_follows}
use Rattle.law_growth.proofs.Sent.{all_since, all_kept}
use Rattle.law_hosts.specs.Ledger as ledgers
use Rattle.law_hosts.proofs.Applied.{SoFar, Serves, serves_facts, step_so_far, carried_grows}
use Rattle.law_items.specs.Ordered as items
use Rattle.law_items.proofs.Below.{below, below_append, each_append, Shows}
use Rattle.law_items.proofs.Leads.{AreLed, carried_led}
use Rattle.law_items.proofs.Quiet.{plan_quiet}
use Rattle.law_items.proofs.Order.{carried_shows, reads_covered}
use Rattle.law_seats.specs.Seats as seats
use Rattle.law_seats.proofs.Seats.{each_step_seats}
use Rattle.law_asked.specs.Asked as asked
use Rattle.law_asked.proofs.Runs.{each_step_says}
use Rattle.law_asked.proofs.Derived.{committed_says}
use Rattle.law_faithful.specs.Faith as faith
use Rattle.law_faithful.proofs.Requests.{requests_stand}

-- items above, after more
pub below_reverse : (above xs : List Item) → below above xs ≡ reverse xs ++ above
below_reverse above [] = refl
below_reverse above (x ∷ xs) = below_reverse (x ∷ above) xs ∙ sym (append_assoc (reverse xs) (x ∷ []) above) ∙ ap (λ ys. ys ++ above) (sym (reverse-append (x ∷ []) xs))

pub below_early : (early xs : List Item) → below (reverse early) xs ≡ reverse (early ++ xs)
below_early early xs = below_reverse (reverse early) xs ∙ sym (reverse-append early xs)

-- what holds of each item
pub each_since : (P R : List Item → Item → Type 0) → ((above : List Item) (x : Item) → P above x → R above x) → (above xs : List Item) → transcripts.EachBelow P above xs → transcripts.EachBelow R above xs
each_since P R f above [] h = tt
each_since P R f above (x ∷ xs) h = (f above x h.0, each_since P R f (x ∷ above) xs h.1)

-- more items, each below those before
pub each_more : (P : List Item → Item → Type 0) (early xs : List Item) → transcripts.EachItem P early → transcripts.EachBelow P (reverse early) xs → transcripts.EachItem P (early ++ xs)
each_more P early xs h k = each_append P [] early xs h (subst (λ above. transcripts.EachBelow P above xs) (sym (below_early [] early)) k)

-- what is known before a step
abbrev pub Before : (nodes clients time : ℕ) (h : histories.History) (l : ledgers.Ledger) (w : worlds.World) (early : List Item) → Type 0
Before nodes clients time h l w early = faith.RunStands nodes clients time h l w early

pub true_kept : (nodes clients time : ℕ) (h : histories.History) (l : ledgers.Ledger) (w : worlds.World) (early : List Item) → Before nodes clients time h l w early → seats.AreTrueKept h w (reverse early)
true_kept nodes clients time h l w early x = go (plan_cases.kept_packets w.bag) x.told x.requests.ends
  where
    one : (p : Packet) (a : End) → p.to ≡ a → true_steps.IsTrueTo (reverse early) h a p.payload
        → ((c : ℕ) (s : worlds.Watcher) → p.to ≡ end.Client c → lists.at_place w.seats c ≡ Some s → inputs.IsAskedEnd (seats.seat_below (reverse early) s) p.payload) → seats.IsTold h w (reverse early) p.payload a
    one p (end.Node k) e t f = tt
    one p (end.Client c) e t f = (t, λ s at. f c s e at)

    go : (ps : List Packet) → AllByRecursion (λ (p : Packet). true_steps.IsTrueTo (reverse early) h p.to p.payload) ps
        → AllByRecursion (λ (p : Packet). (c : ℕ) (s : worlds.Watcher) → p.to ≡ end.Client c → lists.at_place w.seats c ≡ Some s → inputs.IsAskedEnd (seats.seat_below (reverse early) s) p.payload) ps
        → AllByRecursion (λ (p : Packet). seats.IsTold h w (reverse early) p.payload p.to) ps
    go [] a b = tt
    go (p ∷ ps) a b = (one p p.to refl a.0 b.0, go ps a.1 b.1)

-- calls stay numbered
numbered : (h : histories.History) (early xs : List Item) → truths.AreCallsNumbered early → transcripts.EachBelow (promises.IsClaimed h) (reverse early) xs → truths.AreCallsNumbered (early ++ xs)
numbered h early xs n c s = each_more (outcome_order.IsNumbered s) early xs (n s) (each_since (promises.IsClaimed h) (outcome_order.IsNumbered s) (λ above x k. (k.outcome s).0) (reverse early) xs c)

-- what was called stays so as the items grow
query_lasts : (early later : List Item) → truths.AreCallsNumbered (early ++ later) → (p : Payload) → true_steps.IsQueryMade (reverse early) p → true_steps.IsQueryMade (reverse (early ++ later)) p
query_lasts early later numbered (payload.Query c s n l seen seq name q) k =
    items_grow (λ items. true_servers.IsQueried items s n l seq name q)
    (λ x items m a t. record { called = inr t.called; behind = let e = same_below s n (call.Query l name q) x items (m s) a t.called in let b = t.behind in omega (arith, e, b) }) early later numbered k
query_lasts early later numbered (payload.Vote xa xb xc) k = tt
query_lasts early later numbered (payload.VoteReply xa xb) k = tt
query_lasts early later numbered (payload.Append xa xb xc xd xe xf) k = tt
query_lasts early later numbered (payload.AppendReply xa xb xc xd) k = tt
query_lasts early later numbered (payload.Register xa xb) k = tt
query_lasts early later numbered (payload.Keep xa xb xc xd) k = tt
query_lasts early later numbered (payload.Command xa xb xc xd xe) k = tt
query_lasts early later numbered (payload.Close xa xb) k = tt
query_lasts early later numbered (payload.Connect xa xb xc) k = tt
query_lasts early later numbered (payload.Reset xa xb xc) k = tt
query_lasts early later numbered (payload.Opened xa xb) k = tt
query_lasts early later numbered (payload.Reply xa xb xc xd xe) k = tt
query_lasts early later numbered (payload.Gap xa xb) k = tt
query_lasts early later numbered (payload.Answer xa xb xc xd xe xf xg xh) k = tt
query_lasts early later numbered (payload.Batch xa xb xc xd) k = tt
query_lasts early later numbered (payload.Ended xa xb xc) k = tt

-- a server's step
right_input : (w : worlds.World) (early its : List Item) (k : ℕ) (x : worlds.Host) (i : ServerInput) → truths.AreCallsNumbered (early ++ its)
    → AllByRecursion (λ (p : Packet). true_steps.IsQueryMade (reverse early) p.payload) (plan_cases.kept_packets w.bag) → plan_cases.IsInputOf w k x i → true_steps.IsRightInput (reverse (early ++ its)) x.server i
right_input w early its k x (input.Elect clock) n q known = known
right_input w early its k x (input.Beat clock) n q known = tt
right_input w early its k x (input.Check clock) n q known = tt
right_input w early its k x (input.Packet clock p) n q known =
    query_lasts early its n p.payload (all_at (λ (p : Packet). true_steps.IsQueryMade (reverse early) p.payload) (plan_cases.kept_packets w.bag) known.1.place p q known.1.found)

option_some : (o : Option Item) (x : Item) → o ≡ Some x → moves.option_item o ≡ x ∷ []
option_some o x e = ap moves.option_item e

serves_true : (nodes clients time : ℕ) (h : histories.History) (l : ledgers.Ledger) (w v : worlds.World) (early : List Item) (k : ℕ) (x : worlds.Host) (i : ServerInput) → faith.RunStands nodes clients time h l w early
    → truths.AreCallsNumbered (early ++ moves.server_items v k (server_steps.server_out x.server i)) → plan_cases.IsAlike w v → lists.at_place w.hosts k ≡ Some x → x.is_up ≡ true → plan_cases.IsInputOf w k x i
    → true_steps.IsTrueStep time (reverse (early ++ moves.server_items v k (server_steps.server_out x.server i))) (ledgers.with_input l k x.server.raft (servers.task x.server i).input).committed x.server i
serves_true nodes clients time h l w v early k x i y numbered a at up known =
    let out : ServerOut = server_steps.server_out x.server i in
    let its : List Item = moves.server_items v k out in
    let new : ledgers.Ledger = ledgers.with_input l k x.server.raft (servers.task x.server i).input in
    let f : Serves w.timeout l.committed new.committed x i = serves_facts nodes l w v k x i y.so_far.matched y.so_far.stands a at up known in
    let old : true_servers.IsTrueServer time (reverse (early ++ its)) new.committed x.server =
    subst (λ c. true_servers.IsTrueServer time (reverse (early ++ its)) c x.server) (sym f.begins.1) (servers_last time early its l.committed f.begins.0 x.server numbered (y.servers k x at up)) in
    let first : List Item = moves.leader_item k out.led ++ moves.commit_item (length v.history) out.committed in
    servers_send_truth time (reverse (early ++ its)) new.committed x.server i old (record {
      right = right_input w early its k x i numbered y.requests.queries known;
      log = record { within = f.holds.within; same = f.holds.same };
      reads = subst (λ xs. AllByRecursion (items.IsCovered xs (server_steps.server_after x.server i).raft.ballot.me (server_steps.server_after x.server i).raft.ballot.term) (server_steps.raft_out x.server.raft (servers.task x.server i).input).reads) (below_early early its)
          (reads_covered nodes clients time l w v k x i (reverse early) y.so_far y.led y.shows a at up known);
      reach = λ r e. subst (transcripts.StandsIn r) (sym (below_append (reverse early) first (moves.option_item out.reach)) ∙ below_early early its)
          (subst (λ xs. transcripts.StandsIn r (below (below (reverse early) first) xs)) (sym (option_some out.reach r e)) (inl refl));
    })

-- servers that take no step
last_server : (time : ℕ) (early its : List Item) (old new : List Entry) (s : servers.Server) → once.Begins old new → truths.AreCallsNumbered (early ++ its) → true_servers.IsTrueServer time (reverse early) old s
    → true_servers.IsTrueServer time (reverse (early ++ its)) new s
last_server time early its old new s b numbered k = subst (λ c. true_servers.IsTrueServer time (reverse (early ++ its)) c s) (sym b.1) (servers_last time early its old b.0 s numbered k)

abbrev AreTrueServers : ℕ → List Item → List Entry → List worlds.Host → Type 0
AreTrueServers time above committed hs = (k : ℕ) (x : worlds.Host) → lists.at_place hs k ≡ Some x → x.is_up ≡ true → true_servers.IsTrueServer time above committed x.server

all_last : (time : ℕ) (early its : List Item) (old new : List Entry) (hs gs : List worlds.Host) → once.Begins old new → truths.AreCallsNumbered (early ++ its) → gs ≡ hs → AreTrueServers time (reverse early) old hs → AreTrueServers time (reverse (early ++ its)) new gs
all_last time early its old new hs gs b numbered e f = subst (AreTrueServers time (reverse (early ++ its)) new) (sym e) (λ k x at up. last_server time early its old new x.server b numbered (f k x at up))

one_changed : (time : ℕ) (above : List Item) (committed : List Entry) (v : worlds.World) (k : ℕ) (x : worlds.Host) → (x.is_up ≡ true → true_servers.IsTrueServer time above committed x.server) → AreTrueServers time above committed v.hosts
    → AreTrueServers time above committed (worlds.with_host v k x).hosts
one_changed time above committed v k x new f = placed (λ j y. y.is_up ≡ true → true_servers.IsTrueServer time above committed y.server) v.hosts k x new f

carried_servers : (nodes clients time : ℕ) (h : histories.History) (l : ledgers.Ledger) (w : worlds.World) (early : List Item) (p : plans.Plan) (o : StepOutcome) → plan_cases.IsCase w p → faith.RunStands nodes clients time h l w early
    → truths.AreCallsNumbered (early ++ (moves.carried p o).items) → AreTrueServers time (reverse (early ++ (moves.carried p o).items)) (ledgers.ledger_in l p o).committed (moves.carried p o).world.hosts
carried_servers nodes clients time h l w early p o (plan_cases.Serving v k x i a at up known e) y numbered =
    subst (λ z. truths.AreCallsNumbered (early ++ (moves.carried z o).items) → AreTrueServers time (reverse (early ++ (moves.carried z o).items)) (ledgers.ledger_in l z o).committed (moves.carried z o).world.hosts) (sym e) (served o) numbered
  where
    out : ServerOut
    out = server_steps.server_out x.server i

    its : List Item
    its = moves.server_items v k out

    new : ledgers.Ledger
    new = ledgers.with_input l k x.server.raft (servers.task x.server i).input

    well : truths.AreCallsNumbered (early ++ its) → AreTrueServers time (reverse (early ++ its)) new.committed (worlds.with_host v k (record x { server = server_steps.server_after x.server i })).hosts
    well n = one_changed time (reverse (early ++ its)) new.committed v k (record x { server = server_steps.server_after x.server i })
        (λ u. (serves_true nodes clients time h l w v early k x i y n a at up known).server)
        (all_last time early its l.committed new.committed w.hosts v.hosts (serves_facts nodes l w v k x i y.so_far.matched y.so_far.stands a at up known).begins n a.hosts y.servers)

    served : (o : StepOutcome) → truths.AreCallsNumbered (early ++ (moves.served v k x i o).items) → AreTrueServers time (reverse (early ++ (moves.served v k x i o).items)) (ledgers.ledger_in l (plans.Serves v k x i) o).committed (moves.served v k x i o).world.hosts
    served outcome.Fine n = well n
    served (outcome.Loaded added) n = well n
    served (outcome.Failed saved) n =
        let calls : List saving.Save = saving.calls_of out.saves in
        one_changed time (reverse (early ++ item.Halted k ∷ [])) l.committed v k (worlds.fallen_host v k x (saving.kept_at_failure (worlds.kept_by x) calls saved) (saving.at_stake (slice_get calls saved))) (λ u. true_false (sym u))
        (all_last time early (item.Halted k ∷ []) l.committed l.committed w.hosts v.hosts ([], sym (append-nil l.committed)) n a.hosts y.servers)
carried_servers nodes clients time h l w early p o (plan_cases.Loading k x at down e) y numbered =
    subst (λ z. truths.AreCallsNumbered (early ++ (moves.carried z o).items) → AreTrueServers time (reverse (early ++ (moves.carried z o).items)) (ledgers.ledger_in l z o).committed (moves.carried z o).world.hosts) (sym e) (loaded o) numbered
  where
    loads : (added : ℕ) → truths.AreCallsNumbered (early ++ []) → AreTrueServers time (reverse (early ++ [])) l.committed (moves.loads w k x added).world.hosts
    loads added n =
        let z : worlds.Host = record { is_up = true; clock = x.clock; server = servers.server_from k (worlds.nodes_of w) w.timeout (worlds.content_with x added); at_stake = [] } in
        one_changed time (reverse (early ++ [])) l.committed w k z
        (λ u. subst (λ t. true_servers.IsTrueServer time (reverse (early ++ [])) l.committed (servers.server_from k (worlds.nodes_of w) t (worlds.content_with x added))) (sym y.so_far.numbers.timeout)
        (servers_start time (reverse (early ++ [])) l.committed k (worlds.nodes_of w) (worlds.content_with x added)))
        (all_last time early [] l.committed l.committed w.hosts w.hosts ([], sym (append-nil l.committed)) n refl y.servers)

    loaded : (o : StepOutcome) → truths.AreCallsNumbered (early ++ (moves.loaded w k x o).items) → AreTrueServers time (reverse (early ++ (moves.loaded w k x o).items)) l.committed (moves.loaded w k x o).world.hosts
    loaded outcome.Fine n = loads 0 n
    loaded (outcome.Loaded added) n = loads added n
    loaded (outcome.Failed saved) n = all_last time early (item.Halted k ∷ []) l.committed l.committed w.hosts w.hosts ([], sym (append-nil l.committed)) n refl y.servers
carried_servers nodes clients time h l w early p o (plan_cases.Asking v c s next a at me e) y numbered =
    subst (λ z. truths.AreCallsNumbered (early ++ (moves.carried z o).items) → AreTrueServers time (reverse (early ++ (moves.carried z o).items)) (ledgers.ledger_in l z o).committed (moves.carried z o).world.hosts) (sym e)
    (λ n. all_last time early (moves.client_served v c s next).items l.committed l.committed w.hosts v.hosts ([], sym (append-nil l.committed)) n a.hosts y.servers) numbered
carried_servers nodes clients time h l w early p o (plan_cases.Falling k x at up e) y numbered =
    subst (λ z. truths.AreCallsNumbered (early ++ (moves.carried z o).items) → AreTrueServers time (reverse (early ++ (moves.carried z o).items)) (ledgers.ledger_in l z o).committed (moves.carried z o).world.hosts) (sym e)
    (λ n. one_changed time (reverse (early ++ [])) l.committed w k (worlds.fallen_host w k x (worlds.kept_by x) []) (λ u. true_false (sym u)) (all_last time early [] l.committed l.committed w.hosts w.hosts ([], sym (append-nil l.committed)) n refl y.servers)) numbered
carried_servers nodes clients time h l w early p o (plan_cases.Setting k x t at e) y numbered =
    subst (λ z. truths.AreCallsNumbered (early ++ (moves.carried z o).items) → AreTrueServers time (reverse (early ++ (moves.carried z o).items)) (ledgers.ledger_in l z o).committed (moves.carried z o).world.hosts) (sym e)
    (λ n. let f = all_last time early [] l.committed l.committed w.hosts w.hosts ([], sym (append-nil l.committed)) n refl y.servers in one_changed time (reverse (early ++ [])) l.committed w k (record x { clock = t }) (f k x at) f) numbered
carried_servers nodes clients time h l w early p o (plan_cases.Seating c s t its at me e) y numbered =
    subst (λ z. truths.AreCallsNumbered (early ++ (moves.carried z o).items) → AreTrueServers time (reverse (early ++ (moves.carried z o).items)) (ledgers.ledger_in l z o).committed (moves.carried z o).world.hosts) (sym e)
    (λ n. all_last time early its l.committed l.committed w.hosts w.hosts ([], sym (append-nil l.committed)) n refl y.servers) numbered
carried_servers nodes clients time h l w early p o (plan_cases.Showing v its a e) y numbered =
    subst (λ z. truths.AreCallsNumbered (early ++ (moves.carried z o).items) → AreTrueServers time (reverse (early ++ (moves.carried z o).items)) (ledgers.ledger_in l z o).committed (moves.carried z o).world.hosts) (sym e)
    (λ n. all_last time early its l.committed l.committed w.hosts v.hosts ([], sym (append-nil l.committed)) n a.hosts y.servers) numbered

-- what clients are told
told_lasts : (h : histories.History) (early its : List Item) → truths.AreCallsNumbered (early ++ its) → (a : End) (p : Payload) → true_steps.IsTrueTo (reverse early) h a p → true_steps.IsTrueTo (reverse (early ++ its)) h a p
told_lasts h early its n (end.Node k) p t = tt
told_lasts h early its n (end.Client c) p t = subst (λ g. payloads.IsTruePayload (reverse (early ++ its)) g c p) (append-nil h) (payloads_stay_true early its h [] c p n t)

told_later : (above : List Item) (g h : histories.History) → once.Begins g h → (a : End) (p : Payload) → true_steps.IsTrueTo above g a p → true_steps.IsTrueTo above h a p
told_later above g h b (end.Node k) p t = tt
told_later above g h b (end.Client c) p t = subst (λ x. payloads.IsTruePayload above x c p) (sym b.1) (history_grows above g b.0 c p t)

abbrev AreTold : List Item → histories.History → List Packet → Type 0
AreTold above h ps = AllByRecursion (λ (p : Packet). true_steps.IsTrueTo above h p.to p.payload) ps

all_told : (h : histories.History) (early its : List Item) → truths.AreCallsNumbered (early ++ its) → (ps qs : List Packet) → qs ≡ ps → AreTold (reverse early) h ps → AreTold (reverse (early ++ its)) h qs
all_told h early its n ps qs e t = subst (AreTold (reverse (early ++ its)) h) (sym e)
    (all_since (λ (p : Packet). true_steps.IsTrueTo (reverse early) h p.to p.payload) (λ (p : Packet). true_steps.IsTrueTo (reverse (early ++ its)) h p.to p.payload) (λ p k. told_lasts h early its n p.to p.payload k) ps t)

none_told : (above : List Item) (h : histories.History) (c : ℕ) (ps : List (ℕ × Payload)) → AreTold above h (map (moves.from_client c) ps)
none_told above h c [] = tt
none_told above h c (p ∷ ps) = (tt, none_told above h c ps)

abbrev ToldBy : ℕ → ℕ → ℕ → histories.History → ledgers.Ledger → worlds.World → List Item → StepOutcome → plans.Plan → Type 0
ToldBy nodes clients time h l w early o z = truths.AreCallsNumbered (early ++ (moves.carried z o).items) → SoFar nodes clients time (ledgers.ledger_in l z o) (moves.carried z o).world → once.Begins (moves.carried z o).world.history h
    → AreTold (reverse (early ++ (moves.carried z o).items)) h (plan_cases.kept_packets (moves.carried z o).world.bag)

carried_told : (nodes clients time : ℕ) (h : histories.History) (l : ledgers.Ledger) (w : worlds.World) (early : List Item) (p : plans.Plan) (o : StepOutcome) → plan_cases.IsCase w p → faith.RunStands nodes clients time h l w early → ToldBy nodes clients time h l w early o p
carried_told nodes clients time h l w early p o (plan_cases.Serving v k x i a at up known e) y = subst (ToldBy nodes clients time h l w early o) (sym e) (served o)
  where
    out : ServerOut
    out = server_steps.server_out x.server i

    its : List Item
    its = moves.server_items v k out

    new : ledgers.Ledger
    new = ledgers.with_input l k x.server.raft (servers.task x.server i).input

    well : truths.AreCallsNumbered (early ++ its) → SoFar nodes clients time new (moves.serves v k x i out).world → once.Begins (moves.serves v k x i out).world.history h → AreTold (reverse (early ++ its)) h (plan_cases.kept_packets (moves.serves v k x i out).world.bag)
    well n f b =
        let g : histories.History = kept_stores.acts_of time new.committed in
        let same : (moves.serves v k x i out).world.history ≡ g = f.stands.history ∙ ap (λ t. kept_stores.acts_of t new.committed) f.numbers.timeout in
        let begins : once.Begins g h = (b.0, b.1 ∙ ap (λ hs. hs ++ b.0) same) in
        all_kept (λ (p : Packet). true_steps.IsTrueTo (reverse (early ++ its)) h p.to p.payload) v.bag out.packets
        (all_told h early its n (plan_cases.kept_packets w.bag) (plan_cases.kept_packets v.bag) a.kept y.told)
        (all_since (λ (p : Packet). true_steps.IsTrueTo (reverse (early ++ its)) g p.to p.payload) (λ (p : Packet). true_steps.IsTrueTo (reverse (early ++ its)) h p.to p.payload) (λ p t. told_later (reverse (early ++ its)) g h begins p.to p.payload t) out.packets
        (serves_true nodes clients time h l w v early k x i y n a at up known).packets)

    served : (o : StepOutcome) → ToldBy nodes clients time h l w early o (plans.Serves v k x i)
    served outcome.Fine n f b = well n f b
    served (outcome.Loaded added) n f b = well n f b
    served (outcome.Failed saved) n f b = all_told h early (item.Halted k ∷ []) n (plan_cases.kept_packets w.bag) (plan_cases.kept_packets v.bag) a.kept y.told
carried_told nodes clients time h l w early p o (plan_cases.Loading k x at down e) y = subst (ToldBy nodes clients time h l w early o) (sym e) (loaded o)
  where
    loaded : (o : StepOutcome) → ToldBy nodes clients time h l w early o (plans.Loads w k x)
    loaded outcome.Fine n f b = all_told h early [] n (plan_cases.kept_packets w.bag) (plan_cases.kept_packets w.bag) refl y.told
    loaded (outcome.Loaded added) n f b = all_told h early [] n (plan_cases.kept_packets w.bag) (plan_cases.kept_packets w.bag) refl y.told
    loaded (outcome.Failed saved) n f b = all_told h early (item.Halted k ∷ []) n (plan_cases.kept_packets w.bag) (plan_cases.kept_packets w.bag) refl y.told
carried_told nodes clients time h l w early p o (plan_cases.Asking v c s next a at me e) y = subst (ToldBy nodes clients time h l w early o) (sym e)
    (λ n f b. let its : List Item = (moves.client_served v c s next).items in all_kept (λ (p : Packet). true_steps.IsTrueTo (reverse (early ++ its)) h p.to p.payload) v.bag (map (moves.from_client c) next.out.sends)
    (all_told h early its n (plan_cases.kept_packets w.bag) (plan_cases.kept_packets v.bag) a.kept y.told) (none_told (reverse (early ++ its)) h c next.out.sends))
carried_told nodes clients time h l w early p o (plan_cases.Falling k x at up e) y = subst (ToldBy nodes clients time h l w early o) (sym e) (λ n f b. all_told h early [] n (plan_cases.kept_packets w.bag) (plan_cases.kept_packets w.bag) refl y.told)
carried_told nodes clients time h l w early p o (plan_cases.Setting k x t at e) y = subst (ToldBy nodes clients time h l w early o) (sym e) (λ n f b. all_told h early [] n (plan_cases.kept_packets w.bag) (plan_cases.kept_packets w.bag) refl y.told)
carried_told nodes clients time h l w early p o (plan_cases.Seating c s t its at me e) y = subst (ToldBy nodes clients time h l w early o) (sym e) (λ n f b. all_told h early its n (plan_cases.kept_packets w.bag) (plan_cases.kept_packets w.bag) refl y.told)
carried_told nodes clients time h l w early p o (plan_cases.Showing v its a e) y = subst (ToldBy nodes clients time h l w early o) (sym e) (λ n f b. all_told h early its n (plan_cases.kept_packets w.bag) (plan_cases.kept_packets v.bag) a.kept y.told)

pub step_holds : (nodes clients time : ℕ) (h : histories.History) (l : ledgers.Ledger) (w : worlds.World) (early : List Item) (k : KeptStep) → ((g : histories.History) → once.Begins w.history g → faith.RunStands nodes clients time g l w early)
    → once.Begins (moves.moved w k).world.history h → faith.RunStands nodes clients time h (ledgers.ledger_by l w k) (moves.moved w k).world (early ++ (moves.moved w k).items)
step_holds nodes clients time h l w early k all b =
    let p : plans.Plan = plans.plan w k.step in
    let c : plan_cases.IsCase w p = plan_case w k.step in
    let m : moves.Moved = moves.moved w k in
    let new : ledgers.Ledger = ledgers.ledger_by l w k in
    let step : once.Begins w.history m.world.history = history_follows w k in
    let x = all h (step.0 ++ b.0, b.1 ∙ ap (λ hs. hs ++ b.0) step.1 ∙ append_assoc w.history step.0 b.0) in
    let kept : seats.AreTrueKept h w (reverse early) = true_kept nodes clients time h l w early x in
    let seat = each_step_seats h w (reverse early) k x.stand kept in
    let calls : truths.AreCallsNumbered (early ++ m.items) = numbered h early m.items x.numbered seat.claimed in
    let shown = carried_shows nodes clients time l w p k.outcome (reverse early) c (plan_quiet w k.step) x.so_far x.led x.shows in
    let far = step_so_far nodes clients time l w k x.so_far in
    let above : reverse m.items ++ reverse early ≡ reverse (early ++ m.items) = sym (reverse-append early m.items) in
    let stand : seats.AllStand h m.world (reverse (early ++ m.items)) = subst (seats.AllStand h m.world) above seat.stand in
    let said : asked.AreSaid h m.world (reverse (early ++ m.items)) = subst (asked.AreSaid h m.world) above (each_step_says h w (reverse early) k x.stand kept x.said) in
    let committed : asked.EntriesSay (asked.IsSaidBy h m.world.seats (reverse (early ++ m.items))) new.committed =
    subst (λ xs. asked.EntriesSay (asked.IsSaidBy h m.world.seats xs) new.committed) above (committed_says h l w (reverse early) k x.stand kept x.said x.committed) in
    let told : AreTold (reverse (early ++ m.items)) m.world.history (plan_cases.kept_packets m.world.bag) = carried_told nodes clients time m.world.history l w early p k.outcome c (all m.world.history step) calls far ([], sym (append-nil m.world.history)) in
    record {
      so_far = far;
      led = carried_led l w p k.outcome c x.led;
      shows = subst (Shows new.leds new.takens (length new.committed)) (below_early early m.items) shown.1;
      numbered = calls;
      servers = carried_servers nodes clients time h l w early p k.outcome c x calls;
      told = carried_told nodes clients time h l w early p k.outcome c x calls far b;
      said = said;
      committed = committed;
      requests = requests_stand nodes clients time h new m.world (early ++ m.items) far stand said committed told;
      stand = stand;
    }
