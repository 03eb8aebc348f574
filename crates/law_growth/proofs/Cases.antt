-- Each step asks for one of the cases.
use Rattle.std.proofs.Common.{◌≡◌, ℕ, zero, suc, ◌+◌, ◌-◌, List, [], ◌∷◌, ◌++◌, map, refl, ap, sym, ◌∙◌, subst, arith}
use Rattle.std.specs.Prelude.{Bool, true, false, ◌||◌, not, nat_eq, nat_lt, Option, Some, None, slice_get, if◌then◌else◌}
use Rattle.std.specs.List.{list_any}
use Rattle.std.proofs.lemmas.Bool.Decides.{nat_tests}
use Rattle.ax_types.specs.Places as lists
use Rattle.ax_types.specs.declared.ids.End.{End}
use Rattle.ax_types.specs.declared.ids.End.TheVariants as end
use Rattle.ax_types.specs.declared.items.Item.{Item}
use Rattle.ax_types.specs.declared.items.Item.TheVariants as item
use Rattle.ax_types.specs.declared.items.SkipReason.{SkipReason}
use Rattle.ax_types.specs.declared.items.SkipReason.TheVariants as reason
use Rattle.ax_types.specs.declared.packets.Packet.{Packet}
use Rattle.ax_types.specs.declared.packets.Payload.{Payload}
use Rattle.ax_types.specs.declared.sessions.ServerInput.{ServerInput}
use Rattle.ax_types.specs.declared.sessions.ServerInput.TheVariants as input
use Rattle.ax_types.specs.declared.steps.Step.{Step}
use Rattle.ax_types.specs.declared.steps.Step.TheVariants as step
use Rattle.ax_types.specs.declared.steps.WatchKind.{WatchKind}
use Rattle.spec_raft.specs.Positions as positions
use Rattle.spec_raft.specs.Majority as majorities
use Rattle.spec_cluster.specs.Bag as bags
use Rattle.spec_server.specs.Servers as servers
use Rattle.spec_client.specs.Clients as clients
use Rattle.spec_client.specs.Receipts as receipts
use Rattle.spec_world.specs.Worlds as worlds
use Rattle.spec_world.specs.Plans as plans
use Rattle.law_refinement.proofs.Tests.{by_test}
use Rattle.law_growth.specs.PlanCases as plan_cases
use Rattle.law_growth.proofs.ClientsStay.{receives_same}

-- the network's packets stay where one is marked, and where links are cut or joined
marked_map : (slots : List bags.KeptPacket) (p : ℕ) → map (λ (s : bags.KeptPacket). s.packet) (positions.change_place (λ s. record s { is_marked = true }) slots p) ≡ map (λ (s : bags.KeptPacket). s.packet) slots
marked_map slots zero = refl
marked_map [] (suc p) = refl
marked_map (s ∷ slots) (suc zero) = refl
marked_map (s ∷ slots) (suc (suc p)) = ap (λ ps. s.packet ∷ ps) (marked_map slots (suc p))

pub alike : (w : worlds.World) → plan_cases.IsAlike w w
alike w = record { timeout = refl; hosts = refl; seats = refl; history = refl; kept = refl; sent = refl }

marked : (w : worlds.World) (number : ℕ) → plan_cases.IsAlike w (record w { bag = bags.with_mark w.bag number })
marked w number = record { timeout = refl; hosts = refl; seats = refl; history = refl; kept = marked_map w.bag.kept (number - bags.gone w.bag); sent = refl }

cut : (w : worlds.World) (a b : End) → plan_cases.IsAlike w (record w { bag = bags.with_cut w.bag a b })
cut w a b = by_test (λ x. plan_cases.IsAlike w (record w { bag = x })) (bags.is_cut w.bag a b) w.bag (record w.bag { cuts = w.bag.cuts ++ record { one = a; other = b } ∷ [] }) (λ e. alike w)
    (λ e. record { timeout = refl; hosts = refl; seats = refl; history = refl; kept = refl; sent = refl })

-- steps of a node
shows : (w : worlds.World) (items : List Item) → plan_cases.IsCase w (plans.Shows w items)
shows w items = plan_cases.Showing w items (alike w) refl

elects : (w : worlds.World) (k : ℕ) (o : Option worlds.Host) → lists.at_place w.hosts k ≡ o → plan_cases.IsCase w (plans.elects w k o)
elects w k None e = shows w []
elects w k (Some h) e =
    by_test (plan_cases.IsCase w) h.is_up (if servers.leads h.server then plans.skips w reason.IsLeader else plans.Serves w k h (input.Elect h.clock)) (plans.skips w reason.NodeDown)
    (λ up. by_test (plan_cases.IsCase w) (servers.leads h.server) (plans.skips w reason.IsLeader) (plans.Serves w k h (input.Elect h.clock))
    (λ l. shows w (item.Skip reason.IsLeader ∷ [])) (λ l. plan_cases.Serving w k h (input.Elect h.clock) (alike w) e up l refl))
    (λ down. shows w (item.Skip reason.NodeDown ∷ []))

led : (w : worlds.World) (k : ℕ) (o : Option worlds.Host) (i : ℕ → ServerInput) → ((h : worlds.Host) → servers.leads h.server ≡ true → plan_cases.IsInputOf w k h (i h.clock)) → lists.at_place w.hosts k ≡ o → plan_cases.IsCase w (plans.led_step w k o i)
led w k None i known e = shows w []
led w k (Some h) i known e =
    by_test (plan_cases.IsCase w) h.is_up (if servers.leads h.server then plans.Serves w k h (i h.clock) else plans.skips w reason.NotLeader) (plans.skips w reason.NodeDown)
    (λ up. by_test (plan_cases.IsCase w) (servers.leads h.server) (plans.Serves w k h (i h.clock)) (plans.skips w reason.NotLeader)
    (λ l. plan_cases.Serving w k h (i h.clock) (alike w) e up (known h l) refl) (λ l. shows w (item.Skip reason.NotLeader ∷ [])))
    (λ down. shows w (item.Skip reason.NodeDown ∷ []))

crashes : (w : worlds.World) (k : ℕ) (o : Option worlds.Host) → lists.at_place w.hosts k ≡ o → plan_cases.IsCase w (plans.crashes w k o)
crashes w k None e = shows w []
crashes w k (Some h) e =
    by_test (plan_cases.IsCase w) h.is_up (plans.shows_nothing (worlds.with_host w k (worlds.fallen_host w k h (worlds.kept_by h) []))) (plans.skips w reason.NodeDown)
    (λ up. plan_cases.Falling k h e up refl) (λ down. shows w (item.Skip reason.NodeDown ∷ []))

starts : (w : worlds.World) (k : ℕ) (o : Option worlds.Host) → lists.at_place w.hosts k ≡ o → plan_cases.IsCase w (plans.starts w k o)
starts w k None e = shows w []
starts w k (Some h) e = by_test (plan_cases.IsCase w) h.is_up (plans.skips w reason.NodeUp) (plans.Loads w k h) (λ up. shows w (item.Skip reason.NodeUp ∷ [])) (λ down. plan_cases.Loading k h e down refl)

sets_clock : (w : worlds.World) (k time : ℕ) (o : Option worlds.Host) → lists.at_place w.hosts k ≡ o → plan_cases.IsCase w (plans.sets_clock w k time o)
sets_clock w k time None e = shows w []
sets_clock w k time (Some h) e = plan_cases.Setting k h time e refl

-- a packet that can be delivered has a receiver that is up
pub none_some : {A B : Type 0} (a : B) → None ≡ Some a → A
none_some a e = cc (e)

some_none : {A B : Type 0} (a : B) → Some a ≡ None → A
some_none a e = cc (e)

pub some_same : {A : Type 0} (a b : A) → Some a ≡ Some b → a ≡ b
some_same a b e = cc (e)

pub true_false : {A : Type 0} → true ≡ false → A
true_false e = cc (e)

second_reason : (r o : Option SkipReason) → bags.first_reason r o ≡ None → o ≡ None
second_reason None o e = e
second_reason (Some r) o e = some_none r e

unhindered : (bag : bags.Bag) (up : List ℕ) (p : Packet) → bags.hindrance bag up p ≡ None → bags.is_down up p.to ≡ false
unhindered bag up p =
    by_test (λ (o : Option SkipReason). o ≡ None → bags.is_down up p.to ≡ false) (bags.is_cut bag p.«from» p.to) (Some reason.Cut) (if bags.is_down up p.to then Some reason.NodeDown else None)
    (λ t e. some_none reason.Cut e)
    (λ t. by_test (λ (o : Option SkipReason). o ≡ None → bags.is_down up p.to ≡ false) (bags.is_down up p.to) (Some reason.NodeDown) None (λ d e. some_none reason.NodeDown e) (λ d e. d))

-- no number below the first is among those that pass
not_before : {X : Type 0} (test : X → Bool) (a d : ℕ) (xs : List X) → majorities.is_in (lists.numbers_passing test (suc a + d) xs) a ≡ false
not_before test a d [] = refl
not_before test a d (x ∷ xs) =
    let more : majorities.is_in (lists.numbers_passing test (suc (suc a + d)) xs) a ≡ false = subst (λ n. majorities.is_in (lists.numbers_passing test n xs) a ≡ false) (let h : suc a + suc d ≡ suc (suc a + d) = omega arith in h) (not_before test a (suc d) xs) in
    let other : nat_eq (suc a + d) a ≡ false = grind (arith, nat_tests) in
    by_test (λ ns. majorities.is_in ns a ≡ false) (test x) ((suc a + d) ∷ lists.numbers_passing test (suc (suc a + d)) xs) (lists.numbers_passing test (suc (suc a + d)) xs)
    (λ t. ap (λ b. b || majorities.is_in (lists.numbers_passing test (suc (suc a + d)) xs) a) other ∙ more) (λ t. more)

passes : {X : Type 0} (test : X → Bool) (a k : ℕ) (xs : List X) (x : X) → majorities.is_in (lists.numbers_passing test a xs) (a + k) ≡ true → slice_get xs k ≡ Some x → test x ≡ true
passes test a k [] x e f = true_false (sym e)
passes test a zero (y ∷ xs) x e f = by_first (test y) refl
  where
    absent : majorities.is_in (lists.numbers_passing test (suc a) xs) a ≡ false
    absent = subst (λ n. majorities.is_in (lists.numbers_passing test n xs) a ≡ false) (let h : suc a + 0 ≡ suc a = omega arith in h) (not_before test a 0 xs)

    by_first : (b : Bool) → test y ≡ b → test x ≡ true
    by_first true g = subst (λ z. test z ≡ true) (some_same y x f) g
    by_first false g =
        let here : majorities.is_in (lists.numbers_passing test a (y ∷ xs)) a ≡ true = subst (λ n. majorities.is_in (lists.numbers_passing test a (y ∷ xs)) n ≡ true) (let h : a + 0 ≡ a = omega arith in h) e in
        true_false (sym here ∙ ap (λ (b : Bool). majorities.is_in (if b then a ∷ lists.numbers_passing test (suc a) xs else lists.numbers_passing test (suc a) xs) a) g ∙ absent)
passes test a (suc k) (y ∷ xs) x e f = passes test (suc a) k xs x (rest (test y) (subst (λ n. majorities.is_in (lists.numbers_passing test a (y ∷ xs)) n ≡ true) (let h : a + suc k ≡ suc a + k = omega arith in h) e)) f
  where
    rest : (b : Bool) → majorities.is_in (if b then a ∷ lists.numbers_passing test (suc a) xs else lists.numbers_passing test (suc a) xs) (suc a + k) ≡ true → majorities.is_in (lists.numbers_passing test (suc a) xs) (suc a + k) ≡ true
    rest false g = g
    rest true g =
        let other : nat_eq a (suc a + k) ≡ false = grind (arith, nat_tests) in
        sym (ap (λ (b : Bool). b || majorities.is_in (lists.numbers_passing test (suc a) xs) (suc a + k)) other) ∙ g

not_true : (b : Bool) → not b ≡ false → b ≡ true
not_true true e = refl
not_true false e = sym e

receiver_up : (w : worlds.World) (number k : ℕ) (s : bags.KeptPacket) (h : worlds.Host) → bags.take_refusal w.bag (worlds.up_nodes w) number ≡ None
    → bags.kept_at w.bag number ≡ Some s → s.packet.to ≡ end.Node k → lists.at_place w.hosts k ≡ Some h → h.is_up ≡ true
receiver_up w number zero s h e kept to at = none_some h at
receiver_up w number (suc k) s h e kept to at =
    let none : bags.kept_hindrance w.bag (worlds.up_nodes w) (Some s) ≡ None = subst (λ o. bags.kept_hindrance w.bag (worlds.up_nodes w) o ≡ None) kept (second_reason (bags.mark_refusal w.bag number) (bags.kept_hindrance w.bag (worlds.up_nodes w) (bags.kept_at w.bag number)) e) in
    let up : not (majorities.is_in (worlds.up_nodes w) (suc k)) ≡ false = subst (λ a. bags.is_down (worlds.up_nodes w) a ≡ false) to (unhindered w.bag (worlds.up_nodes w) s.packet none) in
    let place : suc k ≡ 1 + k = omega arith in
    passes (λ (h : worlds.Host). h.is_up) 1 k w.hosts h (subst (λ j. majorities.is_in (worlds.up_nodes w) j ≡ true) place (not_true (majorities.is_in (worlds.up_nodes w) (suc k)) up)) at

-- a kept packet reaches its receiver
map_at : {X Y : Type 0} (f : X → Y) (xs : List X) (p : ℕ) (x : X) → lists.at_place xs p ≡ Some x → lists.at_place (map f xs) p ≡ Some (f x)
map_at f xs zero x e = none_some x e
map_at f [] (suc p) x e = none_some x e
map_at f (y ∷ xs) (suc zero) x e = ap (λ z. Some (f z)) (some_same y x e)
map_at f (y ∷ xs) (suc (suc p)) x e = map_at f xs (suc p) x e

reaches_node : (w : worlds.World) (number k : ℕ) (s : bags.KeptPacket) (o : Option worlds.Host) → bags.take_refusal w.bag (worlds.up_nodes w) number ≡ None
    → bags.kept_at w.bag number ≡ Some s → s.packet.to ≡ end.Node k → lists.at_place w.hosts k ≡ o → plan_cases.IsCase w (plans.reaches_node (record w { bag = bags.with_mark w.bag number }) k s.packet o)
reaches_node w number k s None e kept to at = plan_cases.Showing (record w { bag = bags.with_mark w.bag number }) [] (marked w number) refl
reaches_node w number k s (Some h) e kept to at =
    plan_cases.Serving (record w { bag = bags.with_mark w.bag number }) k h (input.Packet h.clock s.packet) (marked w number) at (receiver_up w number k s h e kept to at)
    (to, record { place = number - bags.gone w.bag; found = map_at (λ (x : bags.KeptPacket). x.packet) w.bag.kept (number - bags.gone w.bag) s kept }) refl

receives : (w : worlds.World) (number c : ℕ) (p : Payload) (a : End) (o : Option worlds.Watcher) → lists.at_place w.seats c ≡ o → plan_cases.IsCase w (plans.receives_from (record w { bag = bags.with_mark w.bag number }) c p a o)
receives w number c p a None at = plan_cases.Showing (record w { bag = bags.with_mark w.bag number }) [] (marked w number) refl
receives w number c p (end.Node k) (Some s) at = plan_cases.Asking (record w { bag = bags.with_mark w.bag number }) c s (receipts.receives s.client k p) (marked w number) at (receives_same s.client k p) refl
receives w number c p (end.Client d) (Some s) at = plan_cases.Showing (record w { bag = bags.with_mark w.bag number }) [] (marked w number) refl

reaches : (w : worlds.World) (number : ℕ) (s : bags.KeptPacket) (a : End) → bags.take_refusal w.bag (worlds.up_nodes w) number ≡ None
    → bags.kept_at w.bag number ≡ Some s → s.packet.to ≡ a → plan_cases.IsCase w (plans.reaches (record w { bag = bags.with_mark w.bag number }) s.packet a)
reaches w number s (end.Node k) e kept to = reaches_node w number k s (lists.at_place w.hosts k) e kept to refl
reaches w number s (end.Client c) e kept to = receives w number c s.packet.payload s.packet.«from» (lists.at_place w.seats c) refl

delivers_slot : (w : worlds.World) (number : ℕ) (o : Option bags.KeptPacket) (is_whole : Packet → Bool) → bags.take_refusal w.bag (worlds.up_nodes w) number ≡ None
    → bags.kept_at w.bag number ≡ o → plan_cases.IsCase w (plans.delivers_slot w number o is_whole)
delivers_slot w number None is_whole e kept = shows w []
delivers_slot w number (Some s) is_whole e kept =
    let m : worlds.World = record w { bag = bags.with_mark w.bag number } in
    by_test (plan_cases.IsCase w) (is_whole s.packet) (plans.reaches m s.packet s.packet.to) (plans.shows_nothing m) (λ t. reaches w number s s.packet.to e kept refl) (λ t. plan_cases.Showing m [] (marked w number) refl)

delivers : (w : worlds.World) (number : ℕ) (is_whole : Packet → Bool) (r : Option SkipReason) → bags.take_refusal w.bag (worlds.up_nodes w) number ≡ r → plan_cases.IsCase w (plans.delivers_if w number is_whole r)
delivers w number is_whole (Some r) e = shows w (item.Skip r ∷ [])
delivers w number is_whole None e = delivers_slot w number (bags.kept_at w.bag number) is_whole e refl

drops : (w : worlds.World) (number : ℕ) (r : Option SkipReason) → plan_cases.IsCase w (plans.drops w number r)
drops w number (Some r) = shows w (item.Skip r ∷ [])
drops w number None = plan_cases.Showing (record w { bag = bags.with_mark w.bag number }) [] (marked w number) refl

-- a client's own steps
asks_if : (w : worlds.World) (c : ℕ) (s : worlds.Watcher) (r : Option SkipReason) (next : clients.ClientStep) → lists.at_place w.seats c ≡ Some s → next.client.me ≡ s.client.me → plan_cases.IsCase w (plans.client_asks_if w c s r next)
asks_if w c s (Some r) next at me = shows w (item.Skip r ∷ [])
asks_if w c s None next at me = plan_cases.Asking w c s next (alike w) at me refl

asks : (w : worlds.World) (c : ℕ) (o : Option worlds.Watcher) (refusal : clients.Client → Option SkipReason) (next : clients.Client → clients.ClientStep) → ((x : clients.Client) → (next x).client.me ≡ x.me)
    → lists.at_place w.seats c ≡ o → plan_cases.IsCase w (plans.client_asks w c o refusal next)
asks w c None refusal next same at = shows w []
asks w c (Some s) refusal next same at = asks_if w c s (refusal s.client) (next s.client) at (same s.client)

calls : (w : worlds.World) (c : ℕ) (o : Option worlds.Watcher) (next : clients.Client → clients.ClientStep) → ((x : clients.Client) → (next x).client.me ≡ x.me) → lists.at_place w.seats c ≡ o → plan_cases.IsCase w (plans.calls_at w c o next)
calls w c None next same at = shows w []
calls w c (Some s) next same at =
    by_test (plan_cases.IsCase w) (clients.has_ended s.client.state)
    (plans.Shows (worlds.with_watcher w c (record s { client = clients.unsent s.client })) (item.Unsent (clients.own_session s.client.state) (clients.unsent_number s.client) ∷ []))
    (plans.client_asks_if w c s (clients.call_refusal s.client) (next s.client))
    (λ t. plan_cases.Seating c s (record s { client = clients.unsent s.client }) (item.Unsent (clients.own_session s.client.state) (clients.unsent_number s.client) ∷ []) at refl refl)
    (λ t. asks_if w c s (clients.call_refusal s.client) (next s.client) at (same s.client))

watches : (w : worlds.World) (c : ℕ) (kind : WatchKind) (o : Option worlds.Watcher) → lists.at_place w.seats c ≡ o → plan_cases.IsCase w (plans.watches_at w c kind o)
watches w c kind None at = shows w []
watches w c kind (Some s) at =
    by_test (plan_cases.IsCase w) (list_any (plans.same_kind kind) s.watches) (plans.skips w reason.Watched) (plans.shows_nothing (worlds.with_watcher w c (record s { watches = s.watches ++ kind ∷ [] })))
    (λ t. shows w (item.Skip reason.Watched ∷ [])) (λ t. plan_cases.Seating c s (record s { watches = s.watches ++ kind ∷ [] }) [] at refl refl)

pub plan_case : (w : worlds.World) (s : Step) → plan_cases.IsCase w (plans.plan w s)
plan_case w (step.Elect k) = elects w k (lists.at_place w.hosts k) refl
plan_case w (step.Beat k) = led w k (lists.at_place w.hosts k) input.Beat (λ h l. l) refl
plan_case w (step.Crash k) = crashes w k (lists.at_place w.hosts k) refl
plan_case w (step.Start k) = starts w k (lists.at_place w.hosts k) refl
plan_case w (step.Clock k time) = sets_clock w k time (lists.at_place w.hosts k) refl
plan_case w (step.Expire k) = led w k (lists.at_place w.hosts k) input.Check (λ h l. l) refl
plan_case w (step.Cut a b) = plan_cases.Showing (record w { bag = bags.with_cut w.bag a b }) [] (cut w a b) refl
plan_case w (step.Join a b) = plan_cases.Showing (record w { bag = bags.with_join w.bag a b }) [] (record { timeout = refl; hosts = refl; seats = refl; history = refl; kept = refl; sent = refl }) refl
plan_case w (step.Deliver number) = delivers w number (λ p. true) (bags.take_refusal w.bag (worlds.up_nodes w) number) refl
plan_case w (step.Drop number) = drops w number (bags.mark_refusal w.bag number)
plan_case w (step.Short number bytes) = delivers w number (plans.is_within bytes) (bags.take_refusal w.bag (worlds.up_nodes w) number) refl
plan_case w step.List = shows w (item.Listed (bags.pending_count w.bag) ∷ bags.pending_items w.bag)
plan_case w (step.Open c k) = asks w c (lists.at_place w.seats c) clients.open_refusal (λ x. clients.opens x k) (λ x. refl) refl
plan_case w (step.Switch c k) = asks w c (lists.at_place w.seats c) plans.never (λ x. clients.switches x k) (λ x. refl) refl
plan_case w (step.Resend c) = asks w c (lists.at_place w.seats c) clients.resend_refusal clients.resends (λ x. refl) refl
plan_case w (step.Keep c) = asks w c (lists.at_place w.seats c) clients.keep_refusal clients.keeps (λ x. refl) refl
plan_case w (step.Close c) = asks w c (lists.at_place w.seats c) clients.close_refusal clients.closes (λ x. refl) refl
plan_case w (step.Watch c kind) = watches w c kind (lists.at_place w.seats c) refl
plan_case w (step.Call c name o) = calls w c (lists.at_place w.seats c) (λ x. clients.makes_call x name o) (λ x. refl) refl
plan_case w (step.Query c level name q) = calls w c (lists.at_place w.seats c) (λ x. clients.queries x level name q) (λ x. refl) refl
