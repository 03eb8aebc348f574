-- Each step of a world is a list of transitions, for every choice of what the stores of nodes that are down hold.
use Rattle.std.proofs.Common.{◌≡◌, ℕ, zero, suc, List, [], ◌∷◌, ◌++◌, length, take, map, refl, ap, sym, ◌∙◌, subst}
use Rattle.std.specs.Prelude.{Bool, true, false, Option, Some, None, slice_get}
use Rattle.std.specs.List.{AllByRecursion}
use Rattle.std.proofs.lemmas.List.{append-nil}
use Rattle.std.proofs.Math.Seq.{take-nil}
use Rattle.ax_types.specs.Places as lists
use Rattle.ax_types.specs.declared.entries.Act.{Act}
use Rattle.ax_types.specs.declared.entries.Entry.{Entry}
use Rattle.ax_types.specs.declared.entries.Loaded.{Loaded}
use Rattle.ax_types.specs.declared.packets.Packet.{Packet}
use Rattle.ax_types.specs.declared.packets.Payload.{Payload}
use Rattle.ax_types.specs.declared.raft.RaftInput.{RaftInput}
use Rattle.ax_types.specs.declared.sessions.ServerInput.{ServerInput}
use Rattle.ax_types.specs.declared.steps.KeptStep.{KeptStep}
use Rattle.ax_types.specs.declared.steps.StepOutcome.{StepOutcome}
use Rattle.ax_types.specs.declared.steps.StepOutcome.TheVariants as outcome
use Rattle.spec_raft.specs.Positions as positions
use Rattle.spec_node.specs.Node as raft_nodes
use Rattle.spec_node.specs.NodeStep as node_steps
use Rattle.spec_node.specs.Saving as saving
use Rattle.spec_cluster.specs.Bag as bags
use Rattle.spec_cluster.specs.Cluster as clusters
use Rattle.spec_transitions.specs.Systems as systems
use Rattle.spec_transitions.specs.Transitions as transitions
use Rattle.spec_server.specs.Servers as servers
use Rattle.spec_server.specs.ServerStep as server_steps
use Rattle.spec_client.specs.Clients as clients
use Rattle.spec_world.specs.Worlds as worlds
use Rattle.spec_world.specs.Plans as plans
use Rattle.spec_world.specs.Moves as moves
use Rattle.spec_run.specs.Run as runs
use Rattle.law_refinement.specs.Refinement as refinements
use Rattle.law_refinement.proofs.Members.{change_same}
use Rattle.law_refinement.proofs.Fragments.{Fragment, nothing, once, joined, at_end, stays, may_append, after_append}
use Rattle.law_refinement.proofs.Orders.{others_of, keeps_order_all, new_order}
use Rattle.law_refinement.proofs.Steps.{all_sent, made_system, makes, halts}
use Rattle.law_growth.specs.PlanCases as plan_cases
use Rattle.law_growth.specs.Staying as staying
use Rattle.law_growth.proofs.Cases.{alike, plan_case}
use Rattle.law_growth.proofs.Numbers.{carried_shape, carried_numbers, new_numbers}
use Rattle.law_growth.proofs.Sent.{all_since, all_kept}
use Rattle.law_hosts.specs.Ledger as ledgers
use Rattle.law_hosts.specs.Hosts as hosts
use Rattle.law_hosts.proofs.Members.{up_member, down_member, changed, found, with_stayed, stayed_here, others}
use Rattle.law_hosts.proofs.Tasks.{IfCarried, task_carried}
use Rattle.law_hosts.proofs.Packets.{among_more, all_new, from_client, server_packets}

-- the system that an execution leads to
abbrev pub system_of : (n : ℕ) (stayed : ℕ → ℕ) (l : ledgers.Ledger) (w : worlds.World) → hosts.IsMatched n stayed l w → systems.System
system_of n stayed l w m = transitions.after_transitions (systems.new_system n) m.list

pub orderly : (n : ℕ) (stayed : ℕ → ℕ) (l : ledgers.Ledger) (w : worlds.World) (m : hosts.IsMatched n stayed l w) → refinements.IsOrderly (system_of n stayed l w m)
orderly n stayed l w m = keeps_order_all (systems.new_system n) m.list (new_order n) m.may

-- an execution goes on
goes_on : (n : ℕ) (stayed after : ℕ → ℕ) (l k : ledgers.Ledger) (w v : worlds.World) (m : hosts.IsMatched n stayed l w) (a : systems.System)
    → Fragment (system_of n stayed l w m) a → hosts.Matches n after k v a → hosts.IsMatched n after k v
goes_on n stayed after l k w v m a f e = record {
  list = m.list ++ f.list;
  may = may_append (systems.new_system n) m.list f.list m.may f.may;
  ends = subst (hosts.Matches n after k v) (sym (after_append (systems.new_system n) m.list f.list ∙ f.ends)) e;
}

-- what stands at the place of a host changes
host_members : (n : ℕ) (stayed : ℕ → ℕ) (w v : worlds.World) (ms : List clusters.Member) (k : ℕ) (h : worlds.Host) (m : clusters.Member) → plan_cases.IsAlike w v → ms ≡ hosts.members_from stayed n 1 w.hosts
    → hosts.member_of stayed n k h ≡ m → positions.change_place (λ old. m) ms k ≡ hosts.members_from stayed n 1 (positions.change_place (λ old. h) v.hosts k)
host_members n stayed w v ms k h m a e f =
    ap (λ xs. positions.change_place (λ old. m) xs k) e
    ∙ ap (λ x. positions.change_place (λ old. x) (hosts.members_from stayed n 1 w.hosts) k) (sym f)
    ∙ ap (λ hs. positions.change_place (λ old. hosts.member_of stayed n k h) (hosts.members_from stayed n 1 hs) k) (sym a.hosts)
    ∙ sym (changed stayed n k v.hosts h)

-- the system after a node took the input that there is
abbrev pub after_input : systems.System → ℕ → raft_nodes.Node → Option RaftInput → systems.System
after_input s k n None = systems.with_node s k n
after_input s k n (Some i) = made_system s k n i

input_made : (s : systems.System) (k : ℕ) (n : raft_nodes.Node) (o : Option RaftInput) → systems.IsUp s k n → IfCarried s k n o → Fragment s (after_input s k n o)
input_made s k n None up c = stays s k n up
input_made s k n (Some i) up c = makes s k n i up c

input_members : (s : systems.System) (k : ℕ) (n : raft_nodes.Node) (o : Option RaftInput)
    → (after_input s k n o).cluster.members ≡ positions.change_place (λ old. let m : clusters.Member = record { is_up = true; node = server_steps.raft_after n o } in m) s.cluster.members k
input_members s k n None = refl
input_members s k n (Some i) = refl

input_among : (s : systems.System) (k : ℕ) (n : raft_nodes.Node) (o : Option RaftInput) (p : Packet) → systems.Among p s.sent → systems.Among p (after_input s k n o).sent
input_among s k n None p h = h
input_among s k n (Some i) p h = among_more p s.sent (node_steps.did n i).packets h

input_packets : (s : systems.System) (k : ℕ) (n : raft_nodes.Node) (o : Option RaftInput) → AllByRecursion (hosts.IsSentIfRaft (after_input s k n o).sent) (server_steps.raft_out n o).packets
input_packets s k n None = tt
input_packets s k n (Some i) = all_new s.sent (node_steps.did n i).packets

-- and what the ledger then tells
pub record Tells (l : ledgers.Ledger) (s : systems.System) : Type 0 where
  pub committed : s.cluster.committed ≡ l.committed
  pub terms : s.cluster.terms ≡ l.terms
  pub leds : s.cluster.leds ≡ l.leds
  pub takens : s.cluster.takens ≡ l.takens
  pub givens : s.cluster.givens ≡ l.givens

input_tells : (l : ledgers.Ledger) (s : systems.System) (k : ℕ) (n : raft_nodes.Node) (o : Option RaftInput) → Tells l s → Tells (ledgers.with_input l k n o) (after_input s k n o)
input_tells l s k n None t = record { committed = t.committed; terms = t.terms; leds = t.leds; takens = t.takens; givens = t.givens }
input_tells l s k n (Some i) t = record {
  committed = ap (λ c. clusters.entries_so_far c (node_steps.stepped n i)) t.committed;
  terms = ap (λ c. clusters.terms_so_far c (node_steps.stepped n i)) t.terms;
  leds = ap (λ c. c ++ clusters.led_by k (node_steps.stepped n i) (node_steps.out n i).led) t.leds;
  takens = ap {A = record { 0 : List clusters.ReadTaken; 1 : List Entry }} (λ x. x.0 ++ clusters.taken_by k n (length x.1) (node_steps.out n i).reached) (λ j. (t.takens j, t.committed j));
  givens = ap (λ c. c ++ clusters.given_by k (node_steps.stepped n i) (node_steps.out n i).reads) t.givens;
}

-- a host of the world is a node of the system
pub stands_up : (n : ℕ) (stayed : ℕ → ℕ) (l : ledgers.Ledger) (w : worlds.World) (m : hosts.IsMatched n stayed l w) (k : ℕ) (h : worlds.Host) → lists.at_place w.hosts k ≡ Some h → h.is_up ≡ true
    → systems.IsUp (system_of n stayed l w m) k h.server.raft
stands_up n stayed l w m k h at up = ap (λ ms. lists.at_place ms k) m.ends.members ∙ found stayed n k w.hosts h at ∙ ap (λ x. Some x) (up_member stayed n k h up)

stands_down : (n : ℕ) (stayed : ℕ → ℕ) (l : ledgers.Ledger) (w : worlds.World) (m : hosts.IsMatched n stayed l w) (k : ℕ) (h : worlds.Host) → lists.at_place w.hosts k ≡ Some h → h.is_up ≡ false
    → lists.at_place (system_of n stayed l w m).cluster.members k ≡ Some (record { is_up = false; node = raft_nodes.restarted k n (worlds.content_with h (stayed k)) })
stands_down n stayed l w m k h at down = ap (λ ms. lists.at_place ms k) m.ends.members ∙ found stayed n k w.hosts h at ∙ ap (λ x. Some x) (down_member stayed n k h down)

-- what is known of the worlds before
abbrev pub MatchedAll : ℕ → ledgers.Ledger → worlds.World → Type 0
MatchedAll n l w = (stayed : ℕ → ℕ) → hosts.IsMatched n stayed l w

-- a server's step
pub serves_made : (n : ℕ) (stayed : ℕ → ℕ) (l : ledgers.Ledger) (w : worlds.World) (k : ℕ) (h : worlds.Host) (i : ServerInput) (m : hosts.IsMatched n stayed l w)
    → lists.at_place w.hosts k ≡ Some h → h.is_up ≡ true → plan_cases.IsInputOf w k h i → Fragment (system_of n stayed l w m) (after_input (system_of n stayed l w m) k h.server.raft (servers.task h.server i).input)
serves_made n stayed l w k h i m at up known =
    let s : systems.System = system_of n stayed l w m in
    let is_up : systems.IsUp s k h.server.raft = stands_up n stayed l w m k h at up in
    let knows : refinements.KnowsOthers h.server.raft = others_of s k (record { is_up = true; node = h.server.raft }) (orderly n stayed l w m) is_up in
    input_made s k h.server.raft (servers.task h.server i).input is_up (task_carried w s k h i is_up knows known m.ends.packets)

pub tells : (n : ℕ) (stayed : ℕ → ℕ) (l : ledgers.Ledger) (w : worlds.World) (k : ℕ) (x : raft_nodes.Node) (o : Option RaftInput) (m : hosts.IsMatched n stayed l w) → Tells (ledgers.with_input l k x o) (after_input (system_of n stayed l w m) k x o)
tells n stayed l w k x o m = input_tells l (system_of n stayed l w m) k x o (record { committed = m.ends.committed; terms = m.ends.terms; leds = m.ends.leds; takens = m.ends.takens; givens = m.ends.givens })

pub serves_well : (n : ℕ) (stayed : ℕ → ℕ) (l : ledgers.Ledger) (w v : worlds.World) (k : ℕ) (h : worlds.Host) (i : ServerInput) (hist : List (ℕ × Act))
    → hosts.IsMatched n stayed l w → plan_cases.IsAlike w v → lists.at_place w.hosts k ≡ Some h → h.is_up ≡ true → plan_cases.IsInputOf w k h i
    → hosts.IsMatched n stayed (ledgers.with_input l k h.server.raft (servers.task h.server i).input)
    (record (worlds.with_host v k (record h { server = server_steps.server_after h.server i })) { bag = bags.with_packets v.bag (server_steps.server_out h.server i).packets; history = hist })
serves_well n stayed l w v k h i hist m a at up known =
    let s : systems.System = system_of n stayed l w m in
    let o : Option RaftInput = (servers.task h.server i).input in
    let x : worlds.Host = record h { server = server_steps.server_after h.server i } in
    let b : systems.System = after_input s k h.server.raft o in
    let t : Tells (ledgers.with_input l k h.server.raft o) b = tells n stayed l w k h.server.raft o m in
    let P : Packet → Type 0 = hosts.IsSentIfRaft b.sent in
    goes_on n stayed stayed l (ledgers.with_input l k h.server.raft o) w (record (worlds.with_host v k x) { bag = bags.with_packets v.bag (server_steps.server_out h.server i).packets; history = hist }) m b (serves_made n stayed l w k h i m at up known) (record {
      members = input_members s k h.server.raft o ∙ host_members n stayed w v s.cluster.members k x (record { is_up = true; node = server_steps.raft_after h.server.raft o }) a m.ends.members (up_member stayed n k x up);
      packets = all_kept P v.bag (server_steps.server_out h.server i).packets
          (subst (AllByRecursion P) (sym a.kept) (all_since (hosts.IsSentIfRaft s.sent) P (λ p f j q e g raft. input_among s k h.server.raft o p (f j q e g raft)) (plan_cases.kept_packets w.bag) m.ends.packets))
          (server_packets b.sent h.server i (input_packets s k h.server.raft o));
      committed = t.committed;
      terms = t.terms;
      leds = t.leds;
      takens = t.takens;
      givens = t.givens;
    })

-- nothing but the system's node k changes
node_changes : (n : ℕ) (stayed after : ℕ → ℕ) (l : ledgers.Ledger) (w v : worlds.World) (m : hosts.IsMatched n stayed l w) (k : ℕ) (x : clusters.Member)
    → Fragment (system_of n stayed l w m) (systems.member_changed (system_of n stayed l w m) k x)
    → positions.change_place (λ old. x) (system_of n stayed l w m).cluster.members k ≡ hosts.members_from after n 1 v.hosts → plan_cases.kept_packets v.bag ≡ plan_cases.kept_packets w.bag → hosts.IsMatched n after l v
node_changes n stayed after l w v m k x f e kept =
    let s : systems.System = system_of n stayed l w m in
    goes_on n stayed after l l w v m (systems.member_changed s k x) f (record {
      members = e;
      packets = subst (AllByRecursion (hosts.IsSentIfRaft s.sent)) (sym kept) m.ends.packets;
      committed = m.ends.committed;
      terms = m.ends.terms;
      leds = m.ends.leds;
      takens = m.ends.takens;
      givens = m.ends.givens;
    })

-- a server's step in which a store call failed
none_kept : (kept : Loaded) (saved added : ℕ) → saving.kept_after kept [] saved added ≡ kept
none_kept kept zero added = ap (λ es. let x : Loaded = record kept { log = kept.log ++ es } in x) (take-nil added) ∙ ap (λ log. let x : Loaded = record kept { log = log } in x) (append-nil kept.log)
none_kept kept (suc saved) added = ap (λ es. let x : Loaded = record kept { log = kept.log ++ es } in x) (take-nil added) ∙ ap (λ log. let x : Loaded = record kept { log = log } in x) (append-nil kept.log)

input_halts : (s : systems.System) (k : ℕ) (n : raft_nodes.Node) (o : Option RaftInput) (saved added : ℕ) → systems.IsUp s k n → IfCarried s k n o
    → Fragment s (systems.member_changed s k (clusters.fallen_member n (saving.kept_after (raft_nodes.kept_of n) (saving.calls_of (server_steps.raft_out n o).saves) saved added)))
input_halts s k n None saved added up c =
    at_end s (systems.member_changed s k (clusters.fallen_member n (raft_nodes.kept_of n))) (systems.member_changed s k (clusters.fallen_member n (saving.kept_after (raft_nodes.kept_of n) [] saved added)))
    (ap (λ x. systems.member_changed s k (clusters.fallen_member n x)) (sym (none_kept (raft_nodes.kept_of n) saved added))) (once s (transitions.Crash k n) up)
input_halts s k n (Some i) saved added up c = halts s k n i saved added up c

-- the numbers of a node that falls
fallen_same : (n k : ℕ) (x : raft_nodes.Node) (kept : Loaded) → x.ballot.me ≡ k → x.ballot.nodes ≡ n → (λ (m : clusters.Member). m) (record { is_up = false; node = raft_nodes.restarted k n kept }) ≡ clusters.fallen_member x kept
fallen_same n k x kept e f = (λ i. record { is_up = false; node = raft_nodes.restarted (sym e i) (sym f i) kept })

falls : (n : ℕ) (stayed : ℕ → ℕ) (l : ledgers.Ledger) (w v : worlds.World) (k : ℕ) (h : worlds.Host) (i : ServerInput) (saved : ℕ) → staying.StandAtNumbers w → length w.hosts ≡ n
    → hosts.IsMatched n stayed l w → plan_cases.IsAlike w v → lists.at_place w.hosts k ≡ Some h → h.is_up ≡ true → plan_cases.IsInputOf w k h i
    → hosts.IsMatched n stayed l (moves.halts v k h (saving.calls_of (server_steps.server_out h.server i).saves) saved).world
falls n stayed l w v k h i saved numbers size m a at up known =
    let s : systems.System = system_of n stayed l w m in
    let o : Option RaftInput = (servers.task h.server i).input in
    let calls : List saving.Save = saving.calls_of (server_steps.server_out h.server i).saves in
    let x : worlds.Host = worlds.fallen_host v k h (saving.kept_at_failure (worlds.kept_by h) calls saved) (saving.at_stake (slice_get calls saved)) in
    let left : Loaded = saving.kept_after (raft_nodes.kept_of h.server.raft) calls saved (stayed k) in
    let is_up : systems.IsUp s k h.server.raft = stands_up n stayed l w m k h at up in
    let knows : refinements.KnowsOthers h.server.raft = others_of s k (record { is_up = true; node = h.server.raft }) (orderly n stayed l w m) is_up in
    let c : IfCarried s k h.server.raft o = task_carried w s k h i is_up knows known m.ends.packets in
    let number : staying.HasNumber (length w.hosts) k h.server.raft = numbers.hosts k h at in
    node_changes n stayed stayed l w (worlds.with_host v k x) m k (clusters.fallen_member h.server.raft left) (input_halts s k h.server.raft o saved (stayed k) is_up c)
    (host_members n stayed w v s.cluster.members k x (clusters.fallen_member h.server.raft left) a m.ends.members (fallen_same n k h.server.raft left number.me (number.size ∙ size))) a.kept

-- a node goes down
crashes : (n : ℕ) (stayed : ℕ → ℕ) (l : ledgers.Ledger) (w : worlds.World) (k : ℕ) (h : worlds.Host) → staying.StandAtNumbers w → length w.hosts ≡ n
    → hosts.IsMatched n stayed l w → lists.at_place w.hosts k ≡ Some h → h.is_up ≡ true → hosts.IsMatched n stayed l (worlds.with_host w k (worlds.fallen_host w k h (worlds.kept_by h) []))
crashes n stayed l w k h numbers size m at up =
    let s : systems.System = system_of n stayed l w m in
    let x : worlds.Host = worlds.fallen_host w k h (worlds.kept_by h) [] in
    let kept : Loaded = raft_nodes.kept_of h.server.raft in
    let number : staying.HasNumber (length w.hosts) k h.server.raft = numbers.hosts k h at in
    node_changes n stayed stayed l w (worlds.with_host w k x) m k (clusters.fallen_member h.server.raft kept) (once s (transitions.Crash k h.server.raft) (stands_up n stayed l w m k h at up))
    (host_members n stayed w w s.cluster.members k x (clusters.fallen_member h.server.raft kept) (alike w) m.ends.members
    (ap (λ y. let z : clusters.Member = record { is_up = false; node = raft_nodes.restarted k n y } in z) (none_kept kept 0 (stayed k)) ∙ fallen_same n k h.server.raft kept number.me (number.size ∙ size))) refl

-- and comes up again with what its store held
starts : (n : ℕ) (stayed : ℕ → ℕ) (l : ledgers.Ledger) (w : worlds.World) (k added : ℕ) (h : worlds.Host) → length w.hosts ≡ n → MatchedAll n l w → lists.at_place w.hosts k ≡ Some h → h.is_up ≡ false
    → hosts.IsMatched n stayed l (moves.loads w k h added).world
starts n stayed l w k added h size all at down =
    let m : hosts.IsMatched n (with_stayed stayed k added) l w = all (with_stayed stayed k added) in
    let s : systems.System = system_of n (with_stayed stayed k added) l w m in
    let kept : Loaded = worlds.content_with h added in
    let old : raft_nodes.Node = raft_nodes.restarted k n kept in
    let x : worlds.Host = record { is_up = true; clock = h.clock; server = servers.server_from k (worlds.nodes_of w) w.timeout kept; at_stake = [] } in
    let is_down : lists.at_place s.cluster.members k ≡ Some (record { is_up = false; node = old }) = stands_down n (with_stayed stayed k added) l w m k h at down
    ∙ ap (λ c. Some (let z : clusters.Member = record { is_up = false; node = raft_nodes.restarted k n (worlds.content_with h c) } in z)) (stayed_here stayed k added) in
    let new : clusters.Member = record { is_up = true; node = old } in
    node_changes n (with_stayed stayed k added) stayed l w (worlds.with_host w k x) m k new (once s (transitions.Start k old) is_down)
    (ap (λ ms. positions.change_place (λ old. new) ms k) m.ends.members ∙ others stayed n k added w.hosts h new at
    ∙ host_members n stayed w w (hosts.members_from stayed n 1 w.hosts) k x new (alike w) refl (ap (λ c. let z : clusters.Member = record { is_up = true; node = raft_nodes.restarted k c kept } in z) size)) refl

-- the network, the clients and the clocks
shows : (n : ℕ) (stayed : ℕ → ℕ) (l : ledgers.Ledger) (w v : worlds.World) → hosts.IsMatched n stayed l w → v.hosts ≡ w.hosts → plan_cases.kept_packets v.bag ≡ plan_cases.kept_packets w.bag → hosts.IsMatched n stayed l v
shows n stayed l w v m e f =
    let s : systems.System = system_of n stayed l w m in
    goes_on n stayed stayed l l w v m s (nothing s) (record {
      members = m.ends.members ∙ ap (hosts.members_from stayed n 1) (sym e);
      packets = subst (AllByRecursion (hosts.IsSentIfRaft s.sent)) (sym f) m.ends.packets;
      committed = m.ends.committed;
      terms = m.ends.terms;
      leds = m.ends.leds;
      takens = m.ends.takens;
      givens = m.ends.givens;
    })

sends_of_client : (sent : List Packet) (c : ℕ) (ps : List (ℕ × Payload)) → AllByRecursion (hosts.IsSentIfRaft sent) (map (moves.from_client c) ps)
sends_of_client sent c [] = tt
sends_of_client sent c (p ∷ ps) = (from_client sent c p.0 p.1, sends_of_client sent c ps)

client_steps : (n : ℕ) (stayed : ℕ → ℕ) (l : ledgers.Ledger) (w v : worlds.World) (c : ℕ) (x : worlds.Watcher) (next : clients.ClientStep) → hosts.IsMatched n stayed l w → plan_cases.IsAlike w v
    → hosts.IsMatched n stayed l (moves.client_served v c x next).world
client_steps n stayed l w v c x next m a =
    let s : systems.System = system_of n stayed l w m in
    let P : Packet → Type 0 = hosts.IsSentIfRaft s.sent in
    goes_on n stayed stayed l l w (moves.client_served v c x next).world m s (nothing s) (record {
      members = m.ends.members ∙ ap (hosts.members_from stayed n 1) (sym a.hosts);
      packets = all_kept P v.bag (map (moves.from_client c) next.out.sends) (subst (AllByRecursion P) (sym a.kept) m.ends.packets) (sends_of_client s.sent c next.out.sends);
      committed = m.ends.committed;
      terms = m.ends.terms;
      leds = m.ends.leds;
      takens = m.ends.takens;
      givens = m.ends.givens;
    })

sets_clock : (n : ℕ) (stayed : ℕ → ℕ) (l : ledgers.Ledger) (w : worlds.World) (k time : ℕ) (h : worlds.Host) → hosts.IsMatched n stayed l w → lists.at_place w.hosts k ≡ Some h
    → hosts.IsMatched n stayed l (worlds.with_host w k (record h { clock = time }))
sets_clock n stayed l w k time h m at =
    let s : systems.System = system_of n stayed l w m in
    let x : worlds.Host = record h { clock = time } in
    let same : hosts.members_from stayed n 1 w.hosts ≡ hosts.members_from stayed n 1 (positions.change_place (λ old. x) w.hosts k) =
    sym (change_same (hosts.members_from stayed n 1 w.hosts) k (hosts.member_of stayed n k h) (found stayed n k w.hosts h at)) ∙ sym (changed stayed n k w.hosts x) in
    goes_on n stayed stayed l l w (worlds.with_host w k x) m s (nothing s) (record {
      members = m.ends.members ∙ same;
      packets = m.ends.packets;
      committed = m.ends.committed;
      terms = m.ends.terms;
      leds = m.ends.leds;
      takens = m.ends.takens;
      givens = m.ends.givens;
    })

-- each step
pub carried_matched : (n : ℕ) (l : ledgers.Ledger) (w : worlds.World) (p : plans.Plan) (o : StepOutcome) → plan_cases.IsCase w p → staying.StandAtNumbers w → length w.hosts ≡ n → MatchedAll n l w
    → MatchedAll n (ledgers.ledger_in l p o) (moves.carried p o).world
carried_matched n l w p o (plan_cases.Serving v k h i a at up known e) numbers size all stayed = subst (λ x. hosts.IsMatched n stayed (ledgers.ledger_in l x o) (moves.carried x o).world) (sym e) (served o)
  where
    served : (o : StepOutcome) → hosts.IsMatched n stayed (ledgers.ledger_in l (plans.Serves v k h i) o) (moves.served v k h i o).world
    served outcome.Fine = serves_well n stayed l w v k h i (moves.history_with v.history (server_steps.server_out h.server i)) (all stayed) a at up known
    served (outcome.Loaded added) = serves_well n stayed l w v k h i (moves.history_with v.history (server_steps.server_out h.server i)) (all stayed) a at up known
    served (outcome.Failed saved) = falls n stayed l w v k h i saved numbers size (all stayed) a at up known
carried_matched n l w p o (plan_cases.Loading k h at down e) numbers size all stayed = subst (λ x. hosts.IsMatched n stayed (ledgers.ledger_in l x o) (moves.carried x o).world) (sym e) (loaded o)
  where
    loaded : (o : StepOutcome) → hosts.IsMatched n stayed l (moves.loaded w k h o).world
    loaded outcome.Fine = starts n stayed l w k 0 h size all at down
    loaded (outcome.Loaded added) = starts n stayed l w k added h size all at down
    loaded (outcome.Failed saved) = all stayed
carried_matched n l w p o (plan_cases.Asking v c s next a at me e) numbers size all stayed = subst (λ x. hosts.IsMatched n stayed (ledgers.ledger_in l x o) (moves.carried x o).world) (sym e) (client_steps n stayed l w v c s next (all stayed) a)
carried_matched n l w p o (plan_cases.Falling k h at up e) numbers size all stayed = subst (λ x. hosts.IsMatched n stayed (ledgers.ledger_in l x o) (moves.carried x o).world) (sym e) (crashes n stayed l w k h numbers size (all stayed) at up)
carried_matched n l w p o (plan_cases.Setting k h time at e) numbers size all stayed = subst (λ x. hosts.IsMatched n stayed (ledgers.ledger_in l x o) (moves.carried x o).world) (sym e) (sets_clock n stayed l w k time h (all stayed) at)
carried_matched n l w p o (plan_cases.Seating c s t items at me e) numbers size all stayed = subst (λ x. hosts.IsMatched n stayed (ledgers.ledger_in l x o) (moves.carried x o).world) (sym e) (shows n stayed l w (worlds.with_watcher w c t) (all stayed) refl refl)
carried_matched n l w p o (plan_cases.Showing v items a e) numbers size all stayed = subst (λ x. hosts.IsMatched n stayed (ledgers.ledger_in l x o) (moves.carried x o).world) (sym e) (shows n stayed l w v (all stayed) a.hosts a.kept)

-- the beginning
new_from : (stayed : ℕ → ℕ) (n timeout a b : ℕ) → map (λ k. let m : clusters.Member = record { is_up = true; node = raft_nodes.new_node k n } in m) (lists.numbers_from a b) ≡ hosts.members_from stayed n a (map (worlds.new_host n timeout) (lists.numbers_from a b))
new_from stayed n timeout a zero = refl
new_from stayed n timeout a (suc b) = ap (λ ms. (let m : clusters.Member = record { is_up = true; node = raft_nodes.new_node a n } in m) ∷ ms) (new_from stayed n timeout (suc a) b)

pub new_matched : (n clients timeout : ℕ) (stayed : ℕ → ℕ) → hosts.IsMatched n stayed ledgers.new_ledger (worlds.new_world n clients timeout)
new_matched n clients timeout stayed = record {
  list = [];
  may = tt;
  ends = record { members = new_from stayed n timeout 1 n; packets = tt; committed = refl; terms = refl; leds = refl; takens = refl; givens = refl };
}

from_matched : (n clients timeout : ℕ) (l : ledgers.Ledger) (w : worlds.World) (steps : List KeptStep) → staying.HasNumbers n clients timeout w → MatchedAll n l w → MatchedAll n (ledgers.ledger_from l w steps) (runs.ran w steps).world
from_matched n clients timeout l w [] numbers all = all
from_matched n clients timeout l w (k ∷ steps) numbers all =
    let p : plans.Plan = plans.plan w k.step in
    let c : plan_cases.IsCase w p = plan_case w k.step in
    let s = carried_shape w p k.outcome c in
    from_matched n clients timeout (ledgers.ledger_by l w k) (moves.moved w k).world steps
    (record { timeout = s.timeout ∙ numbers.timeout; hosts = s.hosts ∙ numbers.hosts; seats = s.seats ∙ numbers.seats; numbers = carried_numbers w p k.outcome c numbers.numbers })
    (carried_matched n l w p k.outcome c numbers.numbers numbers.hosts all)

pub hosts_are_matched : hosts.HostsAreMatched
hosts_are_matched n clients timeout steps = from_matched n clients timeout ledgers.new_ledger (worlds.new_world n clients timeout) steps (new_numbers n clients timeout) (new_matched n clients timeout)
