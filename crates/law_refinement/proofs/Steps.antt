-- Each step of a cluster, made or halted, in transitions.
use Rattle.std.proofs.Common.{◌≡◌, ℕ, List, [], ◌∷◌, ◌++◌, refl, ap, sym, ◌∙◌, subst, inr}
use Rattle.std.specs.Prelude.{Bool, true, false, ◌&&◌, not, Option, Some, None}
use Rattle.std.specs.List.{AllByRecursion}
use Rattle.ax_types.specs.Places as lists
use Rattle.ax_types.specs.declared.ids.End.{End}
use Rattle.ax_types.specs.declared.ids.End.TheVariants as end
use Rattle.ax_types.specs.declared.entries.Loaded.{Loaded}
use Rattle.ax_types.specs.declared.packets.Packet.{Packet}
use Rattle.ax_types.specs.declared.raft.RaftInput.{RaftInput}
use Rattle.ax_types.specs.declared.raft.RaftInput.TheVariants as input
use Rattle.ax_types.specs.declared.raft.NodeInput.{NodeInput}
use Rattle.ax_types.specs.declared.raft.NodeInput.TheVariants as asked
use Rattle.ax_types.specs.declared.raft.RaftStep.{RaftStep}
use Rattle.ax_types.specs.declared.raft.RaftStep.TheVariants as step
use Rattle.spec_node.specs.Node as nodes
use Rattle.spec_node.specs.NodeStep as steps
use Rattle.spec_node.specs.Saving as saving
use Rattle.spec_cluster.specs.Bag as bags
use Rattle.spec_cluster.specs.Cluster as clusters
use Rattle.spec_transitions.specs.Systems as systems
use Rattle.spec_transitions.specs.Transitions as transitions
use Rattle.law_refinement.specs.Refinement as refinements
use Rattle.law_refinement.proofs.Tests.{by_test, both}
use Rattle.law_refinement.proofs.Members.{stands, change_twice, member_again}
use Rattle.law_refinement.proofs.Fragments.{Fragment, nothing, once, joined, at_end, stays, may_append, after_append}
use Rattle.law_refinement.proofs.Rules.{settled, CanKeep, kept_with, Carried, kin, kin_keeps}
use Rattle.law_refinement.proofs.Elections.{elects}
use Rattle.law_refinement.proofs.Leaderships.{beats, appends, reads}
use Rattle.law_refinement.proofs.Replies.{heeds}
use Rattle.law_refinement.proofs.Stores as stores
use Rattle.law_refinement.proofs.Orders.{all_at, others_of, keeps_order, keeps_order_all, new_order}

-- the packets of a step are sent
abbrev pub all_sent : List Packet → List Packet → List Packet
all_sent sent [] = sent
all_sent sent (p ∷ ps) = all_sent (p ∷ sent) ps

abbrev with_all_sent : systems.System → List Packet → systems.System
with_all_sent s ps = record { cluster = record s.cluster { bag = bags.with_packets s.cluster.bag ps }; sent = all_sent s.sent ps }

-- what may be sent may be sent after another packet
later : (s : systems.System) (q p : Packet) → transitions.Sends s p → transitions.Sends (systems.with_sent s q) p
later s q p (transitions.Asks j k n up runs ne e) = transitions.Asks j k n up runs ne e
later s q p (transitions.Votes j k last last_term n is_given up given e) = transitions.Votes j k last last_term n is_given up (λ t. ((given t).0, inr (given t).1)) e
later s q p (transitions.Appends j k n up lead ne e) = transitions.Appends j k n up lead ne e
later s q p (transitions.Outdates j k term prev prev_term commit round es n up sent old e) = transitions.Outdates j k term prev prev_term commit round es n up (inr sent) old e
later s q p (transitions.Lacks j k prev prev_term commit round place es n up follows sent e) = transitions.Lacks j k prev prev_term commit round place es n up follows (inr sent) e
later s q p (transitions.Acks j n up follows m h e) = transitions.Acks j n up follows
    (record { leader = m.leader; prev = m.prev; prev_term = m.prev_term; commit = m.commit; round = m.round; entries = m.entries; was_sent = inr m.was_sent; matches = m.matches })
    (record { free = h.free; long = h.long }) e

all_later : (s : systems.System) (q : Packet) (ps : List Packet) → AllByRecursion (transitions.Sends s) ps → AllByRecursion (transitions.Sends (systems.with_sent s q)) ps
all_later s q [] h = tt
all_later s q (p ∷ ps) h = (later s q p h.0, all_later s q ps h.1)

sends_all : (s : systems.System) (ps : List Packet) → AllByRecursion (transitions.Sends s) ps → Fragment s (with_all_sent s ps)
sends_all s [] h = nothing s
sends_all s (p ∷ ps) h = joined s (systems.with_sent s p) (with_all_sent s (p ∷ ps)) (once s (transitions.Send p) h.0) (sends_all (systems.with_sent s p) ps (all_later s p ps h.1))

-- a step that is made
abbrev pub made_system : systems.System → ℕ → nodes.Node → RaftInput → systems.System
made_system s j n i = record { cluster = clusters.gains s.cluster j n (steps.stepped n i) (steps.out n i); sent = all_sent s.sent (steps.did n i).packets }

pub makes : (s : systems.System) (j : ℕ) (n : nodes.Node) (i : RaftInput) → systems.IsUp s j n → Carried s j n n (steps.did n i) → Fragment s (made_system s j n i)
makes s j n i up c =
    let d : nodes.Did = steps.did n i in
    let x : systems.System = settled s j n d in
    let y : systems.System = with_all_sent x d.packets in
    joined s x (made_system s j n i) c.made
    (joined x y (made_system s j n i) (sends_all x d.packets c.sends)
    (at_end y (transitions.after_transition y (transitions.Answer j d.node)) (made_system s j n i)
    (λ k. record {
      cluster = record (clusters.gains s.cluster j n (steps.stepped n i) (steps.out n i)) {
        members = change_twice s.cluster.members j (record { is_up = true; node = d.node }) (record { is_up = true; node = steps.stepped n i }) k;
      };
      sent = all_sent s.sent d.packets;
    })
    (once y (transitions.Answer j d.node) (stands s j n d.node up))))

-- a node goes down
falls : (s : systems.System) (j : ℕ) (n : nodes.Node) (kept : Loaded) → systems.IsUp s j n → CanKeep s j n kept → Fragment s (systems.member_changed s j (clusters.fallen_member n kept))
falls s j n kept up c =
    let a : nodes.Node = c.node in
    let x : systems.System = systems.with_node s j a in
    let lost : (λ (m : clusters.Member). systems.member_changed s j m) (clusters.fallen_member a (nodes.kept_of a)) ≡ systems.member_changed s j (clusters.fallen_member n kept) =
    (λ i. systems.member_changed s j (record { is_up = false; node = nodes.restarted (c.me i) (c.size i) (c.keeps i) })) in
    joined s x (systems.member_changed s j (clusters.fallen_member n kept)) c.becomes
    (at_end x (systems.member_changed x j (clusters.fallen_member a (nodes.kept_of a))) (systems.member_changed s j (clusters.fallen_member n kept))
    (member_again s j (record { is_up = true; node = a }) (clusters.fallen_member a (nodes.kept_of a)) ∙ lost)
    (once x (transitions.Crash j a) (stands s j n a up)))

-- what it may keep of a step
remains_kept : (s : systems.System) (j : ℕ) (n : nodes.Node) (d : nodes.Did) (left : Loaded) → systems.IsUp s j n → Carried s j n n d
    → stores.Remains (nodes.kept_of n) (steps.vote_save n d.node) (steps.cut_save d.cut) d.add left → CanKeep s j n left
remains_kept s j n d left up c (stores.Nothing e) = subst (CanKeep s j n) (sym e) (kin_keeps s j n n (kin n) (stays s j n up))
remains_kept s j n d left up c (stores.Voted e) = subst (CanKeep s j n) (sym (e ∙ stores.vote_kept n d.node)) c.voted
remains_kept s j n d left up c (stores.Added k e) =
    let v : Loaded = kept_with d n.log in
    subst (CanKeep s j n)
    (sym (e ∙ (ap (λ kept. stores.lengthened d.add k (stores.shortened (steps.cut_save d.cut) kept)) (stores.vote_kept n d.node) ∙ ap (stores.lengthened d.add k) (stores.cut_kept d.cut v))))
    (c.added k)

pub halts : (s : systems.System) (j : ℕ) (n : nodes.Node) (i : RaftInput) (saved added : ℕ) → systems.IsUp s j n → Carried s j n n (steps.did n i)
    → Fragment s (systems.member_changed s j (clusters.fallen_member n (saving.kept_after (nodes.kept_of n) (saving.calls_of (steps.out n i).saves) saved added)))
halts s j n i saved added up c =
    let d : nodes.Did = steps.did n i in
    let left : Loaded = saving.kept_after (nodes.kept_of n) (saving.calls_of (steps.out n i).saves) saved added in
    falls s j n left up (remains_kept s j n d left up c (stores.remains (nodes.kept_of n) (steps.vote_save n d.node) (steps.cut_save d.cut) d.add saved added))

-- an input that a node takes, where its packet was marked
record Taken (s : systems.System) (d : clusters.Intake) : Type 0 where
  system : systems.System
  marked : Fragment s system
  same : system.cluster ≡ d.cluster
  up : systems.IsUp system d.number d.node
  carried : Carried system d.number d.node d.node (steps.did d.node d.input)

abbrev IfTaken : systems.System → Option clusters.Intake → Type 0
IfTaken s None = Unit {0}
IfTaken s (Some d) = Taken s d

taken_at : (s x : systems.System) (k : ℕ) (i : RaftInput) (test : nodes.Node → Bool) → Fragment s x → ((n : nodes.Node) → systems.IsUp x k n → test n ≡ true → Carried x k n n (steps.did n i))
    → (o : Option clusters.Member) → lists.at_place x.cluster.members k ≡ o → IfTaken s (clusters.intake_at x.cluster k i o test)
taken_at s x k i test l rule None e = tt
taken_at s x k i test l rule (Some m) e =
    by_test (IfTaken s) (m.is_up && test m.node) (Some (record { cluster = x.cluster; number = k; node = m.node; input = i })) None
    (λ t.
    let parts : (m.is_up ≡ true) × (test m.node ≡ true) = both m.is_up (test m.node) t in
    let up : systems.IsUp x k m.node = e ∙ ap (λ b. Some (let a : clusters.Member = record { is_up = b; node = m.node } in a)) parts.0 in
    record { system = x; marked = l; same = refl; up = up; carried = rule m.node up parts.1 })
    (λ t. tt)

taken_for : (s x : systems.System) (k : ℕ) (i : RaftInput) (test : nodes.Node → Bool) → Fragment s x → ((n : nodes.Node) → systems.IsUp x k n → test n ≡ true → Carried x k n n (steps.did n i))
    → IfTaken s (clusters.intake_for x.cluster k i test)
taken_for s x k i test l rule = taken_at s x k i test l rule (lists.at_place x.cluster.members k) refl

taken_packet : (s x : systems.System) (clock : ℕ) (p : Packet) → refinements.IsOrderly x → Fragment s x → systems.Among p x.sent → (f t : End) → p.«from» ≡ f → p.to ≡ t → IfTaken s (clusters.intake_packet x.cluster clock p f t)
taken_packet s x clock p o l sent (end.Node j) (end.Node k) ef et =
    taken_for s x k (input.Message j clock p.payload) (λ n. true) l
    (λ n up e. heeds x k n j clock p.payload up (others_of x k (record { is_up = true; node = n }) o up)
    (let h : systems.WasSent x j k p.payload = subst (λ q. systems.Among q x.sent) (λ i. record { «from» = ef i; to = et i; payload = p.payload }) sent in h))
taken_packet s x clock p o l sent (end.Node j) (end.Client k) ef et = tt
taken_packet s x clock p o l sent (end.Client j) t ef et = tt

taken_kept : (s : systems.System) (number clock : ℕ) → refinements.IsOrderly s → (k : Option bags.KeptPacket) → bags.kept_at s.cluster.bag number ≡ k → IfTaken s (clusters.intake_kept s.cluster number clock k)
taken_kept s number clock o None e = tt
taken_kept s number clock o (Some k) e =
    let x : systems.System = transitions.after_transition s (transitions.Mark number) in
    taken_packet s x clock k.packet (keeps_order s (transitions.Mark number) o tt) (once s (transitions.Mark number) tt)
    (all_at (λ q. systems.Among q.packet s.sent) s.cluster.bag.kept _ k o.sent e) k.packet.«from» k.packet.to refl refl

taken : (s : systems.System) (i : NodeInput) → refinements.IsOrderly s → IfTaken s (clusters.intake s.cluster i)
taken s (asked.Elect k clock) o = taken_for s s k (input.Elect clock) (λ n. not (nodes.is_leader n)) (nothing s) (λ n up e. elects s k n clock up)
taken s (asked.Beat k) o = taken_for s s k input.Beat nodes.is_leader (nothing s) (λ n up e. beats s k n up e)
taken s (asked.Append k clock bodies) o = taken_for s s k (input.Append clock bodies) nodes.is_leader (nothing s) (λ n up e. appends s k n clock bodies up e)
taken s (asked.Read k) o = taken_for s s k input.Read nodes.is_leader (nothing s) (λ n up e. reads s k n up e)
taken s (asked.Deliver number clock) o =
    by_test (IfTaken s) (bags.is_unhindered (bags.take_refusal s.cluster.bag (clusters.up_members s.cluster) number)) (clusters.intake_kept s.cluster number clock (bags.kept_at s.cluster.bag number)) None
    (λ e. taken_kept s number clock o (bags.kept_at s.cluster.bag number) refl) (λ e. tt)
taken s (asked.Crash k) o = tt
taken s (asked.Start k) o = tt

-- a system that transitions lead to, with this cluster
record Completes (s : systems.System) (c : clusters.Cluster) : Type 0 where
  system : systems.System
  fragment : Fragment s system
  same : system.cluster ≡ c

made_completes : (s : systems.System) (o : Option clusters.Intake) → IfTaken s o → Completes s (clusters.made_intake s.cluster o)
made_completes s None t = record { system = s; fragment = nothing s; same = refl }
made_completes s (Some d) t = record {
  system = made_system t.system d.number d.node d.input;
  fragment = joined s t.system (made_system t.system d.number d.node d.input) t.marked (makes t.system d.number d.node d.input t.up t.carried);
  same = ap (λ c. clusters.gains c d.number d.node (steps.stepped d.node d.input) (steps.out d.node d.input)) t.same;
}

halted_completes : (s : systems.System) (o : Option clusters.Intake) (saved added : ℕ) → IfTaken s o → Completes s (clusters.halted_intake s.cluster o saved added)
halted_completes s None saved added t = record { system = s; fragment = nothing s; same = refl }
halted_completes s (Some d) saved added t =
    let calls : List saving.Save = saving.calls_of (steps.out d.node d.input).saves in
    let m : clusters.Member = clusters.fallen_member d.node (saving.kept_after (nodes.kept_of d.node) calls saved added) in
    by_test (Completes s) (saving.may_fail calls saved added) (clusters.with_member d.cluster d.number m) s.cluster
    (λ e. record {
      system = systems.member_changed t.system d.number m;
      fragment = joined s t.system (systems.member_changed t.system d.number m) t.marked (halts t.system d.number d.node d.input saved added t.up t.carried);
      same = ap (λ c. clusters.with_member c d.number m) t.same;
    })
    (λ e. record { system = s; fragment = nothing s; same = refl })

-- an explicit crash, and a start
standing : (s : systems.System) (k : ℕ) (m : clusters.Member) (b : Bool) → lists.at_place s.cluster.members k ≡ Some m → m.is_up ≡ b → lists.at_place s.cluster.members k ≡ Some (record { is_up = b; node = m.node })
standing s k m b e f = e ∙ ap (λ u. Some (let a : clusters.Member = record { is_up = u; node = m.node } in a)) f

crashed_completes : (s : systems.System) (k : ℕ) (o : Option clusters.Member) → lists.at_place s.cluster.members k ≡ o → Completes s (clusters.crashed s.cluster k o)
crashed_completes s k None e = record { system = s; fragment = nothing s; same = refl }
crashed_completes s k (Some m) e =
    by_test (Completes s) m.is_up (clusters.with_member s.cluster k (clusters.fallen_member m.node (nodes.kept_of m.node))) s.cluster
    (λ u. record { system = systems.member_changed s k (clusters.fallen_member m.node (nodes.kept_of m.node)); fragment = once s (transitions.Crash k m.node) (standing s k m true e u); same = refl })
    (λ u. record { system = s; fragment = nothing s; same = refl })

started_completes : (s : systems.System) (k : ℕ) (o : Option clusters.Member) → lists.at_place s.cluster.members k ≡ o → Completes s (clusters.started s.cluster k o)
started_completes s k None e = record { system = s; fragment = nothing s; same = refl }
started_completes s k (Some m) e =
    let a : nodes.Node = nodes.restarted m.node.ballot.me m.node.ballot.nodes (nodes.kept_of m.node) in
    by_test (Completes s) m.is_up s.cluster (clusters.with_member s.cluster k (record { is_up = true; node = a }))
    (λ u. record { system = s; fragment = nothing s; same = refl })
    (λ u. record { system = systems.with_node s k a; fragment = once s (transitions.Start k m.node) (standing s k m false e u); same = refl })

completes : (s : systems.System) (r : RaftStep) → refinements.IsOrderly s → Completes s (clusters.happened s.cluster r)
completes s (step.Made (asked.Crash k)) o = crashed_completes s k (lists.at_place s.cluster.members k) refl
completes s (step.Made (asked.Start k)) o = started_completes s k (lists.at_place s.cluster.members k) refl
completes s (step.Made (asked.Elect k clock)) o = made_completes s (clusters.intake s.cluster (asked.Elect k clock)) (taken s (asked.Elect k clock) o)
completes s (step.Made (asked.Beat k)) o = made_completes s (clusters.intake s.cluster (asked.Beat k)) (taken s (asked.Beat k) o)
completes s (step.Made (asked.Append k clock bodies)) o = made_completes s (clusters.intake s.cluster (asked.Append k clock bodies)) (taken s (asked.Append k clock bodies) o)
completes s (step.Made (asked.Read k)) o = made_completes s (clusters.intake s.cluster (asked.Read k)) (taken s (asked.Read k) o)
completes s (step.Made (asked.Deliver number clock)) o = made_completes s (clusters.intake s.cluster (asked.Deliver number clock)) (taken s (asked.Deliver number clock) o)
completes s (step.Halt i saved added) o = halted_completes s (clusters.intake s.cluster i) saved added (taken s i o)

executes : (s a : systems.System) (c : clusters.Cluster) → refinements.IsOrderly s → Fragment s a → a.cluster ≡ c → refinements.Execution s c
executes s a c o l e = record {
  list = l.list;
  may = l.may;
  ends = ap (λ x. x.cluster) l.ends ∙ e;
  orderly = keeps_order_all s l.list o l.may;
}

pub step_executes : (s : systems.System) (r : RaftStep) → refinements.IsOrderly s → refinements.Execution s (clusters.happened s.cluster r)
step_executes s r o = let x = completes s r o in executes s x.system (clusters.happened s.cluster r) o x.fragment x.same

pub steps_execute : (s : systems.System) (rs : List RaftStep) → refinements.IsOrderly s → refinements.Execution s (clusters.all_happened s.cluster rs)
steps_execute s [] o = executes s s s.cluster o (nothing s) refl
steps_execute s (r ∷ rs) o =
    let x = step_executes s r o in
    let a : systems.System = transitions.after_transitions s x.list in
    let y : refinements.Execution a (clusters.all_happened a.cluster rs) = steps_execute a rs x.orderly in
    executes s (transitions.after_transitions a y.list) (clusters.all_happened (clusters.happened s.cluster r) rs) o
    (record { list = x.list ++ y.list; may = may_append s x.list y.list x.may y.may; ends = after_append s x.list y.list })
    (y.ends ∙ ap (λ c. clusters.all_happened c rs) x.ends)

pub run_executes : (n : ℕ) (rs : List RaftStep) → refinements.Execution (systems.new_system n) (clusters.all_happened (clusters.new_cluster n) rs)
run_executes n rs = steps_execute (systems.new_system n) rs (new_order n)
