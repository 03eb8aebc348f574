-- After every list of steps the nodes have their numbers, and the packets go between them.
use Rattle.std.proofs.Common.{◌≡◌, ℕ, zero, suc, ◌+◌, ◌-◌, ◌≤◌, List, [], ◌∷◌, ◌++◌, length, map, refl, ap, sym, ◌∙◌, subst, arith}
use Rattle.std.specs.Prelude.{◌≢◌, Bool, true, false, ◌&&◌, not, Option, Some, None, slice_get, if◌then◌else◌}
use Rattle.std.specs.List.{AllByRecursion}
use Rattle.ax_types.specs.Places as lists
use Rattle.ax_types.specs.declared.entries.Entry.{Entry}
use Rattle.ax_types.specs.declared.entries.Loaded.{Loaded}
use Rattle.ax_types.specs.declared.ids.End.{End}
use Rattle.ax_types.specs.declared.ids.End.TheVariants as end
use Rattle.ax_types.specs.declared.packets.Packet.{Packet}
use Rattle.ax_types.specs.declared.raft.NodeInput.{NodeInput}
use Rattle.ax_types.specs.declared.raft.NodeInput.TheVariants as input
use Rattle.ax_types.specs.declared.raft.RaftInput.{RaftInput}
use Rattle.ax_types.specs.declared.raft.RaftInput.TheVariants as asked
use Rattle.ax_types.specs.declared.raft.RaftStep.{RaftStep}
use Rattle.ax_types.specs.declared.raft.RaftStep.TheVariants as step
use Rattle.spec_raft.specs.Majority as majorities
use Rattle.spec_raft.specs.Positions as positions
use Rattle.spec_raft.proofs.Placing.{length-change_place}
use Rattle.spec_node.specs.Node as nodes
use Rattle.spec_node.specs.NodeStep as steps
use Rattle.spec_node.specs.Saving as saving
use Rattle.spec_cluster.specs.Bag as bags
use Rattle.spec_cluster.specs.Cluster as clusters
use Rattle.spec_cluster.proofs.Joined.{all_happened-append}
use Rattle.law_refinement.proofs.Tests.{by_test, both}
use Rattle.law_agreement.proofs.Members.{changing, place_within, some_same, none_some}
use Rattle.law_agreement.proofs.Agreement.{committed_grows}
use Rattle.law_origin.proofs.Each.{each_append, each_drop, each_at, each_change}
use Rattle.raft_world.specs.Askable.{IsAskable}
use Rattle.raft_world.specs.Between.{IsBetween, IsPassed, IsNamed, IsJoined, GrowsAtEnd, IsRunnable}
use Rattle.raft_world.specs.Reached.{IsRunOf}
use Rattle.raft_world.proofs.Senders.{IsFrom, Stays, MayCome, did_stays}

abbrev Goes : ℕ → Packet → Type 0
Goes n p = IsBetween n p.«from» p.to

goes_from : (n j : ℕ) (p : Packet) → j ≤ n → IsFrom j p → Goes n p
goes_from n j p le (k, ef, et, ne) = subst (λ e. IsBetween n e p.to) (sym ef) (subst (λ e. IsBetween n (end.Node j) e) (sym et) (ne, le))

each_goes : (n j : ℕ) (ps : List Packet) → j ≤ n → AllByRecursion (IsFrom j) ps → AllByRecursion (Goes n) ps
each_goes n j [] le a = tt
each_goes n j (p ∷ ps) le a = (goes_from n j p le a.0, each_goes n j ps le a.1)

bag_keeps : (n : ℕ) (bag : bags.Bag) (ps : List Packet) → AllByRecursion (IsPassed n) bag.kept → AllByRecursion (Goes n) ps → AllByRecursion (IsPassed n) (bags.with_packets bag ps).kept
bag_keeps n bag [] a b = a
bag_keeps n bag (p ∷ ps) a b =
    let all = bag.kept ++ record { is_marked = false; packet = p } ∷ [] in
    bag_keeps n (bags.with_packet bag p) ps (each_drop (IsPassed n) (length all - bags.most_kept) all (each_append (IsPassed n) bag.kept (record { is_marked = false; packet = p } ∷ []) a (b.0, tt))) b.1

-- a member changes, and has its number
member_keeps : (n : ℕ) (c : clusters.Cluster) (k : ℕ) (old m : clusters.Member) → lists.at_place c.members k ≡ Some old → IsNamed k n m.node → IsJoined n c → IsJoined n (clusters.with_member c k m)
member_keeps n c k old m is h j = record {
  long = length-change_place (λ o. m) c.members k ∙ j.long;
  members = changing (λ i x. IsNamed i n x.node) c.members k old m is h (λ i x ne at. j.members i x at);
  packets = j.packets;
}

-- an input that a node gets
pub record Fits (n : ℕ) (d : clusters.Intake) : Type 0 where
  pub joined : IsJoined n d.cluster
  pub there : lists.at_place d.cluster.members d.number ≡ Some (record { is_up = true; node = d.node })
  pub asks : IsAskable d.node d.input

abbrev pub FitsIf : ℕ → Option clusters.Intake → Type 0
FitsIf n None = Unit {0}
FitsIf n (Some d) = Fits n d

fits_at : (n : ℕ) (c : clusters.Cluster) (k : ℕ) (i : RaftInput) (o : Option clusters.Member) (test : nodes.Node → Bool) → lists.at_place c.members k ≡ o → IsJoined n c
    → ((x : nodes.Node) → lists.at_place c.members k ≡ Some (record { is_up = true; node = x }) → test x ≡ true → IsAskable x i) → FitsIf n (clusters.intake_at c k i o test)
fits_at n c k i None test is j f = tt
fits_at n c k i (Some m) test is j f =
    by_test (FitsIf n) (m.is_up && test m.node) (Some (record { cluster = c; number = k; node = m.node; input = i })) None
    (λ e.
    let b = both m.is_up (test m.node) e in
    let up : lists.at_place c.members k ≡ Some (record { is_up = true; node = m.node }) = is ∙ ap (λ u. Some (let y : clusters.Member = record { is_up = u; node = m.node } in y)) b.0 in
    record { joined = j; there = up; asks = f m.node up b.1 })
    (λ e. tt)

asks_packet : (n j k clock : ℕ) (c : clusters.Cluster) (p : Packet) (x : nodes.Node) → IsJoined n c → IsBetween n (end.Node j) (end.Node k) → lists.at_place c.members k ≡ Some (record { is_up = true; node = x }) → IsAskable x (asked.Message j clock p.payload)
asks_packet n j k clock c p x h b up =
    let a = h.members k (record { is_up = true; node = x }) up in
    ((λ (z : j ≡ x.ballot.me). b.0 (z ∙ a.me)), subst (λ s. j ≤ s) (sym a.size) b.1)

fits_packet : (n : ℕ) (c : clusters.Cluster) (clock : ℕ) (p : Packet) (a b : End) → IsJoined n c → IsBetween n a b → FitsIf n (clusters.intake_packet c clock p a b)
fits_packet n c clock p (end.Node j) (end.Node k) h b = fits_at n c k (asked.Message j clock p.payload) (lists.at_place c.members k) (λ x. true) refl h (λ x up is. asks_packet n j k clock c p x h b up)
fits_packet n c clock p (end.Node j) (end.Client d) h b = tt
fits_packet n c clock p (end.Client d) e h b = tt

fits_kept : (n : ℕ) (c : clusters.Cluster) (number clock : ℕ) (o : Option bags.KeptPacket) → bags.kept_at c.bag number ≡ o → IsJoined n c → FitsIf n (clusters.intake_kept c number clock o)
fits_kept n c number clock None is j = tt
fits_kept n c number clock (Some s) is j =
    fits_packet n (record c { bag = bags.with_mark c.bag number }) clock s.packet s.packet.«from» s.packet.to
    (record { long = j.long; members = j.members; packets = each_change (IsPassed n) (λ k. record k { is_marked = true }) c.bag.kept (number - bags.gone c.bag) (λ k h. h) j.packets })
    (each_at (IsPassed n) c.bag.kept (number - bags.gone c.bag) s j.packets is)

not_on : (b : Bool) → not b ≡ true → b ≡ false
not_on true e = cc (e)
not_on false e = refl

pub fits : (n : ℕ) (c : clusters.Cluster) (i : NodeInput) → IsJoined n c → FitsIf n (clusters.intake c i)
fits n c (input.Elect k clock) j = fits_at n c k (asked.Elect clock) (lists.at_place c.members k) (λ x. not (nodes.is_leader x)) refl j (λ x up is. not_on (nodes.is_leader x) is)
fits n c (input.Beat k) j = fits_at n c k asked.Beat (lists.at_place c.members k) nodes.is_leader refl j (λ x up is. is)
fits n c (input.Append k clock bodies) j = fits_at n c k (asked.Append clock bodies) (lists.at_place c.members k) nodes.is_leader refl j (λ x up is. is)
fits n c (input.Read k) j = fits_at n c k asked.Read (lists.at_place c.members k) nodes.is_leader refl j (λ x up is. is)
fits n c (input.Deliver number clock) j =
    by_test (FitsIf n) (bags.is_unhindered (bags.take_refusal c.bag (clusters.up_members c) number)) (clusters.intake_kept c number clock (bags.kept_at c.bag number)) None (λ e. fits_kept n c number clock (bags.kept_at c.bag number) refl j) (λ e. tt)
fits n c (input.Crash k) j = tt
fits n c (input.Start k) j = tt

comes : (me n : ℕ) (x : nodes.Node) (i : RaftInput) → IsNamed me n x → IsAskable x i → MayCome me i
comes me n x (asked.Elect clock) h a = tt
comes me n x asked.Beat h a = tt
comes me n x (asked.Append clock bodies) h a = tt
comes me n x asked.Read h a = tt
comes me n x (asked.Message from clock p) h a = λ (z : me ≡ from). a.0 (sym z ∙ sym h.me)

made_keeps : (n : ℕ) (c : clusters.Cluster) (o : Option clusters.Intake) → IsJoined n c → FitsIf n o → IsJoined n (clusters.made_intake c o)
made_keeps n c None j h = j
made_keeps n c (Some d) j h =
    let old : clusters.Member = record { is_up = true; node = d.node } in
    let new : clusters.Member = record { is_up = true; node = steps.stepped d.node d.input } in
    let named = h.joined.members d.number old h.there in
    let b = did_stays d.number n d.node d.input named (comes d.number n d.node d.input named h.asks) in
    let within : d.number ≤ n = subst (λ l. d.number ≤ l) h.joined.long (place_within d.cluster.members d.number old h.there).1 in
    record {
      long = length-change_place (λ o. new) d.cluster.members d.number ∙ h.joined.long;
      members = changing (λ i x. IsNamed i n x.node) d.cluster.members d.number old new h.there (record { me = b.named.me; size = b.named.size }) (λ i x ne at. h.joined.members i x at);
      packets = bag_keeps n d.cluster.bag (steps.did d.node d.input).packets h.joined.packets (each_goes n d.number (steps.did d.node d.input).packets within b.packets);
    }

halted_keeps : (n : ℕ) (c : clusters.Cluster) (o : Option clusters.Intake) (saved added : ℕ) → IsJoined n c → FitsIf n o → IsJoined n (clusters.halted_intake c o saved added)
halted_keeps n c None saved added j h = j
halted_keeps n c (Some d) saved added j h =
    let calls = saving.calls_of (steps.out d.node d.input).saves in
    let m = clusters.fallen_member d.node (saving.kept_after (nodes.kept_of d.node) calls saved added) in
    let old : clusters.Member = record { is_up = true; node = d.node } in
    let named = h.joined.members d.number old h.there in
    by_test (IsJoined n) (saving.may_fail calls saved added) (clusters.with_member d.cluster d.number m) c
    (λ e. member_keeps n d.cluster d.number old m h.there (record { me = named.me; size = named.size }) h.joined)
    (λ e. j)

crashed_keeps : (n : ℕ) (c : clusters.Cluster) (k : ℕ) (o : Option clusters.Member) → lists.at_place c.members k ≡ o → IsJoined n c → IsJoined n (clusters.crashed c k o)
crashed_keeps n c k None is j = j
crashed_keeps n c k (Some m) is j =
    let f = clusters.fallen_member m.node (nodes.kept_of m.node) in
    let named = j.members k m is in
    by_test (IsJoined n) m.is_up (clusters.with_member c k f) c (λ e. member_keeps n c k m f is (record { me = named.me; size = named.size }) j) (λ e. j)

started_keeps : (n : ℕ) (c : clusters.Cluster) (k : ℕ) (o : Option clusters.Member) → lists.at_place c.members k ≡ o → IsJoined n c → IsJoined n (clusters.started c k o)
started_keeps n c k None is j = j
started_keeps n c k (Some m) is j =
    let u : clusters.Member = record { is_up = true; node = nodes.restarted m.node.ballot.me m.node.ballot.nodes (nodes.kept_of m.node) } in
    let named = j.members k m is in
    by_test (IsJoined n) m.is_up c (clusters.with_member c k u) (λ e. j) (λ e. member_keeps n c k m u is (record { me = named.me; size = named.size }) j)

step_keeps : (n : ℕ) (c : clusters.Cluster) (r : RaftStep) → IsJoined n c → IsJoined n (clusters.happened c r)
step_keeps n c (step.Made (input.Crash k)) j = crashed_keeps n c k (lists.at_place c.members k) refl j
step_keeps n c (step.Made (input.Start k)) j = started_keeps n c k (lists.at_place c.members k) refl j
step_keeps n c (step.Made (input.Elect k clock)) j = made_keeps n c (clusters.intake c (input.Elect k clock)) j (fits n c (input.Elect k clock) j)
step_keeps n c (step.Made (input.Beat k)) j = made_keeps n c (clusters.intake c (input.Beat k)) j (fits n c (input.Beat k) j)
step_keeps n c (step.Made (input.Append k clock bodies)) j = made_keeps n c (clusters.intake c (input.Append k clock bodies)) j (fits n c (input.Append k clock bodies) j)
step_keeps n c (step.Made (input.Read k)) j = made_keeps n c (clusters.intake c (input.Read k)) j (fits n c (input.Read k) j)
step_keeps n c (step.Made (input.Deliver number clock)) j = made_keeps n c (clusters.intake c (input.Deliver number clock)) j (fits n c (input.Deliver number clock) j)
step_keeps n c (step.Halt i saved added) j = halted_keeps n c (clusters.intake c i) saved added j (fits n c i j)

all_keep : (n : ℕ) (c : clusters.Cluster) (rs : List RaftStep) → IsJoined n c → IsJoined n (clusters.all_happened c rs)
all_keep n c [] j = j
all_keep n c (r ∷ rs) j = all_keep n (clusters.happened c r) rs (step_keeps n c r j)

-- at the beginning
new_at : (n a : ℕ) (count i : ℕ) (m : clusters.Member) → slice_get (map (λ k. let y : clusters.Member = record { is_up = true; node = nodes.new_node k n } in y) (lists.numbers_from a count)) i ≡ Some m → IsNamed (a + i) n m.node
new_at n a zero i m e = absurd (none_some m e)
new_at n a (suc count) zero m e =
    let s : m ≡ record { is_up = true; node = nodes.new_node a n } = sym (some_same (record { is_up = true; node = nodes.new_node a n }) m e) in
    subst (λ (x : clusters.Member). IsNamed (a + zero) n x.node) (sym s) (record { me = omega arith; size = refl })
new_at n a (suc count) (suc i) m e =
    let one : suc a + i ≡ a + suc i = omega arith in
    subst (λ k. IsNamed k n m.node) one (new_at n (suc a) count i m e)

new_named : (n k : ℕ) (m : clusters.Member) → lists.at_place (clusters.new_cluster n).members k ≡ Some m → IsNamed k n m.node
new_named n zero m e = absurd (none_some m e)
new_named n (suc i) m e = let one : 1 + i ≡ suc i = omega arith in subst (λ k. IsNamed k n m.node) one (new_at n 1 n i m e)

new_long : (n a count : ℕ) → length (map (λ k. let y : clusters.Member = record { is_up = true; node = nodes.new_node k n } in y) (lists.numbers_from a count)) ≡ count
new_long n a zero = refl
new_long n a (suc count) = ap suc (new_long n (suc a) count)

new_joined : (n : ℕ) → IsJoined n (clusters.new_cluster n)
new_joined n = record { long = new_long n 1 n; members = new_named n; packets = tt }

append_none : {X : Type 0} (xs : List X) → xs ≡ xs ++ []
append_none [] = refl
append_none (x ∷ xs) = ap (λ ys. x ∷ ys) (append_none xs)

-- what is committed grows by each step
grows_by : (n : ℕ) (rs : List RaftStep) (r : RaftStep) → GrowsAtEnd (clusters.committed_after n rs) (clusters.happened (clusters.all_happened (clusters.new_cluster n) rs) r).committed
grows_by n rs r =
    let g = committed_grows n rs (r ∷ []) in
    (g.0, sym (ap (λ c. c.committed) (all_happened-append (clusters.new_cluster n) rs (r ∷ []))) ∙ g.1)

grows_with : (n : ℕ) (rs : List RaftStep) (i : NodeInput) → let c = clusters.all_happened (clusters.new_cluster n) rs in GrowsAtEnd c.committed (clusters.made_intake c (clusters.intake c i)).committed
grows_with n rs (input.Elect k clock) = grows_by n rs (step.Made (input.Elect k clock))
grows_with n rs (input.Beat k) = grows_by n rs (step.Made (input.Beat k))
grows_with n rs (input.Append k clock bodies) = grows_by n rs (step.Made (input.Append k clock bodies))
grows_with n rs (input.Read k) = grows_by n rs (step.Made (input.Read k))
grows_with n rs (input.Deliver number clock) = grows_by n rs (step.Made (input.Deliver number clock))
grows_with n rs (input.Crash k) = ([], append_none (clusters.committed_after n rs))
grows_with n rs (input.Start k) = ([], append_none (clusters.committed_after n rs))

pub reached_sound : (n : ℕ) (c : clusters.Cluster) → IsRunOf n c → IsRunnable n c
reached_sound n c r = subst (IsRunnable n) r.leads_here (record { joined = all_keep n (clusters.new_cluster n) r.steps (new_joined n); grows = grows_with n r.steps })

-- and another step leads on
pub reached_more : (n : ℕ) (c : clusters.Cluster) (s : RaftStep) → IsRunOf n c → IsRunOf n (clusters.happened c s)
reached_more n c s r = record {
  steps = r.steps ++ s ∷ [];
  leads_here = all_happened-append (clusters.new_cluster n) r.steps (s ∷ []) ∙ ap (λ d. clusters.happened d s) r.leads_here;
}

pub run_after : (n : ℕ) (c d : clusters.Cluster) (s : RaftStep) → IsRunOf n c → d ≡ clusters.happened c s → IsRunOf n d
run_after n c d s r e = subst (IsRunOf n) (sym e) (reached_more n c s r)

-- by which what is committed grows
pub run_grows : (n : ℕ) (c d : clusters.Cluster) (s : RaftStep) → IsRunOf n c → d ≡ clusters.happened c s → GrowsAtEnd c.committed d.committed
run_grows n c d s r e =
    let g : GrowsAtEnd c.committed (clusters.happened c s).committed = subst (λ (x : clusters.Cluster). GrowsAtEnd x.committed (clusters.happened x s).committed) r.leads_here (grows_by n r.steps s) in
    subst (λ (x : clusters.Cluster). GrowsAtEnd c.committed x.committed) (sym e) g
