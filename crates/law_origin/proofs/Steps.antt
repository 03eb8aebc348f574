-- Each step of a cluster keeps the origin of its entries.
use Rattle.std.proofs.Common.{◌≡◌, ℕ, zero, suc, ◌-◌, List, [], ◌∷◌, ◌++◌, length, take, drop, map, refl, ap, sym, ◌∙◌, subst, inl, inr}
use Rattle.std.specs.Prelude.{◌⊎◌, Bool, true, false, ◌&&◌, not, nat_lt, Option, Some, None, if◌then◌else◌}
use Rattle.std.specs.List.{AllByRecursion}
use Rattle.ax_types.specs.Places.{at_place, numbers_from}
use Rattle.ax_types.specs.declared.entries.Body.{Body}
use Rattle.ax_types.specs.declared.entries.Body.TheVariants as body
use Rattle.ax_types.specs.declared.entries.Entry.{Entry}
use Rattle.ax_types.specs.declared.ids.End.{End}
use Rattle.ax_types.specs.declared.ids.End.TheVariants as end
use Rattle.ax_types.specs.declared.packets.Packet.{Packet}
use Rattle.ax_types.specs.declared.raft.NodeInput.{NodeInput}
use Rattle.ax_types.specs.declared.raft.NodeInput.TheVariants as input
use Rattle.ax_types.specs.declared.raft.RaftInput.{RaftInput}
use Rattle.ax_types.specs.declared.raft.RaftInput.TheVariants as asked
use Rattle.ax_types.specs.declared.raft.RaftStep.{RaftStep}
use Rattle.ax_types.specs.declared.raft.RaftStep.TheVariants as step
use Rattle.spec_raft.specs.Majority.{cluster_of}
use Rattle.spec_node.specs.Node as nodes
use Rattle.spec_node.specs.NodeStep as steps
use Rattle.spec_node.specs.Saving as saving
use Rattle.spec_cluster.specs.Bag as bags
use Rattle.spec_cluster.specs.Cluster as clusters
use Rattle.law_agreement.specs.Agreement as laws
use Rattle.law_agreement.proofs.Tests.{both}
use Rattle.law_origin.specs.Origin.{IsOneOf, IsAskedFor, Asks, WasAsked, HasOrigin, entries_in, AllEntries, EntriesHaveOrigin}
use Rattle.law_origin.proofs.Each.{by_test, each_append, each_take, each_drop, each_map, each_at, each_change}
use Rattle.law_origin.proofs.Rules.{Brings, MayBring, did_brings, stepped_log, halted_log}

abbrev InPackets : (Entry → Type 0) → bags.KeptPacket → Type 0
InPackets P k = AllByRecursion P (entries_in k.packet.payload)

abbrev InLogs : (Entry → Type 0) → clusters.Member → Type 0
InLogs P m = AllByRecursion P m.node.log

bag_keeps : (P : Entry → Type 0) (bag : bags.Bag) (ps : List Packet) → AllByRecursion (InPackets P) bag.kept → AllByRecursion (λ p. AllByRecursion P (entries_in p.payload)) ps → AllByRecursion (InPackets P) (bags.with_packets bag ps).kept
bag_keeps P bag [] a b = a
bag_keeps P bag (p ∷ ps) a b =
    let all = bag.kept ++ record { is_marked = false; packet = p } ∷ [] in
    bag_keeps P (bags.with_packet bag p) ps (each_drop (InPackets P) (length all - bags.most_kept) all (each_append (InPackets P) bag.kept (record { is_marked = false; packet = p } ∷ []) a (b.0, tt))) b.1

committed_keeps : (P : Entry → Type 0) (committed : List Entry) (n : nodes.Node) → AllByRecursion P committed → AllByRecursion P n.log → AllByRecursion P (clusters.entries_so_far committed n)
committed_keeps P committed n a b = by_test (AllByRecursion P) (nat_lt (length committed) n.commit) (take n.commit n.log) committed (λ e. each_take P n.commit n.log b) (λ e. a)

member_keeps : (P : Entry → Type 0) (c : clusters.Cluster) (k : ℕ) (m : clusters.Member) → AllEntries P c → AllByRecursion P m.node.log → AllEntries P (clusters.with_member c k m)
member_keeps P c k m a b = record { logs = each_change (InLogs P) (λ old. m) c.members k (λ x h. b) a.logs; committed = a.committed; packets = a.packets }

-- an input that a node gets, with what it may bring
pub record Fits (P : Entry → Type 0) (d : clusters.Intake) : Type 0 where
  pub all : AllEntries P d.cluster
  pub log : AllByRecursion P d.node.log
  pub brings : MayBring P d.node d.input

abbrev FitsIf : (Entry → Type 0) → Option clusters.Intake → Type 0
FitsIf P None = Unit {0}
FitsIf P (Some d) = Fits P d

fits_at : (P : Entry → Type 0) (c : clusters.Cluster) (k : ℕ) (i : RaftInput) (o : Option clusters.Member) (test : nodes.Node → Bool) → at_place c.members k ≡ o → AllEntries P c → ((x : nodes.Node) → at_place c.members k ≡ Some (record { is_up = true; node = x }) → test x ≡ true → MayBring P x i) → FitsIf P (clusters.intake_at c k i o test)
fits_at P c k i None test is a f = tt
fits_at P c k i (Some m) test is a f =
    by_test (FitsIf P) (m.is_up && test m.node) (Some (record { cluster = c; number = k; node = m.node; input = i })) None
    (λ e.
    let b = both m.is_up (test m.node) e in
    record {
      all = a;
      log = each_at (InLogs P) c.members k m a.logs is;
      brings = f m.node (is ∙ ap (λ u. Some (let y : clusters.Member = record { is_up = u; node = m.node } in y)) b.0) b.1;
    })
    (λ e. tt)

fits_packet : (P : Entry → Type 0) (c : clusters.Cluster) (clock : ℕ) (p : Packet) (a b : End) → AllEntries P c → AllByRecursion P (entries_in p.payload) → FitsIf P (clusters.intake_packet c clock p a b)
fits_packet P c clock p (end.Node j) (end.Node k) all in_it = fits_at P c k (asked.Message j clock p.payload) (at_place c.members k) (λ n. true) refl all (λ x up is. in_it)
fits_packet P c clock p (end.Node j) (end.Client d) all in_it = tt
fits_packet P c clock p (end.Client d) b all in_it = tt

fits_kept : (P : Entry → Type 0) (c : clusters.Cluster) (number clock : ℕ) (o : Option bags.KeptPacket) → bags.kept_at c.bag number ≡ o → AllEntries P c → FitsIf P (clusters.intake_kept c number clock o)
fits_kept P c number clock None is a = tt
fits_kept P c number clock (Some s) is a =
    fits_packet P (record c { bag = bags.with_mark c.bag number }) clock s.packet s.packet.«from» s.packet.to
    (record { logs = a.logs; committed = a.committed; packets = each_change (InPackets P) (λ k. record k { is_marked = true }) c.bag.kept (number - bags.gone c.bag) (λ k h. h) a.packets })
    (each_at (InPackets P) c.bag.kept (number - bags.gone c.bag) s a.packets is)

-- entries made of bodies
entries_bring : (P : Entry → Type 0) (t time : ℕ) (bodies : List Body) → ((b : Body) → IsOneOf b bodies → P (record { term = t; time = time; body = b })) → AllByRecursion P (nodes.entries_of t time bodies)
entries_bring P t time [] f = tt
entries_bring P t time (b ∷ bodies) f = (f b (inl refl), entries_bring P t time bodies (λ d h. f d (inr h)))

fits : (P : Entry → Type 0) (c : clusters.Cluster) (i : NodeInput) → AllEntries P c → ((e : Entry) → IsAskedFor c i e → P e) → FitsIf P (clusters.intake c i)
fits P c (input.Elect k clock) a f = fits_at P c k (asked.Elect clock) (at_place c.members k) (λ n. not (nodes.is_leader n)) refl a (λ x up is. tt)
fits P c (input.Beat k) a f = fits_at P c k asked.Beat (at_place c.members k) nodes.is_leader refl a (λ x up is. tt)
fits P c (input.Append k clock bodies) a f =
    fits_at P c k (asked.Append clock bodies) (at_place c.members k) nodes.is_leader refl a
    (λ x up is time. entries_bring P x.ballot.term time bodies (λ b h. f (record { term = x.ballot.term; time = time; body = b }) (x, (up, is), refl, h)))
fits P c (input.Read k) a f = fits_at P c k asked.Read (at_place c.members k) nodes.is_leader refl a (λ x up is. tt)
fits P c (input.Deliver number clock) a f =
    by_test (FitsIf P) (bags.is_unhindered (bags.take_refusal c.bag (clusters.up_members c) number)) (clusters.intake_kept c number clock (bags.kept_at c.bag number)) None (λ e. fits_kept P c number clock (bags.kept_at c.bag number) refl a) (λ e. tt)
fits P c (input.Crash k) a f = tt
fits P c (input.Start k) a f = tt

made_keeps : (P : Entry → Type 0) (c : clusters.Cluster) (o : Option clusters.Intake) → ((e : Entry) → e.body ≡ body.Blank → P e) → AllEntries P c → FitsIf P o → AllEntries P (clusters.made_intake c o)
made_keeps P c None blank a h = a
made_keeps P c (Some d) blank a h =
    let b = did_brings P d.node d.input blank h.log h.brings in
    let log = stepped_log P d.node d.input h.log b in
    record {
      logs = each_change (InLogs P) (λ old. record { is_up = true; node = steps.stepped d.node d.input }) d.cluster.members d.number (λ x g. log) h.all.logs;
      committed = committed_keeps P d.cluster.committed (steps.stepped d.node d.input) h.all.committed log;
      packets = bag_keeps P d.cluster.bag (steps.did d.node d.input).packets h.all.packets b.packets;
    }

halted_keeps : (P : Entry → Type 0) (c : clusters.Cluster) (o : Option clusters.Intake) (saved added : ℕ) → ((e : Entry) → e.body ≡ body.Blank → P e) → AllEntries P c → FitsIf P o → AllEntries P (clusters.halted_intake c o saved added)
halted_keeps P c None saved added blank a h = a
halted_keeps P c (Some d) saved added blank a h =
    let calls = saving.calls_of (steps.out d.node d.input).saves in
    let m = clusters.fallen_member d.node (saving.kept_after (nodes.kept_of d.node) calls saved added) in
    by_test (AllEntries P) (saving.may_fail calls saved added) (clusters.with_member d.cluster d.number m) c
    (λ e. member_keeps P d.cluster d.number m h.all (halted_log P d.node d.input saved added h.log (did_brings P d.node d.input blank h.log h.brings)))
    (λ e. a)

crashed_keeps : (P : Entry → Type 0) (c : clusters.Cluster) (k : ℕ) (o : Option clusters.Member) → at_place c.members k ≡ o → AllEntries P c → AllEntries P (clusters.crashed c k o)
crashed_keeps P c k None is a = a
crashed_keeps P c k (Some m) is a =
    let f = clusters.fallen_member m.node (nodes.kept_of m.node) in
    by_test (AllEntries P) m.is_up (clusters.with_member c k f) c (λ e. member_keeps P c k f a (each_at (InLogs P) c.members k m a.logs is)) (λ e. a)

started_keeps : (P : Entry → Type 0) (c : clusters.Cluster) (k : ℕ) (o : Option clusters.Member) → at_place c.members k ≡ o → AllEntries P c → AllEntries P (clusters.started c k o)
started_keeps P c k None is a = a
started_keeps P c k (Some m) is a =
    let u : clusters.Member = record { is_up = true; node = nodes.restarted m.node.ballot.me m.node.ballot.nodes (nodes.kept_of m.node) } in
    by_test (AllEntries P) m.is_up c (clusters.with_member c k u) (λ e. a) (λ e. member_keeps P c k u a (each_at (InLogs P) c.members k m a.logs is))

step_keeps : (P : Entry → Type 0) (c : clusters.Cluster) (r : RaftStep) → ((e : Entry) → e.body ≡ body.Blank → P e) → AllEntries P c → ((e : Entry) → Asks c r e → P e) → AllEntries P (clusters.happened c r)
step_keeps P c (step.Made (input.Crash k)) blank a f = crashed_keeps P c k (at_place c.members k) refl a
step_keeps P c (step.Made (input.Start k)) blank a f = started_keeps P c k (at_place c.members k) refl a
step_keeps P c (step.Made (input.Elect k clock)) blank a f = made_keeps P c (clusters.intake c (input.Elect k clock)) blank a (fits P c (input.Elect k clock) a f)
step_keeps P c (step.Made (input.Beat k)) blank a f = made_keeps P c (clusters.intake c (input.Beat k)) blank a (fits P c (input.Beat k) a f)
step_keeps P c (step.Made (input.Append k clock bodies)) blank a f = made_keeps P c (clusters.intake c (input.Append k clock bodies)) blank a (fits P c (input.Append k clock bodies) a f)
step_keeps P c (step.Made (input.Read k)) blank a f = made_keeps P c (clusters.intake c (input.Read k)) blank a (fits P c (input.Read k) a f)
step_keeps P c (step.Made (input.Deliver number clock)) blank a f = made_keeps P c (clusters.intake c (input.Deliver number clock)) blank a (fits P c (input.Deliver number clock) a f)
step_keeps P c (step.Halt i saved added) blank a f = halted_keeps P c (clusters.intake c i) saved added blank a (fits P c i a f)

all_keep : (P : Entry → Type 0) (c : clusters.Cluster) (rs : List RaftStep) → ((e : Entry) → e.body ≡ body.Blank → P e) → AllEntries P c → ((e : Entry) → WasAsked c rs e → P e) → AllEntries P (clusters.all_happened c rs)
all_keep P c [] blank a f = a
all_keep P c (r ∷ rs) blank a f = all_keep P (clusters.happened c r) rs blank (step_keeps P c r blank a (λ e h. f e (inl h))) (λ e h. f e (inr h))

new_keeps : (P : Entry → Type 0) (n : ℕ) → AllEntries P (clusters.new_cluster n)
new_keeps P n = record { logs = each_map (InLogs P) (λ k. record { is_up = true; node = nodes.new_node k n }) (cluster_of n) (λ k. tt); committed = tt; packets = tt }

pub entries_have_origin : EntriesHaveOrigin
entries_have_origin n rs = all_keep (HasOrigin n rs) (clusters.new_cluster n) rs (λ e h. inl h) (new_keeps (HasOrigin n rs) n) (λ e h. inr h)
