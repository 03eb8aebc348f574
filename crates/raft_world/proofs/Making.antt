-- What the parts of a step make of a cluster is what the definitions make of it.
use Rattle.std.proofs.Common.{◌≡◌, ℕ, zero, suc, ◌-◌, ◌≤◌, List, [], ◌∷◌, ◌++◌, length, refl, ap, sym, ◌∙◌, subst}
use Rattle.std.specs.Prelude.{Bool, true, false, max, Option, Some, None, if◌then◌else◌}
use Rattle.std.specs.Option.{option_map}
use Rattle.ax_types.specs.Places as lists
use Rattle.ax_types.specs.declared.entries.Loaded.{Loaded}
use Rattle.ax_types.specs.declared.raft.NodeInput.{NodeInput}
use Rattle.ax_types.specs.declared.raft.RaftInput.{RaftInput}
use Rattle.ax_types.specs.declared.raft.Out.{Out}
use Rattle.spec_raft.specs.Positions as positions
use Rattle.spec_raft.proofs.Placing.{at_place-changed, length-change_place}
use Rattle.spec_node.specs.Node as nodes
use Rattle.spec_node.specs.NodeStep as steps
use Rattle.spec_node.specs.Saving as saving
use Rattle.spec_cluster.specs.Bag as bags
use Rattle.spec_cluster.specs.Cluster as clusters
use Rattle.law_agreement.proofs.Members.{some_same, none_some, place_within}
use Rattle.raft_world.specs.Askable.{IsAskable, IsAskableAt}
use Rattle.raft_world.specs.Between.{GrowsAtEnd, IsRunnable}
use Rattle.raft_world.specs.Gained.{point_of, taken_at, gained}
use Rattle.raft_world.specs.Paired.{fallen, risen, restarted_now}
use Rattle.raft_world.specs.Taking.{marked, IsFree, IsIntake, TakesAs}
use Rattle.raft_world.specs.declared.history.ReadPoint.{ReadPoint}
use Rattle.raft_world.specs.declared.intakes.Intake.{Intake}
use Rattle.raft_world.proofs.Between.{Fits, FitsIf, fits}
use Rattle.raft_world.proofs.Pairing.{change_as, change_still, change_none}

-- what is read at a place where something stands
pub read_at : {X Y : Type 0} (f : X → Y) (o : Option X) (x : X) (y : Y) → o ≡ Some x → option_map f o ≡ Some y → y ≡ f x
read_at f o x y e h = some_same y (f x) (sym h ∙ ap (option_map f) e)

-- the node that takes an input is one of the cluster
pub taken_within : (c : clusters.Cluster) (o : Option clusters.Intake) (t : Intake) → IsIntake c o t → t.node ≤ length c.members
taken_within c o t h = (place_within c.members t.node h.member h.there).1

-- the intake as the definitions have it
abbrev pub intake_of : clusters.Cluster → Intake → nodes.Node → clusters.Intake
intake_of c t n = record { cluster = record c { bag = marked c.bag t.packet }; number = t.node; node = n; input = t.input }

fits_asks : (n : ℕ) (o : Option clusters.Intake) (d : clusters.Intake) → FitsIf n o → o ≡ Some d → IsAskable d.node d.input
fits_asks n o d f e = let g : FitsIf n (Some d) = subst (FitsIf n) e f in g.asks

-- and may be asked
pub taken_asks : (n : ℕ) (c : clusters.Cluster) (i : NodeInput) (t : Intake) → IsRunnable n c → IsIntake c (clusters.intake c i) t → IsAskableAt (lists.at_place c.members t.node) t.input
taken_asks n c i t s h =
    let a : IsAskable h.member.node t.input = fits_asks n (clusters.intake c i) (intake_of c t h.member.node) (fits n c i s.joined) h.same in
    subst (λ o. IsAskableAt o t.input) (sym h.there) (h.up, a)

pub taken_asks_node : (n : ℕ) (c : clusters.Cluster) (i : NodeInput) (t : Intake) (x : nodes.Node) → IsRunnable n c → IsIntake c (clusters.intake c i) t → option_map (λ (m : clusters.Member). m.node) (lists.at_place c.members t.node) ≡ Some x → IsAskable x t.input
taken_asks_node n c i t x s h e =
    let a : IsAskable h.member.node t.input = fits_asks n (clusters.intake c i) (intake_of c t h.member.node) (fits n c i s.joined) h.same in
    subst (λ y. IsAskable y t.input) (sym (read_at (λ (m : clusters.Member). m.node) (lists.at_place c.members t.node) h.member x h.there e)) a

-- the members after the node made its step
abbrev pub stepping : RaftInput → clusters.Member → clusters.Member
stepping i m = record m { node = steps.stepped m.node i }

stepped_at : (c : clusters.Cluster) (o : Option clusters.Intake) (t : Intake) (ms : List clusters.Member) → IsIntake c o t → (e : ms ≡ positions.change_place (stepping t.input) c.members t.node)
    → (h : IsIntake c o t) → lists.at_place ms t.node ≡ Some (stepping t.input h.member)
stepped_at c o t ms g e h = ap (λ xs. lists.at_place xs t.node) e ∙ at_place-changed (stepping t.input) c.members t.node ∙ ap (option_map (stepping t.input)) h.there

pub stepped_within : (c : clusters.Cluster) (o : Option clusters.Intake) (t : Intake) (ms : List clusters.Member) → IsIntake c o t → ms ≡ positions.change_place (stepping t.input) c.members t.node → t.node ≤ length ms
stepped_within c o t ms h e = subst (λ l. t.node ≤ l) (sym (ap length e ∙ length-change_place (stepping t.input) c.members t.node)) (taken_within c o t h)

-- what is committed grows by its step
pub taken_grows : (n : ℕ) (c : clusters.Cluster) (i : NodeInput) (t : Intake) (ms : List clusters.Member) (m : clusters.Member) → IsRunnable n c → IsIntake c (clusters.intake c i) t → ms ≡ positions.change_place (stepping t.input) c.members t.node
    → lists.at_place ms t.node ≡ Some m → GrowsAtEnd c.committed (clusters.entries_so_far c.committed m.node)
taken_grows n c i t ms m s h e at =
    let g : GrowsAtEnd c.committed (clusters.made_intake c (Some (intake_of c t h.member.node))).committed = subst (λ o. GrowsAtEnd c.committed (clusters.made_intake c o).committed) h.same (s.grows i) in
    let a : stepping t.input h.member ≡ m = some_same (stepping t.input h.member) m (sym (stepped_at c (clusters.intake c i) t ms h e h) ∙ at) in
    subst (λ (x : clusters.Member). GrowsAtEnd c.committed (clusters.entries_so_far c.committed x.node)) a g

taken_same : (k : ℕ) (n : nodes.Node) (committed : ℕ) (o : Option ℕ) → taken_at k (point_of n) committed o ≡ clusters.taken_by k n committed o
taken_same k n committed None = refl
taken_same k n committed (Some a) = refl

-- a step that is made
pub made_is : (c : clusters.Cluster) (o : Option clusters.Intake) (t : Intake) (ms : List clusters.Member) (bag : bags.Bag) (before : ReadPoint) (out : Out) (new : clusters.Cluster) → IsIntake c o t
    → ms ≡ positions.change_place (stepping t.input) c.members t.node → bag ≡ marked c.bag t.packet
    → option_map (λ (m : clusters.Member). point_of m.node) (lists.at_place c.members t.node) ≡ Some before
    → option_map (λ (m : clusters.Member). steps.out m.node t.input) (lists.at_place c.members t.node) ≡ Some out
    → ((m : clusters.Member) → lists.at_place ms t.node ≡ Some m → new ≡ gained (record c { members = ms; bag = bag }) t.node before m.node out)
    → new ≡ clusters.made_intake c o
made_is c o t ms bag before out new h ems ebag ebefore eout enew =
    let i : RaftInput = t.input in
    let n : nodes.Node = h.member.node in
    let after : nodes.Node = steps.stepped n i in
    let made : List clusters.Member = positions.change_place (λ old. record { is_up = true; node = after }) c.members t.node in
    let here : ms ≡ made = ems ∙ change_as (stepping i) (λ old. record { is_up = true; node = after }) c.members t.node h.member h.there (λ j. record { is_up = h.up j; node = after }) in
    let point : before ≡ point_of n = read_at (λ (m : clusters.Member). point_of m.node) (lists.at_place c.members t.node) h.member before h.there ebefore in
    let gives : out ≡ steps.out n i = read_at (λ (m : clusters.Member). steps.out m.node i) (lists.at_place c.members t.node) h.member out h.there eout in
    enew (stepping i h.member) (stepped_at c o t ms h ems h)
    ∙ (λ j. gained (record c { members = here j; bag = ebag j }) t.node (point j) after (gives j))
    ∙ ap (λ ts. record (gained (record c { members = made; bag = marked c.bag t.packet }) t.node (point_of n) after (steps.out n i)) { takens = c.takens ++ ts }) (taken_same t.node n (length c.committed) (steps.out n i).reached)
    ∙ sym (ap (clusters.made_intake c) h.same)

-- a step that halts: where the store cannot fail so, nothing is changed
pub halted_not : (c : clusters.Cluster) (o : Option clusters.Intake) (t : Intake) (x : nodes.Node) (out : Out) (saved added : ℕ) → IsIntake c o t → option_map (λ (m : clusters.Member). m.node) (lists.at_place c.members t.node) ≡ Some x
    → out ≡ steps.out x t.input → saving.may_fail (saving.calls_of out.saves) saved added ≡ false → c ≡ clusters.halted_intake c o saved added
halted_not c o t x out saved added h ex eout cannot =
    let same : x ≡ h.member.node = read_at (λ (m : clusters.Member). m.node) (lists.at_place c.members t.node) h.member x h.there ex in
    let gives : out ≡ steps.out h.member.node t.input = eout ∙ ap (λ y. steps.out y t.input) same in
    let d : clusters.Intake = intake_of c t h.member.node in
    let calls = saving.calls_of (steps.out d.node d.input).saves in
    let off : saving.may_fail calls saved added ≡ false = sym (ap (λ (y : Out). saving.may_fail (saving.calls_of y.saves) saved added) gives) ∙ cannot in
    sym (ap (λ y. clusters.halted_intake c y saved added) h.same
    ∙ ap (λ b. if b then clusters.with_member d.cluster d.number (clusters.fallen_member d.node (saving.kept_after (nodes.kept_of d.node) calls saved added)) else c) off)

abbrev pub halting : Out → ℕ → ℕ → clusters.Member → clusters.Member
halting out saved added m = clusters.fallen_member m.node (saving.kept_after (nodes.kept_of m.node) (saving.calls_of out.saves) saved added)

pub halted_is : (c : clusters.Cluster) (o : Option clusters.Intake) (t : Intake) (x : nodes.Node) (out : Out) (saved added : ℕ) (ms : List clusters.Member) (bag : bags.Bag) → IsIntake c o t → option_map (λ (m : clusters.Member). m.node) (lists.at_place c.members t.node) ≡ Some x
    → out ≡ steps.out x t.input → saving.may_fail (saving.calls_of out.saves) saved added ≡ true
    → ms ≡ positions.change_place (halting out saved added) c.members t.node → bag ≡ marked c.bag t.packet
    → record c { members = ms; bag = bag } ≡ clusters.halted_intake c o saved added
halted_is c o t x out saved added ms bag h ex eout can ems ebag =
    let same : x ≡ h.member.node = read_at (λ (m : clusters.Member). m.node) (lists.at_place c.members t.node) h.member x h.there ex in
    let gives : out ≡ steps.out h.member.node t.input = eout ∙ ap (λ y. steps.out y t.input) same in
    let d : clusters.Intake = intake_of c t h.member.node in
    let calls = saving.calls_of (steps.out d.node d.input).saves in
    let m : clusters.Member = clusters.fallen_member d.node (saving.kept_after (nodes.kept_of d.node) calls saved added) in
    let on : saving.may_fail calls saved added ≡ true = sym (ap (λ (y : Out). saving.may_fail (saving.calls_of y.saves) saved added) gives) ∙ can in
    let here : ms ≡ positions.change_place (λ old. m) c.members t.node = ems ∙ change_as (halting out saved added) (λ old. m) c.members t.node h.member h.there (ap (λ (y : Out). halting y saved added h.member) gives) in
    (λ j. record c { members = here j; bag = ebag j })
    ∙ sym (ap (λ y. clusters.halted_intake c y saved added) h.same
    ∙ ap (λ b. if b then clusters.with_member d.cluster d.number m else c) on)

-- a crash and a start
fallen_case : (c : clusters.Cluster) (k : ℕ) (b : Bool) (n : nodes.Node) → lists.at_place c.members k ≡ Some (record { is_up = b; node = n })
    → record c { members = positions.change_place fallen c.members k } ≡ (if b then clusters.with_member c k (clusters.fallen_member n (nodes.kept_of n)) else c)
fallen_case c k true n e = ap (λ ms. record c { members = ms }) (change_as fallen (λ old. clusters.fallen_member n (nodes.kept_of n)) c.members k (record { is_up = true; node = n }) e refl)
fallen_case c k false n e = ap (λ ms. record c { members = ms }) (change_still fallen c.members k (record { is_up = false; node = n }) e refl)

fallen_at : (c : clusters.Cluster) (k : ℕ) (o : Option clusters.Member) → lists.at_place c.members k ≡ o → record c { members = positions.change_place fallen c.members k } ≡ clusters.crashed c k o
fallen_at c k None e = ap (λ ms. record c { members = ms }) (change_none fallen c.members k e)
fallen_at c k (Some m) e = fallen_case c k m.is_up m.node e

pub crashed_is : (c : clusters.Cluster) (k : ℕ) (ms : List clusters.Member) → ms ≡ positions.change_place fallen c.members k → record c { members = ms } ≡ clusters.crashed c k (lists.at_place c.members k)
crashed_is c k ms e = ap (λ xs. record c { members = xs }) e ∙ fallen_at c k (lists.at_place c.members k) refl

risen_case : (c : clusters.Cluster) (k : ℕ) (b : Bool) (n : nodes.Node) → lists.at_place c.members k ≡ Some (record { is_up = b; node = n })
    → record c { members = positions.change_place risen c.members k } ≡ (if b then c else clusters.with_member c k (record { is_up = true; node = restarted_now n }))
risen_case c k true n e = ap (λ ms. record c { members = ms }) (change_still risen c.members k (record { is_up = true; node = n }) e refl)
risen_case c k false n e = ap (λ ms. record c { members = ms }) (change_as risen (λ old. record { is_up = true; node = restarted_now n }) c.members k (record { is_up = false; node = n }) e refl)

risen_at : (c : clusters.Cluster) (k : ℕ) (o : Option clusters.Member) → lists.at_place c.members k ≡ o → record c { members = positions.change_place risen c.members k } ≡ clusters.started c k o
risen_at c k None e = ap (λ ms. record c { members = ms }) (change_none risen c.members k e)
risen_at c k (Some m) e = risen_case c k m.is_up m.node e

pub started_is : (c : clusters.Cluster) (k : ℕ) (ms : List clusters.Member) → ms ≡ positions.change_place risen c.members k → record c { members = ms } ≡ clusters.started c k (lists.at_place c.members k)
started_is c k ms e = ap (λ xs. record c { members = xs }) e ∙ risen_at c k (lists.at_place c.members k) refl

-- what may be asked is asked of a node that is there
askable_within : (xs : List clusters.Member) (k : ℕ) (i : RaftInput) (o : Option clusters.Member) → lists.at_place xs k ≡ o → IsAskableAt o i → k ≤ length xs
askable_within xs k i None e a = absurd a
askable_within xs k i (Some m) e a = (place_within xs k m e).1

pub asked_within : (xs : List clusters.Member) (k : ℕ) (i : RaftInput) → IsAskableAt (lists.at_place xs k) i → k ≤ length xs
asked_within xs k i a = askable_within xs k i (lists.at_place xs k) refl a

pub asked_node : (o : Option clusters.Member) (i : RaftInput) (n : nodes.Node) → IsAskableAt o i → option_map (λ (m : clusters.Member). m.node) o ≡ Some n → IsAskable n i
asked_node None i n a e = absurd a
asked_node (Some m) i n a e = subst (λ x. IsAskable x i) (some_same m.node n e) a.1

-- an input that is taken, or none
pub taken_in : (c : clusters.Cluster) (o : Option clusters.Intake) (x : Option Intake) (t : Intake) → TakesAs c o x → x ≡ Some t → IsIntake c o t
taken_in c o x t a e = let b : TakesAs c o (Some t) = subst (TakesAs c o) e a in b

none_in : (c : clusters.Cluster) (o : Option clusters.Intake) (x : Option Intake) → TakesAs c o x → x ≡ None → o ≡ None
none_in c o x a e = let b : TakesAs c o None = subst (TakesAs c o) e a in b

pub none_made : (c : clusters.Cluster) (o : Option clusters.Intake) (x : Option Intake) → TakesAs c o x → x ≡ None → c ≡ clusters.made_intake c o
none_made c o x a e = sym (ap (clusters.made_intake c) (none_in c o x a e))

pub none_halted : (c : clusters.Cluster) (o : Option clusters.Intake) (x : Option Intake) (saved added : ℕ) → TakesAs c o x → x ≡ None → c ≡ clusters.halted_intake c o saved added
none_halted c o x saved added a e = sym (ap (λ y. clusters.halted_intake c y saved added) (none_in c o x a e))
