-- Each step, and runs.
use Rattle.std.proofs.Common.{◌≡◌, ℕ, List, [], ◌∷◌, ◌++◌, map, reverse, ap, sym, ◌∙◌, subst, append-nil, append_assoc}
use Rattle.std.specs.List.{AllByRecursion}
use Rattle.std.proofs.lemmas.List.{reverse-append}
use Rattle.ax_types.specs.declared.items.Item.{Item}
use Rattle.ax_types.specs.declared.packets.Payload.{Payload}
use Rattle.ax_types.specs.declared.packets.Payload.TheVariants as payload
use Rattle.ax_types.specs.declared.entries.Body.{Body}
use Rattle.ax_types.specs.declared.entries.Body.TheVariants as body
use Rattle.ax_types.specs.declared.entries.Entry.{Entry}
use Rattle.ax_types.specs.declared.steps.KeptStep.{KeptStep}
use Rattle.ax_types.specs.declared.steps.StepOutcome.{StepOutcome}
use Rattle.spec_raft.specs.Positions as positions
use Rattle.spec_raft.specs.Majority as majorities
use Rattle.spec_book.specs.History as histories
use Rattle.spec_claims.specs.Transcript as transcripts
use Rattle.spec_client.specs.Clients as clients
use Rattle.spec_world.specs.Worlds as worlds
use Rattle.spec_world.specs.Plans as plans
use Rattle.spec_world.specs.Moves as moves
use Rattle.spec_run.specs.Run as runs
use Rattle.law_growth.proofs.Cases.{plan_case}
use Rattle.law_client.specs.Inputs as inputs
use Rattle.law_client.proofs.Lists.{all_since}
use Rattle.law_seats.specs.Seats as seats
use Rattle.law_seats.proofs.Seats.{each_step_seats}
use Rattle.law_seats.proofs.Runs.{new_stand}
use Rattle.law_asked.specs.Asked as asked
use Rattle.law_asked.proofs.Serving.{PacketSays, EntrySays}
use Rattle.law_asked.proofs.Saying.{said_stays, acted_say}
use Rattle.law_asked.proofs.Moving.{SendsSay, carried_said, AskedBy, asked_by}

-- what is said stays so where each saying does
body_since : (S T : ℕ → Payload → Type 0) → ((c : ℕ) (p : Payload) → S c p → T c p) → (b : Body) → asked.BodySays S b → asked.BodySays T b
body_since S T f (body.Register c opening) s = f c (payload.Register c opening) s
body_since S T f (body.Keep c u answered heard) s = f c (payload.Keep c u answered heard) s
body_since S T f (body.Command c u seq name o) s = f c (payload.Command c u seq name o) s
body_since S T f (body.Close c u) s = f c (payload.Close c u) s
body_since S T f b s = tt

pub entries_since : (S T : ℕ → Payload → Type 0) → ((c : ℕ) (p : Payload) → S c p → T c p) → (es : List Entry) → asked.EntriesSay S es → asked.EntriesSay T es
entries_since S T f es s = all_since (EntrySays S) (EntrySays T) (λ e b. body_since S T f e.body b) es s

payload_since : (S T : ℕ → Payload → Type 0) → ((c : ℕ) (p : Payload) → S c p → T c p) → (p : Payload) → asked.PayloadSays S p → asked.PayloadSays T p
payload_since S T f (payload.Register c opening) s = f c (payload.Register c opening) s
payload_since S T f (payload.Keep c u answered heard) s = f c (payload.Keep c u answered heard) s
payload_since S T f (payload.Command c u seq name o) s = f c (payload.Command c u seq name o) s
payload_since S T f (payload.Close c u) s = f c (payload.Close c u) s
payload_since S T f (payload.Connect c u heard) s = f c (payload.Connect c u heard) s
payload_since S T f (payload.Reset c u heard) s = f c (payload.Reset c u heard) s
payload_since S T f (payload.Query c u n l seen seq name q) s = f c (payload.Query c u n l seen seq name q) s
payload_since S T f (payload.Append term prev prev_term commit round es) s = entries_since S T f es s
payload_since S T f p s = tt

pub said_since : (S T : ℕ → Payload → Type 0) → ((c : ℕ) (p : Payload) → S c p → T c p) → (w : worlds.World) → asked.AllSaid S w → asked.AllSaid T w
said_since S T f w a = record {
  packets = all_since (PacketSays S) (PacketSays T) (λ p s. payload_since S T f p.payload s) _ a.packets;
  hosts = all_since (asked.HostSays S) (asked.HostSays T) (λ x s. record { log = entries_since S T f x.server.raft.log s.log; at_stake = entries_since S T f x.at_stake s.at_stake }) w.hosts a.hosts;
}

-- a client's plan sends what the client says then
plan_sends : (h : histories.History) (w : worlds.World) (above : List Item) (p : plans.Plan) (o : StepOutcome) → seats.AllStand h w above → seats.AreTrueKept h w above → AskedBy w p
    → SendsSay (asked.IsSaidBy h (moves.carried p o).world.seats (reverse (moves.carried p o).items ++ above)) p
plan_sends h w above (plans.Asks v c s next) o k told by =
    let i : inputs.Input = by.0.0 in
    let say = acted_say h w above c s i k told by.2 by.0.2 in
    let moved_next : clients.ClientStep → Type 0 = λ n.
    AllByRecursion (λ (x : ℕ × Payload). asked.PayloadSays (asked.IsSaidBy h (positions.change_place (λ old. record s { client = n.client }) v.seats c) (reverse (moves.with_shown c s.watches n.out.items) ++ above)) x.1) n.out.sends in
    subst moved_next (sym by.0.1)
    (subst (λ ss. AllByRecursion (λ (x : ℕ × Payload). asked.PayloadSays (asked.IsSaidBy h (positions.change_place (λ old. record s { client = (inputs.client_stepped s.client i).client }) ss c)
    (reverse (moves.with_shown c s.watches (inputs.client_stepped s.client i).out.items) ++ above)) x.1) (inputs.client_stepped s.client i).out.sends) (sym by.1) say)
plan_sends h w above (plans.Serves v k x i) o stand told by = tt
plan_sends h w above (plans.Loads v k x) o stand told by = tt
plan_sends h w above (plans.Shows v items) o stand told by = tt

pub each_step_says : asked.EachStepSays
each_step_says h w above k stand told said =
    let m = moves.moved w k in
    let S = asked.IsSaidBy h w.seats above in
    let T = asked.IsSaidBy h m.world.seats (reverse m.items ++ above) in
    carried_said T w (plans.plan w k.step) k.outcome (plan_case w k.step) (said_since S T (λ c p s. said_stays h w above k stand told c p s) w said)
    (plan_sends h w above (plans.plan w k.step) k.outcome stand told (asked_by w k.step))

ran_said : (h : histories.History) (w : worlds.World) (above : List Item) (steps : List KeptStep) → seats.AllStand h w above → asked.AreSaid h w above → seats.AreTrueThrough h w above steps
    → asked.AreSaid h (runs.ran w steps).world (reverse (transcripts.transcript (runs.ran w steps).shown) ++ above)
ran_said h w above [] stand said told = said
ran_said h w above (k ∷ steps) stand said told =
    let m = moves.moved w k in
    let rest = transcripts.transcript (runs.ran m.world steps).shown in
    let one : seats.SeatsKeep h w above k = each_step_seats h w above k stand told.0 in
    let more : asked.AreSaid h (runs.ran m.world steps).world (reverse rest ++ (reverse m.items ++ above)) = ran_said h m.world (reverse m.items ++ above) steps one.stand (each_step_says h w above k stand told.0 said) told.1 in
    let back : reverse rest ++ (reverse m.items ++ above) ≡ reverse (m.items ++ rest) ++ above = sym (ap (λ ys. ys ++ above) (reverse-append m.items rest) ∙ append_assoc (reverse rest) (reverse m.items) above) in
    subst (asked.AreSaid h (runs.ran m.world steps).world) back more

new_hosts : (S : ℕ → Payload → Type 0) (nodes timeout : ℕ) (ks : List ℕ) → AllByRecursion (asked.HostSays S) (map (worlds.new_host nodes timeout) ks)
new_hosts S nodes timeout [] = tt
new_hosts S nodes timeout (k ∷ ks) = (record { log = tt; at_stake = tt }, new_hosts S nodes timeout ks)

pub runs_are_said : asked.RunsAreSaid
runs_are_said h nodes clients timeout steps told =
    let w = worlds.new_world nodes clients timeout in
    let first : asked.AreSaid h w [] = record { packets = tt; hosts = new_hosts (asked.IsSaidBy h w.seats []) nodes timeout (majorities.cluster_of nodes) } in
    let items = transcripts.transcript (runs.ran w steps).shown in
    subst (asked.AreSaid h (runs.ran w steps).world) (append-nil (reverse items)) (ran_said h w [] steps (new_stand h nodes clients timeout) first told)
