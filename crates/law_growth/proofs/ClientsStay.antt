-- A client keeps its number.
use Rattle.std.proofs.Common.{◌≡◌, ℕ, refl}
use Rattle.std.specs.Prelude.{Bool, ◌&&◌, Option, Some, None, is_some, [], ◌∷◌, List, if◌then◌else◌}
use Rattle.ax_types.specs.declared.entries.Batch.{Batch}
use Rattle.ax_types.specs.declared.packets.Payload.{Payload}
use Rattle.ax_types.specs.declared.packets.Payload.TheVariants as payload
use Rattle.ax_types.specs.declared.sessions.Got.{Got}
use Rattle.ax_types.specs.declared.sessions.Heard.{Heard}
use Rattle.ax_types.specs.declared.sessions.Heard.TheVariants as heard
use Rattle.spec_sequencer.specs.Sequencers as sequencers
use Rattle.spec_client.specs.Clients as clients
use Rattle.spec_client.specs.Receipts as receipts
use Rattle.law_refinement.proofs.Tests.{by_test}

abbrev pub IsSame : clients.Client → clients.ClientStep → Type 0
IsSame c next = next.client.me ≡ c.me

gets_same : (c : clients.Client) (u : Option sequencers.Unanswered) (g : Got) → IsSame c (receipts.gets c u g)
gets_same c None g = refl
gets_same c (Some u) g = by_test (IsSame c) (is_some u.got) (clients.ignores c) (receipts.releases (record c { sequencer = sequencers.with_answer c.sequencer u.number g }) []) (λ e. refl) (λ e. refl)

batch_same : (c : clients.Client) (node : ℕ) (b : Batch) (h : Heard) → IsSame c (receipts.takes_batch c node b h)
batch_same c node b heard.Old = refl
batch_same c node b heard.Taken = refl
batch_same c node b (heard.Missing h) = refl

pub receives_same : (c : clients.Client) (node : ℕ) (p : Payload) → IsSame c (receipts.receives c node p)
receives_same c node (payload.Opened opening session) = by_test (IsSame c) (clients.is_opening c.state && sequencers.accepts c.switch opening) (receipts.takes_opened c session) (clients.ignores c) (λ e. refl) (λ e. refl)
receives_same c node (payload.Reply session seq place events reply) =
    let g : Got = record { place = place; events = events; reach = None; reply = reply } in
    by_test (IsSame c) (receipts.is_own_live c session) (receipts.gets c (receipts.asked_command c.sequencer.calls seq) g) (clients.ignores c) (λ e. gets_same c (receipts.asked_command c.sequencer.calls seq) g) (λ e. refl)
receives_same c node (payload.Answer session number l place events term arrival reply) =
    let g : Got = record { place = place; events = events; reach = receipts.reach_of l term arrival; reply = reply } in
    by_test (IsSame c) (receipts.is_own_live c session) (receipts.gets c (receipts.asked_query c.sequencer.calls number l) g) (clients.ignores c) (λ e. gets_same c (receipts.asked_query c.sequencer.calls number l) g) (λ e. refl)
receives_same c node (payload.Gap session last) = by_test (IsSame c) (receipts.is_own_live c session) (clients.client_step c [] (clients.to_server c (receipts.gap_of c last))) (clients.ignores c) (λ e. refl) (λ e. refl)
receives_same c node (payload.Batch session place prev events) =
    let b : Batch = record { place = place; prev = prev; events = events } in
    by_test (IsSame c) (receipts.is_own c session) (receipts.takes_batch c node b (sequencers.heard_of c.sequencer b)) (clients.ignores c) (λ e. batch_same c node b (sequencers.heard_of c.sequencer b)) (λ e. refl)
receives_same c node (payload.Ended session place h) = by_test (IsSame c) (receipts.is_own c session) (receipts.takes_end c session place h) (clients.ignores c) (λ e. refl) (λ e. refl)
receives_same c node (payload.Vote a b d) = refl
receives_same c node (payload.VoteReply a b) = refl
receives_same c node (payload.Append a b d e f g) = refl
receives_same c node (payload.AppendReply a b d e) = refl
receives_same c node (payload.Register a b) = refl
receives_same c node (payload.Keep a b d e) = refl
receives_same c node (payload.Command a b d e f) = refl
receives_same c node (payload.Close a b) = refl
receives_same c node (payload.Query a b d e f g h i) = refl
receives_same c node (payload.Connect a b d) = refl
receives_same c node (payload.Reset a b d) = refl
