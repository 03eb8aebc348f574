-- One more batch goes behind those before it.
use Rattle.std.proofs.Common.{◌≡◌, ℕ, ◌∙◌, sym, ap, List, [], ◌∷◌, ◌++◌, append-nil, append_assoc}
use Rattle.ax_types.specs.declared.entries.Batch.{Batch}
use Rattle.ax_types.specs.declared.packets.Packet.{Packet}
use Rattle.spec_node.specs.Node as nodes
use Rattle.spec_server.specs.Gates as gates
use Rattle.spec_server.specs.ServerStep as server_steps

one_more_batch : (n : nodes.Node) (cs : List gates.Connection) (bs : List (ℕ × Batch)) (b : ℕ × Batch)
    → server_steps.batches_to n cs (bs ++ b ∷ []) ≡ server_steps.batches_to n cs bs ++ server_steps.batch_to n b.0 b.1 (gates.connection cs b.0)
one_more_batch n cs [] b = append-nil (server_steps.batch_to n b.0 b.1 (gates.connection cs b.0))
one_more_batch n cs (a ∷ bs) b =
    let first : List Packet = server_steps.batch_to n a.0 a.1 (gates.connection cs a.0) in
    ap (λ (ps : List Packet). first ++ ps) (one_more_batch n cs bs b)
    ∙ sym (append_assoc first (server_steps.batches_to n cs bs) (server_steps.batch_to n b.0 b.1 (gates.connection cs b.0)))

pub sent_further : (n : nodes.Node) (cs : List gates.Connection) (first before after : List Packet) (bs : List (ℕ × Batch)) (b : ℕ × Batch)
    → before ≡ first ++ server_steps.batches_to n cs bs → after ≡ before ++ server_steps.batch_to n b.0 b.1 (gates.connection cs b.0)
    → after ≡ first ++ server_steps.batches_to n cs (bs ++ b ∷ [])
sent_further n cs first before after bs b so more =
    let last : List Packet = server_steps.batch_to n b.0 b.1 (gates.connection cs b.0) in
    more
    ∙ (ap (λ (ps : List Packet). ps ++ last) so
    ∙ (append_assoc first (server_steps.batches_to n cs bs) last ∙ ap (λ (ps : List Packet). first ++ ps) (sym (one_more_batch n cs bs b))))
