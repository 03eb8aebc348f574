-- What entries that are applied send is true.
use Rattle.std.proofs.Common.{◌≡◌, ℕ, suc, ◌&&◌, nat_eq, List, [], ◌∷◌, ◌++◌, Option, Some, None, refl, sym, ap, ◌∙◌, subst, append_assoc}
use Rattle.std.specs.List.{AllByRecursion}
use Rattle.ax_types.specs.declared.entries.Batch.{Batch}
use Rattle.ax_types.specs.declared.entries.Entry.{Entry}
use Rattle.ax_types.specs.declared.ids.End.{End}
use Rattle.ax_types.specs.declared.ids.End.TheVariants as end
use Rattle.ax_types.specs.declared.items.Item.{Item}
use Rattle.ax_types.specs.declared.packets.Packet.{Packet}
use Rattle.ax_types.specs.declared.packets.Payload.{Payload}
use Rattle.ax_types.specs.declared.packets.Payload.TheVariants as payload
use Rattle.ax_types.specs.declared.sessions.Applied.{Applied}
use Rattle.spec_book.specs.History as histories
use Rattle.spec_node.specs.Node as nodes
use Rattle.spec_sessions.specs.Sessions as sessions
use Rattle.spec_server.specs.Gates as gates
use Rattle.spec_server.specs.ServerStep as server_steps
use Rattle.spec_run.specs.KeptStores as kept_stores
use Rattle.law_told.proofs.Lists.{by_test, all_since, all_append}
use Rattle.law_told.proofs.Staying.{history_grows}
use Rattle.law_sessions.specs.Folds as folds
use Rattle.law_sessions.proofs.Runs.{acts_split, state_split}
use Rattle.law_sessions.proofs.Telling.{entry_gives_fold}
use Rattle.law_answers.specs.TrueSteps as laws

-- true packets stay true
truth_grows : (items : List Item) (h r : histories.History) (to : End) (p : Payload) → laws.IsTrueTo items h to p → laws.IsTrueTo items (h ++ r) to p
truth_grows items h r (end.Node k) p t = tt
truth_grows items h r (end.Client c) p t = history_grows items h r c p t

pub packets_grow : (items : List Item) (h r : histories.History) (ps : List Packet) → laws.AreTruePackets items h ps → laws.AreTruePackets items (h ++ r) ps
packets_grow items h r ps k = all_since (λ p. laws.IsTrueTo items h p.to p.payload) (λ p. laws.IsTrueTo items (h ++ r) p.to p.payload) (λ p t. truth_grows items h r p.to p.payload t) ps k

-- of one entry
answer_sent : (items : List Item) (h : histories.History) (n : nodes.Node) (a : Option (ℕ × Payload)) → ((c : ℕ) (p : Payload) → a ≡ Some (c, p) → folds.IsTrueOf h c p) → laws.AreTruePackets items h (server_steps.answers_to n a)
answer_sent items h n None k = tt
answer_sent items h n (Some a) k = (k a.0 a.1 refl items, tt)

batch_sent : (items : List Item) (h : histories.History) (n : nodes.Node) (session : ℕ) (b : Batch) (c : Option gates.Connection) → ((d : ℕ) → folds.IsTrueOf h d (payload.Batch session b.place b.prev b.events)) → laws.AreTruePackets items h (server_steps.batch_to n session b c)
batch_sent items h n session b None k = tt
batch_sent items h n session b (Some c) k = (k c.client items, tt)

batches_sent : (items : List Item) (h : histories.History) (n : nodes.Node) (cs : List gates.Connection) (bs : List (ℕ × Batch)) → ((d : ℕ) → AllByRecursion (λ (b : ℕ × Batch). folds.IsTrueOf h d (payload.Batch b.0 b.1.place b.1.prev b.1.events)) bs) → laws.AreTruePackets items h (server_steps.batches_to n cs bs)
batches_sent items h n cs [] k = tt
batches_sent items h n cs (b ∷ bs) k =
    all_append (λ p. laws.IsTrueTo items h p.to p.payload) (server_steps.batch_to n b.0 b.1 (gates.connection cs b.0)) (server_steps.batches_to n cs bs)
    (batch_sent items h n b.0 b.1 (gates.connection cs b.0) (λ d. (k d).0)) (batches_sent items h n cs bs (λ d. (k d).1))

entry_sent : (items : List Item) (h : histories.History) (n : nodes.Node) (cs : List gates.Connection) (e : Entry) (a : Applied) → folds.GivesFold h a → laws.AreTruePackets items h (server_steps.entry_answer n e a.answer ++ server_steps.batches_to n cs a.batches)
entry_sent items h n cs e a g =
    all_append (λ p. laws.IsTrueTo items h p.to p.payload) (server_steps.entry_answer n e a.answer) (server_steps.batches_to n cs a.batches)
    (by_test (laws.AreTruePackets items h) (nodes.is_leader n && nat_eq e.term n.ballot.term) (server_steps.answers_to n a.answer) [] (λ z. answer_sent items h n a.answer g.answer) (λ z. tt))
    (batches_sent items h n cs a.batches g.batches)

-- of all
state_same : (n : nodes.Node) (cs : List gates.Connection) (s : sessions.Sessions) (es : List Entry) → (server_steps.applying_all n cs s es).state ≡ folds.applied_all s es
state_same n cs s [] = refl
state_same n cs s (e ∷ es) = state_same n cs (sessions.applying s (suc s.applied) e) es

acts_same : (n : nodes.Node) (cs : List gates.Connection) (s : sessions.Sessions) (es : List Entry) → (server_steps.applying_all n cs s es).acts ≡ kept_stores.acts_from s es
acts_same n cs s [] = refl
acts_same n cs s (e ∷ es) = ap (λ xs. (e.time, (sessions.applied_of s (suc s.applied) e).act) ∷ xs) (acts_same n cs (sessions.applying s (suc s.applied) e) es)

all_sent : (timeout : ℕ) (done es : List Entry) (items : List Item) (n : nodes.Node) (cs : List gates.Connection) → laws.AreTruePackets items (kept_stores.acts_of timeout (done ++ es)) (server_steps.applying_all n cs (folds.sessions_after timeout done) es).packets
all_sent timeout done [] items n cs = tt
all_sent timeout done (e ∷ es) items n cs =
    let s : sessions.Sessions = folds.sessions_after timeout done in
    let a : Applied = sessions.applied_of s (suc s.applied) e in
    let next : folds.sessions_after timeout (done ++ e ∷ []) ≡ sessions.applying s (suc s.applied) e = state_split (sessions.new_sessions timeout) done (e ∷ []) in
    let here = packets_grow items (kept_stores.acts_of timeout (done ++ e ∷ [])) (kept_stores.acts_from (folds.sessions_after timeout (done ++ e ∷ [])) es) (server_steps.entry_answer n e a.answer ++ server_steps.batches_to n cs a.batches)
    (entry_sent items (kept_stores.acts_of timeout (done ++ e ∷ [])) n cs e a (entry_gives_fold timeout done e)) in
    let whole : kept_stores.acts_of timeout (done ++ e ∷ []) ++ kept_stores.acts_from (folds.sessions_after timeout (done ++ e ∷ [])) es ≡ kept_stores.acts_of timeout (done ++ e ∷ es) =
    sym (acts_split (sessions.new_sessions timeout) (done ++ e ∷ []) es) ∙ ap (kept_stores.acts_of timeout) (append_assoc done (e ∷ []) es) in
    let rest = subst (λ x. laws.AreTruePackets items (kept_stores.acts_of timeout (done ++ e ∷ es)) (server_steps.applying_all n cs x es).packets) next
    (subst (λ xs. laws.AreTruePackets items (kept_stores.acts_of timeout xs) (server_steps.applying_all n cs (folds.sessions_after timeout (done ++ e ∷ [])) es).packets) (append_assoc done (e ∷ []) es) (all_sent timeout (done ++ e ∷ []) es items n cs)) in
    all_append (λ p. laws.IsTrueTo items (kept_stores.acts_of timeout (done ++ e ∷ es)) p.to p.payload) (server_steps.entry_answer n e a.answer ++ server_steps.batches_to n cs a.batches)
    (server_steps.applying_all n cs (sessions.applying s (suc s.applied) e) es).packets
    (subst (λ h. laws.AreTruePackets items h (server_steps.entry_answer n e a.answer ++ server_steps.batches_to n cs a.batches)) whole here) rest

pub entries_answer_truly : laws.AnswersOfEntries
entries_answer_truly timeout done es items n cs = record {
  state = state_same n cs (folds.sessions_after timeout done) es ∙ sym (state_split (sessions.new_sessions timeout) done es);
  acts = acts_split (sessions.new_sessions timeout) done es ∙ ap (λ xs. kept_stores.acts_of timeout done ++ xs) (sym (acts_same n cs (folds.sessions_after timeout done) es));
  packets = all_sent timeout done es items n cs;
}
