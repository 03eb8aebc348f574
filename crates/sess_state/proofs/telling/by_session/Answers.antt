-- A stable sort by session.
use Rattle.std.proofs.Common.{◌≡◌, ℕ, ◌∙◌, sym, subst, ap, rules}
use Rattle.std.proofs.lemmas.List.Sorted.{IsNonDecreasingBy-from_sort_by_key, answers_always}
use Rattle.ax_types.specs.declared.replies.Event.{Event}
use Rattle.spec_sessions.specs.Outboxes as outboxes
use Rattle.sess_state.specs.Batching as batching
use Rattle.sess_state.proofs.InTurn.{Told}
use Rattle.sess_state.proofs.SortedTold.{told_stable, rise_sorted}
use Rattle.sess_state.proofs.telling.by_session.Goals as goal

pub returns-clause-rise : goal.returns-clause-rise
returns-clause-rise c =
    let rise = rise_sorted _ (IsNonDecreasingBy-from_sort_by_key (λ (t : ℕ × Event). t.0) _ c.in_ok-sort_by_key.ensures.sorted (λ a r q k. search rules)) in
    subst (λ (ts : Told). batching.RiseBySession ts) (sym c.from_vec.ensures.items) rise

pub returns-clause-same : goal.returns-clause-same
returns-clause-same c =
    let stable = c.sort_by_key.ensures.stable (λ (t : ℕ × Event). t.0) (answers_always _ _ _ (λ f a r g h. search rules)) in
    λ session. ap (λ (ts : Told). outboxes.told_to session ts) c.from_vec.ensures.items
    ∙ (told_stable _ _ stable session ∙ ap (λ (ts : Told). outboxes.told_to session ts) c.into_vec-sorted.ensures)
