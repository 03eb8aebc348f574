-- Another session is told and then those to come; the session itself is passed over, and stands once.
use Rattle.std.proofs.Common.{◌≡◌, ℕ, List, [], ◌∷◌, ◌++◌, append_assoc, ap, sym, subst, ◌∙◌}
use Rattle.std.specs.Ordering.{nat_cmp}
use Rattle.std.specs.List.Sorted.{IsStrictlySortedBy}
use Rattle.std.proofs.lemmas.Map.Keys.{sorted_tail}
use Rattle.ax_types.specs.declared.replies.Event.{Event}
use Rattle.spec_book.specs.Dict as dicts
use Rattle.spec_book.specs.Resources as resources
use Rattle.res_sessions.proofs.Sessions.{without-first, without-another}
use Rattle.res_sessions.proofs.listeners.Listeners.tell_others.Goals as goal

module _ (told all : List (ℕ × Event)) (e : Event) (x s : ℕ) (rest sessions : List ℕ) (steps : sessions ≡ x ∷ rest)
    (so_far : told ++ resources.tell (dicts.without_session sessions s) e ≡ all) where
  told_another : (x ≡ s → ⊥) → (told ++ (x, e) ∷ []) ++ resources.tell (dicts.without_session rest s) e ≡ all
  told_another other =
      append_assoc told ((x, e) ∷ []) (resources.tell (dicts.without_session rest s) e)
      ∙ (ap (λ (ss : List ℕ). told ++ resources.tell ss e) (sym (without-another x s rest other))
      ∙ (ap (λ (ss : List ℕ). told ++ resources.tell (dicts.without_session ss s) e) (sym steps) ∙ so_far))

  passed_over : x ≡ s → IsStrictlySortedBy nat_cmp (x ∷ rest) → told ++ resources.tell (dicts.without_session rest s) e ≡ all
  passed_over same sorted =
      ap (λ (ss : List ℕ). told ++ resources.tell ss e) (sym (without-first x s rest same sorted))
      ∙ (ap (λ (ss : List ℕ). told ++ resources.tell (dicts.without_session ss s) e) (sym steps) ∙ so_far)

pub loop-other-preserved-in_ok-push : goal.loop-other-preserved-in_ok-push
loop-other-preserved-in_ok-push c =
    let x : ℕ = c.in-Some.other.now in
    let rest : List ℕ = c.next.new.self in
    let S : List ℕ → Type 0 = λ ss. IsStrictlySortedBy nat_cmp ss in
    let sorted : IsStrictlySortedBy nat_cmp (x ∷ rest) = subst S c.in-Some.ensures.steps c.loop-other.invariant.0 in (
      sorted_tail nat_cmp x rest sorted,
      rw (c.in_ok-push.ensures.ok, c.in_ok-copy.ensures)
          (told_another c.loop-other.told _ c.args.event.now x c.args.session rest c.loop-other.other-iterator c.in-Some.ensures.steps c.loop-other.invariant.1 c.if-other-session.true),
    )

pub loop-other-preserved : goal.loop-other-preserved
loop-other-preserved c =
    let x : ℕ = c.in-Some.other.now in
    let rest : List ℕ = c.next.new.self in
    let S : List ℕ → Type 0 = λ ss. IsStrictlySortedBy nat_cmp ss in
    let sorted : IsStrictlySortedBy nat_cmp (x ∷ rest) = subst S c.in-Some.ensures.steps c.loop-other.invariant.0 in (
      sorted_tail nat_cmp x rest sorted,
      passed_over c.loop-other.told _ c.args.event.now x c.args.session rest c.loop-other.other-iterator c.in-Some.ensures.steps c.loop-other.invariant.1 c.if-other-session.false sorted,
    )
