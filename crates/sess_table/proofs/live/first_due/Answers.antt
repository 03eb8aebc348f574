-- What was found so far and what is due from the next index on are all that is due.
use Rattle.std.proofs.Common.{◌≡◌, ℕ, suc, ◌+◌, ◌≤◌, ◌<◌, ◌∙◌, ◌++◌, ◌∷◌, [], List, Option, Some, None, sym, ap, arith, length, length-append, take, drop, append_assoc, add-one}
use Rattle.std.specs.Prelude.{slice_get, MatchOption}
use Rattle.std.specs.Option.{option_map}
use Rattle.std.specs.Map.Iter.{deref_pair}
use Rattle.std.proofs.lemmas.Option.{MatchOption-at_none}
use Rattle.sess_table.specs.declared.live.Origin.{Origin}
use Rattle.sess_table.specs.Signs as signs
use Rattle.sess_table.specs.Live as lives
use Rattle.sess_table.proofs.Order.{due-skip, due-here, due-end, taken, taken-all}
use Rattle.sess_table.proofs.live.first_due.Goals as goal
use Rattle.sess_table.proofs.live.first_due.Goals.{else-more-test, then-more-test+in_default}

pub overflow_add-next : goal.overflow_add-next
overflow_add-next c = let small = c.in-Some.ensures.small in omega (arith, small)

pub more-preserved : goal.more-preserved
more-preserved c =
    let es = c.args.sessions.now.entries in
    let ss = c.args.signs.now in
    let limit = c.args.limit in
    let index = c.in-Some.index in
    let first = c.in-Some.ensures.first in
    let e : ℕ × Origin = (c.unwrap.result.0.now, c.unwrap.result.1.now) in
    let there : slice_get es index ≡ Some e = sym c.get_index.ensures.entry ∙ ap (λ r. option_map deref_pair r) c.unwrap.ensures in
    let pushed : c.push.new.self ≡ c.more.due ++ e.0 ∷ [] = c.in_ok-push.ensures.ok in
    let skip = due-skip limit es ss c.more.next index first.0 first.3 in
    let here = due-here limit es ss index e there first.2 in
    let long : length (c.more.due ++ e.0 ∷ []) ≡ length c.more.due + 1 = length-append c.more.due (e.0 ∷ []) in (
      rw pushed (omega arith),
      rw (pushed, add-one, append_assoc) (ap (λ (xs : List ℕ). c.more.due ++ xs) (sym here ∙ sym skip) ∙ c.more.invariant.1),
    )

pub returns : goal.returns
returns c =
    let es = c.args.sessions.now.entries in
    let ss = c.args.signs.now in
    let limit = c.args.limit in
    let all : List ℕ = lives.due_in limit es ss in
    let rest : List ℕ = lives.due_in limit (drop c.more.next es) (drop c.more.next ss) in
    elim c.more-test.branch [
      | else-more-test w ↦ taken 16 c.more.due rest all c.more.invariant.1 (omega arith)
      | then-more-test+in_default w ↦
          taken-all 16 c.more.due rest all c.more.invariant.1
          (due-end limit es ss c.more.next (MatchOption-at_none _ _ w.in_default.is w.first_up_to.ensures.first)) (omega arith)
    ]
