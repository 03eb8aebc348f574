-- The walk stops at the first time that has not passed, and no later one has passed.
use Rattle.std.proofs.Common.{◌≡◌, ℕ, ◌∙◌, List, ◌∷◌, ◌++◌, map, ap, sym, subst, arith}
use Rattle.std.specs.List.Sorted.{IsStrictlySortedBy}
use Rattle.std.specs.Map.Iter.{deref}
use Rattle.std.proofs.lemmas.List.{map-append}
use Rattle.std.proofs.lemmas.Map.Iter.{iter_end, rest_so_far}
use Rattle.res_deadlines.specs.Deadlines as deadlines
use Rattle.res_deadlines.proofs.Passed.{has_passed-front, has_passed-push}
use Rattle.res_deadlines.proofs.deadlines.Deadlines.passed.Goals as goal
use Rattle.res_deadlines.proofs.deadlines.Deadlines.passed.Goals.{in-None, in-Some+then-end-from}

pub loop-end-preserved : goal.loop-end-preserved
loop-end-preserved g c = (
  c.in_ok-insert.ensures.ordered,
  λ key.
      rw map-append
      (has_passed-push g.K.Ord.cmp g.met.K.Ord.total c.args.time (map deref c.loop-end.yielded) c.in-Some.field-0.now c.loop-end.keys.keys c.insert.new.self.keys (omega arith)
      c.loop-end.invariant.1 (λ q. rw (← c.in_ok-copy.ensures) (c.in_ok-insert.ensures.updates.0 q)) key),
)

pub returns-clause-keys : goal.returns-clause-keys
returns-clause-keys g c = λ key.
    let all = c.self.inside.pairs.keys in
    let gives = c.into_iter-end-iterator.ensures.into_iter_gives in
    let front : List (ℕ × g.row.K.Denot) = map deref c.loop-end.yielded in
    elim c.match-next.branch [
      | in-None w ↦
          let whole = iter_end deref all c.loop-end.yielded c.into_iter-end-iterator.result c.loop-end.end-iterator c.next.new.self c.next.result gives.0 c.loop-end.yielded_by w.in-None.is c.next.ensures.steps in
          c.loop-end.invariant.1 key ∙ ap (λ (ds : List (ℕ × g.row.K.Denot)). deadlines.has_passed g.K.Ord.cmp c.args.time ds key) (whole.0 ∙ c.self.view_is)
      | in-Some+then-end-from w ↦
          let first : ℕ × g.row.K.Denot = w.in-Some.field-0.now in
          let whole : all ≡ front ++ first ∷ c.next.new.self =
          sym gives.0 ∙ (rest_so_far deref c.loop-end.yielded c.into_iter-end-iterator.result c.loop-end.end-iterator c.loop-end.yielded_by
          ∙ ap (λ (rest : List (ℕ × g.row.K.Denot)). front ++ rest) w.in-Some.ensures.steps) in
          let P : List (ℕ × g.row.K.Denot) → Type 0 = λ ds. IsStrictlySortedBy (deadlines.deadline_cmp g.K.Ord.cmp) ds in
          c.loop-end.invariant.1 key
          ∙ (sym (has_passed-front g.K.Ord.cmp c.args.time front first c.next.new.self key (omega arith) (subst P whole gives.4))
          ∙ ap (λ (ds : List (ℕ × g.row.K.Denot)). deadlines.has_passed g.K.Ord.cmp c.args.time ds key) (sym whole ∙ c.self.view_is))
    ]
