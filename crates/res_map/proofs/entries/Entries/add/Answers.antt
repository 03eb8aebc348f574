-- The end of the new entry is in the index, and out of it where there was no memory for the entry.
use Rattle.std.proofs.Common.{◌≡◌, ◌∙◌, ap, None, Some}
use Rattle.spec_book.specs.Dict as dicts
use Rattle.res_deadlines.proofs.Index.{ChangesDeadline-added}
use Rattle.res_map.proofs.Index.{IsIndexed-changed, IsIndexed-again}
use Rattle.res_map.proofs.entries.Entries.add.Goals as goal

pub invariant_of-self-in-Ok : goal.invariant_of-self-in-Ok
invariant_of-self-in-Ok c =
    let es = c.self.inside.items.entries in
    let absent : dicts.found es c.args.key.now ≡ None = rw c.self.view_is c.requires in (
      c.in-Ok.ensures.ordered,
      IsIndexed-changed es c.insert.new.self.entries c.self.inside.deadlines c.add.new.self c.args.key.now None (Some c.args.item)
          c.self.invariant.1 absent (λ q. rw (← c.in_ok-own.ensures) (c.in-Ok.ensures.updates.0 q))
          (ChangesDeadline-added dicts.bytes_cmp c.self.inside.deadlines c.add.new.self c.args.key.now _ (rw (← c.end-end.ensures) c.in_ok-add.ensures.ok)),
    )

pub invariant_of-self-in-Err : goal.invariant_of-self-in-Err
invariant_of-self-in-Err c =
    let es = c.self.inside.items.entries in
    let absent : dicts.found es c.args.key.now ≡ None = rw c.self.view_is c.requires in
    let back : c.in-Err.refused.value.0 ≡ c.args.key.now = ap (λ v. v.0) c.in-Err.ensures.value_returned ∙ c.in_ok-own.ensures in
    rw c.in-Err.ensures.err (
      c.self.invariant.0,
      IsIndexed-again es c.self.inside.deadlines c.add.new.self c.forget.new.self c.args.key.now c.end-end.result
          c.self.invariant.1 absent c.in_ok-add.ensures.ok (rw (← back) c.forget.ensures),
    )
