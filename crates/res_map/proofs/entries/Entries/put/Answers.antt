-- The item is written where the other stood, and the index follows.
use Rattle.std.proofs.Common.{◌≡◌, ℕ, ◌∙◌, List, Some, sym, rules}
use Rattle.std.specs.BTreeMap.{is_at}
use Rattle.std.proofs.lemmas.Map.Steps.{set_value_same}
use Rattle.spec_book.specs.Dict as dicts
use Rattle.spec_book.specs.Resources as resources
use Rattle.res_map.proofs.Index.{IsIndexed-changed}
use Rattle.res_map.proofs.Written.{set_value-with}
use Rattle.res_map.proofs.entries.Entries.put.Goals as goal

pub invariant_of-self : goal.invariant_of-self
invariant_of-self c =
    let w = c.in-Some.there.now in
    let es : List (List ℕ × resources.MapItem) = c.self.inside.items.entries in
    let kept : (c.get_mut.follows.lender w).entries ≡ es =
    (c.get_mut.follows.holds w).0 ∙ set_value_same (is_at (dicts.bytes_cmp c.args.key.now)) es w (sym c.in-Some.ensures.value) in
    rw (kept, c.in_err-change-in-Some.ensures.err) c.self.invariant

pub returns-in_err-change-in-Some-clause-err : goal.returns-in_err-change-in-Some-clause-err
returns-in_err-change-in-Some-clause-err c =
    let w = c.in-Some.there.now in
    let es : List (List ℕ × resources.MapItem) = c.self.inside.items.entries in
    let kept : (c.get_mut.follows.lender w).entries ≡ es =
    (c.get_mut.follows.holds w).0 ∙ set_value_same (is_at (dicts.bytes_cmp c.args.key.now)) es w (sym c.in-Some.ensures.value) in
    rw (kept, c.self.view_is) (search rules)

pub invariant_of-self-in-Some : goal.invariant_of-self-in-Some
invariant_of-self-in-Some c =
    let w = c.replace.new.dest in
    let es : List (List ℕ × resources.MapItem) = c.self.inside.items.entries in
    let there : dicts.found es c.args.key.now ≡ Some c.in-Some.there.now = sym c.in-Some.ensures.value in (
      (c.get_mut.follows.holds w).4,
      IsIndexed-changed es (c.get_mut.follows.lender w).entries c.self.inside.deadlines c.change.new.self c.args.key.now (Some c.in-Some.there.now) (Some c.args.item)
          c.self.invariant.1 there (λ q. rw (← c.replace.ensures.after) (((c.get_mut.follows.holds w).3 (search rules)).0 q))
          (rw (← c.end.ensures, ← c.end-in-Some.ensures) c.in_ok-change-in-Some.ensures.ok),
    )

pub returns-in_ok-change-in-Some-clause-ok : goal.returns-in_ok-change-in-Some-clause-ok
returns-in_ok-change-in-Some-clause-ok c =
    let w = c.replace.new.dest in
    let es : List (List ℕ × resources.MapItem) = c.self.inside.items.entries in
    let there : dicts.found es c.args.key.now ≡ Some c.in-Some.there.now = sym c.in-Some.ensures.value in
    rw (← c.self.view_is, there, ← c.replace.ensures.after)
    ((c.get_mut.follows.holds w).0 ∙ set_value-with es c.args.key.now c.in-Some.there.now w c.self.invariant.0 there)
