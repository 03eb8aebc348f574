use Rattle.std.proofs.Common.{◌≡◌, ℕ, ◌+◌, ◌*◌, ◌/◌, ◌<◌, ◌≤◌, ◌∙◌, refl, sym, ap, subst, min, length, List, Option, Some}
use Rattle.std.specs.Prelude.{slice_get, slice_set, slice_range}
use Rattle.std.proofs.lemmas.List.{length-set}
use Rattle.sess_table.proofs.Floors.{floored-set}
use Rattle.sess_table.proofs.signs.Signs.set.Goals as goal

pub invariant_of-self : goal.invariant_of-self
invariant_of-self c =
    let signs : List (Option ℕ) = c.self.inside.signs.items in
    let index = c.args.index in
    let first = index / 64 * 64 in
    let end = c.min-end.result in
    let now : c.deref.result.now ≡ slice_set signs index c.args.sign = c.deref.ensures.value in
    let long : c.self.inside.signs.len ≡ length signs = sym c.deref.ensures.len ∙ (ap (λ (xs : List (Option ℕ)). length xs) now ∙ length-set signs index c.args.sign) in
    let Within : List (Option ℕ) → Type 0 = λ xs. index < length xs in
    let within : index < length signs = subst Within (sym c.self.view_is) c.requires in
    let capped : end ≡ min (length signs) (first + 64) = c.min-end.ensures ∙ ap (λ n. min n (first + 64)) (c.len.ensures ∙ long) in
    floored-set signs c.self.inside.floors.items index c.floor.result first end c.args.sign c.self.invariant within refl capped
    (λ k t at. let At : List (Option ℕ) → Type 0 = λ xs. slice_get (slice_range xs first end) k ≡ Some (Some t) in c.floor.ensures k t (subst At (sym now) at))
