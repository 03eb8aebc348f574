-- Two majorities have a member in common.
use Rattle.std.proofs.Common.{◌≡◌, ℕ, List, refl, arith}
use Rattle.std.specs.Prelude.{Bool, true, false, ◌&&◌}
use Rattle.spec_raft.proofs.Counting.{overlap, passing}
use Rattle.spec_past.specs.Matching as matchings

both : (a b : Bool) → (a && b) ≡ true → (a ≡ true) × (b ≡ true)
both true true e = (e, e)
both true false e = (refl, e)
both false true e = (e, refl)
both false false e = (e, e)

pub common : (p q : ℕ → Bool) (xs : List ℕ) → matchings.IsMost p xs → matchings.IsMost q xs → (x : ℕ) × (p x ≡ true) × (q x ≡ true)
common p q xs hp hq =
    let f = passing (λ x. p x && q x) xs (omega (arith, hp, hq, overlap p q xs)) in
    let b = both (p f.0) (q f.0) f.1 in (f.0, b.0, b.1)
