-- The turn by the number that was drawn is the turn of the deed that the number stands for.
use Rattle.std.proofs.Common.{◌≡◌, ℕ, Bool, true, false, nat_le, nat_eq, refl}
use Rattle.std.specs.Prelude.{if◌then◌else◌}
use Rattle.spec_gen.specs.Generator as generators
use Rattle.script_gen.specs.Deeds as deeds
use Rattle.script_gen.specs.declared.turns.Deed.TheVariants as deed

-- what the tests of the number choose among the turns is the turn of what they choose among the deeds
by_tests : (client x : ℕ) (c d e f g : Bool)
    → (if c then deeds.turn_doing client deed.Add x else if d then deeds.turn_doing client deed.Put x else if e then deeds.turn_doing client deed.Get x
    else if f then deeds.turn_doing client deed.Fresh x else if g then deeds.turn_doing client deed.Settle x else deeds.turn_doing client deed.Keep x)
    ≡ deeds.turn_doing client (if c then deed.Add else if d then deed.Put else if e then deed.Get else if f then deed.Fresh else if g then deed.Settle else deed.Keep) x
by_tests client x true d e f g = refl
by_tests client x false true e f g = refl
by_tests client x false false true f g = refl
by_tests client x false false false true g = refl
by_tests client x false false false false true = refl
by_tests client x false false false false false = refl

pub turn_for_number : (client number x : ℕ) → generators.turn_for client number x ≡ deeds.turn_doing client (deeds.deed_of number) x
turn_for_number client number x = by_tests client x (nat_le number 3) (nat_le number 5) (nat_eq number 6) (nat_eq number 7) (nat_eq number 8)
