-- How many commands a session called up to a number: more up to a greater one, where that is of a command.
use Rattle.std.proofs.Common.{◌≡◌, ℕ, ◌+◌, ◌≤◌, ◌<◌, Bool, true, false, cond, nat_le, List, [], ◌∷◌, refl, sym, ap, ◌∙◌, subst, arith, count_by, inl, inr}
use Rattle.std.specs.Prelude.{◌&&◌}
use Rattle.std.proofs.lemmas.List.Sums.{sum_by-cons, sum_by-append}
use Rattle.std.proofs.lemmas.Bool.Decides.{nat_tests}
use Rattle.ax_types.specs.declared.ops.Op.{Op}
use Rattle.ax_types.specs.declared.ops.WindowCall.{WindowCall}
use Rattle.ax_types.specs.declared.ops.WindowCall.TheVariants as call
use Rattle.ax_types.specs.declared.items.Item.{Item}
use Rattle.ax_types.specs.declared.items.Item.TheVariants as item
use Rattle.spec_claims.specs.Transcript as transcripts
use Rattle.law_release.proofs.Tests.{is_equal}

-- among some calls
abbrev counted : ℕ → List (ℕ × WindowCall) → ℕ
counted n cs = count_by (λ c. transcripts.is_command c.1 && nat_le c.0 n) cs

counted_one : (a m n : ℕ) (b : Bool) → m ≤ n → cond (b && nat_le a m) 1 0 ≤ cond (b && nat_le a n) 1 0
counted_one a m n false l = omega arith
counted_one a m n true l = on (nat_le a m) (nat_le a n) (λ e. grind (arith, nat_tests, e, l))
  where
    on : (c d : Bool) → (c ≡ true → d ≡ true) → cond c 1 0 ≤ cond d 1 0
    on true d f = rw (f refl) (omega arith)
    on false true f = omega arith
    on false false f = omega arith

counted_grows : (m n : ℕ) (cs : List (ℕ × WindowCall)) → m ≤ n → counted m cs ≤ counted n cs
counted_grows m n [] l = omega arith
counted_grows m n (c ∷ cs) l =
    let a = sum_by-cons (λ (d : ℕ × WindowCall). cond (transcripts.is_command d.1 && nat_le d.0 m) 1 0) c cs in
    let b = sum_by-cons (λ (d : ℕ × WindowCall). cond (transcripts.is_command d.1 && nat_le d.0 n) 1 0) c cs in
    let one = counted_one c.0 m n (transcripts.is_command c.1) l in
    let rest = counted_grows m n cs l in
    omega (arith, a, b, one, rest)

-- an item and those above it
upto_split : (s n : ℕ) (y : Item) (above : List Item)
    → transcripts.commands_upto s n (y ∷ above) ≡ counted n (transcripts.called_by s y) + transcripts.commands_upto s n above
upto_split s n y above =
    sum_by-append (λ (d : ℕ × WindowCall). cond (transcripts.is_command d.1 && nat_le d.0 n) 1 0) (transcripts.called_by s y) (transcripts.calls s above)

pub upto_above : (s n : ℕ) (y : Item) (above : List Item) → transcripts.commands_upto s n above ≤ transcripts.commands_upto s n (y ∷ above)
upto_above s n y above = let e = upto_split s n y above in omega (arith, e)

own_call : (s n : ℕ) (c : WindowCall) → transcripts.called_by s (item.Called s n c) ≡ (n, c) ∷ []
own_call s n c = ap (λ b. cond b ((n, c) ∷ []) []) (is_equal s s refl)

counted_own : (m n : ℕ) (name : List ℕ) (o : Op) → m < n → counted m ((n, call.Command name o) ∷ []) < counted n ((n, call.Command name o) ∷ [])
counted_own m n name o l =
    let a : nat_le n m ≡ false = grind (arith, nat_tests, l) in
    let b : nat_le n n ≡ true = grind (arith, nat_tests) in
    rw (a, b) (omega arith)

pub more_upto : (s m n : ℕ) (name : List ℕ) (o : Op) (above : List Item) → m < n → transcripts.StandsIn (item.Called s n (call.Command name o)) above
    → transcripts.commands_upto s m above < transcripts.commands_upto s n above
more_upto s m n name o [] l i = absurd i
more_upto s m n name o (y ∷ above) l (inl e) =
    let same : transcripts.called_by s y ≡ (n, call.Command name o) ∷ [] = ap (transcripts.called_by s) e ∙ own_call s n (call.Command name o) in
    let one : counted m (transcripts.called_by s y) < counted n (transcripts.called_by s y) =
    subst (λ cs. counted m cs < counted n cs) (sym same) (counted_own m n name o l) in
    let rest = counted_grows m n (transcripts.calls s above) (omega (arith, l)) in
    let a = upto_split s m y above in
    let b = upto_split s n y above in
    omega (arith, one, rest, a, b)
more_upto s m n name o (y ∷ above) l (inr i) =
    let one = counted_grows m n (transcripts.called_by s y) (omega (arith, l)) in
    let rest = more_upto s m n name o above l i in
    let a = upto_split s m y above in
    let b = upto_split s n y above in
    omega (arith, one, rest, a, b)
