-- What holds of each of a list holds of each of what is made of it.
use Rattle.std.proofs.Common.{◌≡◌, ℕ, zero, suc, List, [], ◌∷◌, ◌++◌, take, drop, map, refl, subst}
use Rattle.std.specs.Prelude.{Bool, true, false, Option, Some, None, slice_get, if◌then◌else◌}
use Rattle.std.specs.List.{AllByRecursion}
use Rattle.ax_types.specs.Places.{at_place}
use Rattle.spec_raft.specs.Positions.{change_place}
use Rattle.law_agreement.proofs.Members.{some_same, none_some}

pub by_test : {A : Type 0} (P : A → Type 0) (b : Bool) (x y : A) → (b ≡ true → P x) → (b ≡ false → P y) → P (if b then x else y)
by_test P true x y p q = p refl
by_test P false x y p q = q refl

pub each_append : {X : Type 0} (P : X → Type 0) (xs ys : List X) → AllByRecursion P xs → AllByRecursion P ys → AllByRecursion P (xs ++ ys)
each_append P [] ys a b = b
each_append P (x ∷ xs) ys a b = (a.0, each_append P xs ys a.1 b)

pub each_take : {X : Type 0} (P : X → Type 0) (n : ℕ) (xs : List X) → AllByRecursion P xs → AllByRecursion P (take n xs)
each_take P zero xs a = tt
each_take P (suc n) [] a = tt
each_take P (suc n) (x ∷ xs) a = (a.0, each_take P n xs a.1)

pub each_drop : {X : Type 0} (P : X → Type 0) (n : ℕ) (xs : List X) → AllByRecursion P xs → AllByRecursion P (drop n xs)
each_drop P zero xs a = a
each_drop P (suc n) [] a = tt
each_drop P (suc n) (x ∷ xs) a = each_drop P n xs a.1

pub each_map : {X Y : Type 0} (P : Y → Type 0) (f : X → Y) (xs : List X) → ((x : X) → P (f x)) → AllByRecursion P (map f xs)
each_map P f [] h = tt
each_map P f (x ∷ xs) h = (h x, each_map P f xs h)

pub each_at : {X : Type 0} (P : X → Type 0) (xs : List X) (p : ℕ) (x : X) → AllByRecursion P xs → at_place xs p ≡ Some x → P x
each_at P xs zero x a h = absurd (none_some x h)
each_at P [] (suc p) x a h = absurd (none_some x h)
each_at P (y ∷ xs) (suc zero) x a h = subst P (some_same y x h) a.0
each_at P (y ∷ xs) (suc (suc p)) x a h = each_at P xs (suc p) x a.1 h

pub each_change : {X : Type 0} (P : X → Type 0) (f : X → X) (xs : List X) (p : ℕ) → ((x : X) → P x → P (f x)) → AllByRecursion P xs → AllByRecursion P (change_place f xs p)
each_change P f xs zero h a = a
each_change P f [] (suc p) h a = tt
each_change P f (x ∷ xs) (suc zero) h a = (h x a.0, a.1)
each_change P f (x ∷ xs) (suc (suc p)) h a = (a.0, each_change P f xs (suc p) h a.1)
