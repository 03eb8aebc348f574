-- Names, keys and texts are read as they are, and pairs where both are.
use Rattle.std.proofs.Common.{◌≡◌, List, [], ◌∷◌, ap}
use Rattle.std.specs.Prelude.{Option, Some, None, if◌then◌else◌}
use Rattle.spec_text.specs.Words as words
use Rattle.spec_wire.specs.Ranges as ranges

-- a word and what stands behind it
abbrev pub read_by : {A : Type 0} → (words.Word → List words.Word → Option A) → List words.Word → Option A
read_by f [] = None
read_by f (w ∷ ws) = f w ws

pub name-read : (w : words.Word) → ranges.IsName w → words.name_of w ≡ Some w
name-read w h = ap (λ v. if v then Some w else None) h

pub text-read : (w : words.Word) → ranges.IsText w → words.text_of w ≡ Some w
text-read w h = ap (λ v. if v then Some w else None) h

pub both-read : {A B C : Type 0} (f : A → B → C) {a : Option A} {b : Option B} {x : A} {y : B} → a ≡ Some x → b ≡ Some y → words.both f a b ≡ Some (f x y)
both-read f h k = λ i. words.both f (h i) (k i)

pub pair-read : {A B : Type 0} {a : Option A} {b : Option B} {x : A} {y : B} → a ≡ Some x → b ≡ Some y → words.both {C = A × B} (λ p q. (p, q)) a b ≡ Some (x, y)
pair-read h k = λ i. words.both (λ p q. (p, q)) (h i) (k i)
