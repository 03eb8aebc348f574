-- What readers owe, put as laws on bytes: a torn part, no spelling within another, and the number of bytes read.
use Rattle.std.proofs.Common.{◌≡◌, ℕ, ◌+◌, ◌-◌, ◌≤◌, List, [], ◌∷◌, ◌++◌, length, take, Some, Ok, Err, refl, sym, ap, subst, ◌∙◌, arith}
use Rattle.std.proofs.lemmas.List.{length-append, take_at}
use Rattle.spec_reading.specs.Reading.{◌>>=◌}
use Rattle.spec_reading.specs.Reading as reading_reading
use Rattle.law_reading.proofs.Readers.{Stays, Reads, ok_is}

abbrev ok : {A : Type 0} → A × List ℕ → reading_reading.Reading A
ok x = Ok x

append_nil : (xs : List ℕ) → xs ++ [] ≡ xs
append_nil [] = refl
append_nil (x ∷ xs) = ap (λ (t : List ℕ). x ∷ t) (append_nil xs)

rest_is : {A : Type 0} (x y : A) (a b : List ℕ) → ok (x, a) ≡ ok (y, b) → a ≡ b
rest_is {A = A} x y a b e = ap (λ (z : A × List ℕ). z.1) (ok_is (x, a) (y, b) e)

-- a reading that stays what it is up to a whole spelling, and is not whole before its end, is a part
torn : {A : Type 0} (r : reading_reading.Reading A) (x : A) (b : ℕ) (more : List ℕ) → Stays r (ok (x, [])) (b ∷ more) → r ≡ Err reading_reading.Part
torn (Ok (y, rest)) x b more s = absurd (no_rest rest (rest_is x y [] (rest ++ (b ∷ more)) s))
  where
    no_rest : (rest : List ℕ) → [] ≡ rest ++ (b ∷ more) → ⊥
    no_rest [] e = cc
    no_rest (c ∷ rest) e = cc
torn (Err reading_reading.Part) x b more s = refl
torn (Err reading_reading.Wrong) x b more s = absurd cc

-- the strict front of a spelling is a part
pub part_of : {A : Type 0} {f : List ℕ → reading_reading.Reading A} {write : A → List ℕ} {Fits : A → Type 0} → Reads f write Fits
    → (x : A) (front : List ℕ) (b : ℕ) (more : List ℕ) → Fits x → reading_reading.IsBytes (b ∷ more) → write x ≡ front ++ (b ∷ more) → f front ≡ Err reading_reading.Part
part_of {f = f} {write = write} r x front b more fits bytes same =
    let whole : f (front ++ (b ∷ more)) ≡ ok (x, []) = rw (← same) (ap f (sym (append_nil (write x))) ∙ r.again x [] fits) in
    torn (f front) x b more (rw (← whole) (r.stable.stays front (b ∷ more) bytes))

value_is : {A : Type 0} (x y : A) (a b : List ℕ) → ok (x, a) ≡ ok (y, b) → x ≡ y
value_is {A = A} x y a b e = ap (λ (z : A × List ℕ). z.0) (ok_is (x, a) (y, b) e)

-- equal bytes that begin with two spellings begin with the same
pub one_spelling : {A : Type 0} {f : List ℕ → reading_reading.Reading A} {write : A → List ℕ} {Fits : A → Type 0} → Reads f write Fits
    → (x y : A) (a b : List ℕ) → Fits x → Fits y → write x ++ a ≡ write y ++ b → (x ≡ y) × (a ≡ b)
one_spelling {f = f} r x y a b fx fy same =
    let e = sym (r.again x a fx) ∙ ap f same ∙ r.again y b fy in
    (value_is x y a b e, rest_is x y a b e)

-- the number of bytes read is the length of the spelling
pub read_of : {A : Type 0} {f : List ℕ → reading_reading.Reading A} {write : A → List ℕ} {Fits : A → Type 0} → Reads f write Fits
    → (x : A) (rest : List ℕ) → Fits x → reading_reading.value_and_length (write x ++ rest) (f (write x ++ rest)) ≡ Some (x, length (write x))
read_of {write = write} r x rest fits =
    let len : length (write x ++ rest) - length rest ≡ length (write x) = omega (arith, length-append (write x) rest) in
    rw (r.again x rest fits) (rw len refl)

pub record IsRead {A : Type 0} (write : A → List ℕ) (Fits : A → Type 0) (bytes : List ℕ) (x : A) (len : ℕ) : Type 0 where
  pub within : len ≤ length bytes
  pub spelled : take len bytes ≡ write x
  pub fits : Fits x

pub of_read : {A : Type 0} {f : List ℕ → reading_reading.Reading A} {write : A → List ℕ} {Fits : A → Type 0} → Reads f write Fits
    → (bytes : List ℕ) (x : A) (len : ℕ) → reading_reading.IsBytes bytes → reading_reading.value_and_length bytes (f bytes) ≡ Some (x, len) → IsRead write Fits bytes x len
of_read {A = A} {f = f} {write = write} {Fits = Fits} r bytes x len fits e = by_reading (f bytes) refl e
  where
    found : (y : A) (rest : List ℕ) → f bytes ≡ ok (y, rest) → IsRead write Fits bytes y (length bytes - length rest)
    found y rest is_ok =
        let s = r.exact.spelled bytes y rest fits is_ok in
        let len_is : length bytes ≡ length (write y) + length rest = ap length s.0 ∙ length-append (write y) rest in
        record {
          within = omega arith;
          spelled = rw s.0 (take_at (write y) rest (length (write y ++ rest) - length rest) (omega (arith, length-append (write y) rest)));
          fits = s.1;
        }

    some_is : (p q : A × ℕ) → Some p ≡ Some q → p ≡ q
    some_is p q e = cc

    by_reading : (reading : reading_reading.Reading A) → f bytes ≡ reading → reading_reading.value_and_length bytes reading ≡ Some (x, len) → IsRead write Fits bytes x len
    by_reading (Ok (y, rest)) is_ok e = subst (λ (z : A × ℕ). IsRead write Fits bytes z.0 z.1) (some_is (y, length bytes - length rest) (x, len) e) (found y rest is_ok)
    by_reading (Err d) is_ok e = absurd cc
