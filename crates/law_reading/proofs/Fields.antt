-- The readers of single fields: numbers, letters and truth values.
use Rattle.std.proofs.Common.{◌≡◌, ℕ, zero, suc, ◌+◌, ◌-◌, ◌<◌, ◌≤◌, Bool, true, false, cond, List, [], ◌∷◌, ◌++◌, length, get_or, take, drop, replicate, Ok, Err, refl, sym, ap, subst, ◌∙◌, arith, nat_eq, ltb, leb, inl, inr}
use Rattle.std.specs.Prelude.{◌^◌, ℤ, IsTrue, ◌&&◌, FitsSigned, pos, negsuc}
use Rattle.std.specs.List.{list_all}
use Rattle.ax_types.specs.Letters as ax_types_letters
use Rattle.std.specs.Int.{w32, w64, from_be_bytes, cast_signed, cast_unsigned}
use Rattle.std.proofs.lemmas.Bool.{cases_lt, ltb-false, le-ltb, lt-ltb, leb-true, le-leb}
use Rattle.std.proofs.lemmas.List.{take_at, drop_at, take-append-le, take-append-drop, length-append, length-take, get_or-drop, get_or-take, get_or_past, get_or_append_left, get_or-append_right, get_or-replicate}
use Rattle.std.proofs.lemmas.Int.{of_z-to_z, to_z-of_z}
use Rattle.std.proofs.lemmas.List.Folds.{list_all-append}
use Rattle.std.proofs.lemmas.Nat.{be_bytes_4, be_bytes_8, from_be_bytes-to_be_bytes_4, from_be_bytes-to_be_bytes_8}
use Rattle.spec_wire.specs.NumberBytes as number_bytes
use Rattle.spec_wire.specs.Ranges as ranges
use Rattle.spec_reading.specs.Reading.{◌>>=◌}
use Rattle.spec_reading.specs.Reading as reading
use Rattle.law_reading.proofs.Readers.{Stays, Reads, stable_bind, stable_ok, stable_wrong, stable_if, stable_byte, exact_bind, exact_ok, exact_wrong, exact_if, exact_byte, exact_tag}

pub IsBytes-drop : (n : ℕ) (bytes : List ℕ) → reading.IsBytes bytes → reading.IsBytes (drop n bytes)
IsBytes-drop n bytes h i = rw get_or-drop (h (n + i))

pub IsBytes-take : (n : ℕ) (bytes : List ℕ) → reading.IsBytes bytes → reading.IsBytes (take n bytes)
IsBytes-take n bytes h i =
    elim (cases_lt i n) [
      | inl lt ↦ rw (get_or-take n bytes i 0 lt) (h i)
      | inr le ↦ rw (get_or_past (take n bytes) i 0 (omega (arith, length-take n bytes))) (omega arith)
    ]

abbrev done : {A : Type 0} → A × List ℕ → reading.Reading A
done x = Ok x

-- a test that did not fail
guard_ok : {A : Type 0} (b : Bool) (d : reading.Fault) (x y : A × List ℕ) → cond b (Err d) (done x) ≡ done y → (b ≡ false) × (x ≡ y)
guard_ok true d x y e = absurd cc
guard_ok false d x y e = (refl, cc)

done_is : {A : Type 0} (x y : A × List ℕ) → done x ≡ done y → x ≡ y
done_is x y e = cc

choice_ok : {A : Type 0} (b : Bool) (r : reading.Reading A) (d : reading.Fault) (y : A × List ℕ) → cond b r (Err d) ≡ done y → (b ≡ true) × (r ≡ done y)
choice_ok true r d y e = (refl, e)
choice_ok false r d y e = absurd cc

-- ---- numbers of a width

record IsWide (write : ℕ → List ℕ) (value : List ℕ → ℕ) (len limit : ℕ) : Type 0 where
  length_is : (n : ℕ) → length (write n) ≡ len
  back : (bytes : List ℕ) → length bytes ≡ len → reading.IsBytes bytes → write (value bytes) ≡ bytes
  again : (n : ℕ) → n < limit → value (write n) ≡ n
  below : (bytes : List ℕ) → reading.IsBytes bytes → value bytes < limit

wide32 : IsWide number_bytes.u32_bytes (from_be_bytes w32) 4 (2 ^ 32)
unfolding number_bytes.u32_bytes
wide32 = record {
  length_is = λ n. refl;
  back = λ bytes len fits. be_bytes_4 bytes _ len fits refl;
  again = λ n lt. from_be_bytes-to_be_bytes_4 n lt;
  below = λ bytes fits. omega (arith, fits 0, fits 1, fits 2, fits 3);
}

wide64 : IsWide number_bytes.u64_bytes (from_be_bytes w64) 8 (2 ^ 64)
unfolding number_bytes.u64_bytes
wide64 = record {
  length_is = λ n. refl;
  back = λ bytes len fits. be_bytes_8 bytes _ len fits refl;
  again = λ n lt. from_be_bytes-to_be_bytes_8 n lt;
  below = λ bytes fits. omega (arith, fits 0, fits 1, fits 2, fits 3, fits 4, fits 5, fits 6, fits 7);
}

abbrev wide_at : (List ℕ → ℕ) → ℕ → List ℕ → reading.Reading ℕ
wide_at value len bytes = cond (ltb (length bytes) len) (Err reading.Part) (Ok (value (take len bytes), drop len bytes))

wide_exact : {write : ℕ → List ℕ} {value : List ℕ → ℕ} {len limit : ℕ} → IsWide write value len limit
    → (bytes : List ℕ) (n : ℕ) (rest : List ℕ) → reading.IsBytes bytes → wide_at value len bytes ≡ done (n, rest)
    → (bytes ≡ write n ++ rest) × (n < limit) × reading.IsBytes rest
wide_exact {write} {value} {len} {limit} wide bytes n rest fits e =
    let g = guard_ok (ltb (length bytes) len) reading.Part (value (take len bytes), drop len bytes) (n, rest) e in
    let long : len ≤ length bytes = ltb-false _ _ g.0 in
    let n_is : value (take len bytes) ≡ n = ap (λ (p : ℕ × List ℕ). p.0) g.1 in
    let rest_is : drop len bytes ≡ rest = ap (λ (p : ℕ × List ℕ). p.1) g.1 in
    let front : write n ≡ take len bytes = rw (← n_is) (wide.back (take len bytes) (omega (arith, length-take len bytes)) (IsBytes-take len bytes fits)) in
    (rw (front, ← rest_is) (sym (take-append-drop len bytes)), rw (← n_is) (wide.below (take len bytes) (IsBytes-take len bytes fits)), rw (← rest_is) (IsBytes-drop len bytes fits))

wide_again : {write : ℕ → List ℕ} {value : List ℕ → ℕ} {len limit : ℕ} → IsWide write value len limit
    → (n : ℕ) (rest : List ℕ) → n < limit → wide_at value len (write n ++ rest) ≡ Ok (n, rest)
wide_again {write} {value} {len} wide n rest lt =
    let is_len = wide.length_is n in
    let long : ltb (length (write n ++ rest)) len ≡ false = le-ltb _ _ (omega (arith, length-append (write n) rest)) in
    rw (long, take_at (write n) rest len is_len, drop_at (write n) rest len is_len, wide.again n lt) refl

-- dropping at the front, when more follows
drop-more : (n : ℕ) (bytes more : List ℕ) → n ≤ length bytes → drop n (bytes ++ more) ≡ drop n bytes ++ more
drop-more zero bytes more h = refl
drop-more (suc n) [] more h = absurd (omega arith)
drop-more (suc n) (b ∷ bytes) more h = drop-more n bytes more (omega arith)

wide_stays : (value : List ℕ → ℕ) (len : ℕ) (bytes more : List ℕ) → Stays (wide_at value len bytes) (wide_at value len (bytes ++ more)) more
wide_stays value len bytes more =
    elim (cases_lt (length bytes) len) [
      | inl lt ↦ rw (lt-ltb _ _ lt) tt
      | inr le ↦
          let long : ltb (length (bytes ++ more)) len ≡ false = le-ltb _ _ (omega (arith, length-append bytes more)) in
          rw (le-ltb (length bytes) len le, long, take-append-le len bytes more le, drop-more len bytes more le) refl
    ]

pub u64_reads : Reads reading.u64_at number_bytes.u64_bytes ranges.IsNumber
unfolding reading.u64_at
u64_reads = record {
  again = λ n rest fits. wide_again wide64 n rest fits;
  exact = record { spelled = wide_exact wide64 };
  stable = record { stays = λ bytes more fits. wide_stays (from_be_bytes w64) 8 bytes more };
}

pub u32_reads : Reads reading.u32_at number_bytes.u32_bytes (λ n. n < 2 ^ 32)
unfolding reading.u32_at
u32_reads = record {
  again = λ n rest fits. wide_again wide32 n rest fits;
  exact = record { spelled = wide_exact wide32 };
  stable = record { stays = λ bytes more fits. wide_stays (from_be_bytes w32) 4 bytes more };
}

-- ---- signed numbers

unsigned_below : (z : ℤ) → FitsSigned w64 z → cast_unsigned w64 z < 2 ^ 64
unsigned_below (pos n) h = omega arith
unsigned_below (negsuc n) h = omega arith

pub i64_reads : Reads reading.i64_at number_bytes.i64_bytes ranges.IsSigned
unfolding reading.i64_at number_bytes.i64_bytes number_bytes.u64_bytes
i64_reads = record {
  again = λ z rest fits.
      let small = unsigned_below z fits in
      let e : reading.u64_at (number_bytes.u64_bytes (cast_unsigned w64 z) ++ rest) ≡ Ok (cast_unsigned w64 z, rest) = u64_reads.again (cast_unsigned w64 z) rest small in
      rw (e, to_z-of_z w64 z fits) refl;
  exact = exact_bind _ u64_reads.exact (λ n fits. exact_ok (cast_signed w64 n) (ap number_bytes.u64_bytes (sym (of_z-to_z w64 n fits))) (fits_signed n fits));
  stable = stable_bind _ u64_reads.stable (λ n. stable_ok (cast_signed w64 n));
}
  where
    fits_signed : (n : ℕ) → n < 2 ^ 64 → FitsSigned w64 (cast_signed w64 n)
    fits_signed n h =
        elim (cases_lt n (2 ^ 63)) [
          | inl lt ↦ rw (lt-ltb n (2 ^ 63) lt) (omega arith)
          | inr le ↦ rw (le-ltb n (2 ^ 63) le) (omega arith)
        ]

-- ---- a byte within limits

pub and_true : (a b : Bool) → (a && b) ≡ true → (a ≡ true) × (b ≡ true)
and_true true true h = (refl, refl)
and_true true false h = absurd cc
and_true false b h = absurd cc

pub both : (a b : Bool) → a ≡ true → b ≡ true → (a && b) ≡ true
both true true h k = refl
both true false h k = absurd cc
both false b h k = absurd cc

pub small_reads : (least most : ℕ) → most < 256 → Reads (reading.small_at least most) (λ b. b ∷ []) (λ b. (least ≤ b) × (b ≤ most))
small_reads least most lt = record {
  again = λ b rest fits. rw (both (leb least b) (leb b most) (le-leb _ _ fits.0) (le-leb _ _ fits.1)) refl;
  exact = exact_bind _ exact_byte (λ b fits. exact_if (leb least b && leb b most)
      (λ yes. let tests = and_true (leb least b) (leb b most) yes in exact_ok b refl (leb-true _ _ tests.0, leb-true _ _ tests.1))
      (λ no. exact_wrong));
  stable = stable_bind _ stable_byte (λ b. stable_if (leb least b && leb b most) (stable_ok b) stable_wrong);
}

-- ---- letters

abbrev AreLetters : (ℕ → Bool) → ℕ → List ℕ → Type 0
AreLetters test count letters = (length letters ≡ count) × IsTrue (list_all test letters)

take-short : (n : ℕ) (bytes : List ℕ) → length bytes ≤ n → take n bytes ≡ bytes
take-short zero [] h = refl
take-short zero (b ∷ bytes) h = absurd (omega arith)
take-short (suc n) [] h = refl
take-short (suc n) (b ∷ bytes) h = ap (λ (t : List ℕ). b ∷ t) (take-short n bytes (omega arith))

take-long : (n : ℕ) (bytes more : List ℕ) → length bytes ≤ n → take n (bytes ++ more) ≡ bytes ++ take (n - length bytes) more
take-long n [] more h =
    let less : n - 0 ≡ n = omega arith in
    rw less refl
take-long zero (b ∷ bytes) more h = absurd (omega arith)
take-long (suc n) (b ∷ bytes) more h =
    let less : suc n - suc (length bytes) ≡ n - length bytes = omega arith in
    rw less (ap (λ (t : List ℕ). b ∷ t) (take-long n bytes more (omega arith)))

letters_stay : (test : ℕ → Bool) (count : ℕ) (bytes more : List ℕ) → Stays (reading.letters_at test count bytes) (reading.letters_at test count (bytes ++ more)) more
unfolding reading.letters_at
letters_stay test count bytes more =
    elim (cases_lt (length bytes) count) [
      | inl lt ↦ short lt
      | inr le ↦
          let long : ltb (length (bytes ++ more)) count ≡ false = le-ltb _ _ (omega (arith, length-append bytes more)) in
          rw (long, le-ltb (length bytes) count le, take-append-le count bytes more le, drop-more count bytes more le)
          (chosen (list_all test (take count bytes)))
    ]
  where
    chosen : (b : Bool) → Stays (cond b (done (take count bytes, drop count bytes)) (Err reading.Wrong)) (cond b (done (take count bytes, drop count bytes ++ more)) (Err reading.Wrong)) more
    chosen true = refl
    chosen false = refl

    by_front : (b c : Bool) (later : reading.Reading (List ℕ)) → Stays (cond b (Err reading.Part) (Err reading.Wrong)) (cond (b && c) later (Err reading.Wrong)) more
    by_front true c later = tt
    by_front false c later = refl

    short : length bytes < count → Stays (reading.letters_at test count bytes) (reading.letters_at test count (bytes ++ more)) more
    short lt =
        rw (take-short count bytes (omega arith), take-long count bytes more (omega arith), list_all-append test bytes (take (count - length bytes) more), lt-ltb (length bytes) count lt)
        (by_front (list_all test bytes) (list_all test (take (count - length bytes) more)) _)

pub letters_reads : (test : ℕ → Bool) (count : ℕ) → Reads (reading.letters_at test count) (λ letters. letters) (AreLetters test count)
unfolding reading.letters_at
letters_reads test count = record {
  again = λ letters rest fits.
      let long : ltb (length (letters ++ rest)) count ≡ false = le-ltb _ _ (omega (arith, length-append letters rest, fits.0)) in
      rw (take_at letters rest count fits.0, drop_at letters rest count fits.0, long, fits.1) refl;
  exact = record {
    spelled = λ bytes letters rest fits e.
        let outer = choice_ok (list_all test (take count bytes)) (cond (ltb (length bytes) count) (Err reading.Part) (done (take count bytes, drop count bytes))) reading.Wrong (letters, rest) e in
        let inner = guard_ok (ltb (length bytes) count) reading.Part (take count bytes, drop count bytes) (letters, rest) outer.1 in
        let long : count ≤ length bytes = ltb-false _ _ inner.0 in
        let len : length (take count bytes) ≡ count = omega (arith, length-take count bytes) in
        subst (λ (z : List ℕ × List ℕ). (bytes ≡ z.0 ++ z.1) × AreLetters test count z.0 × reading.IsBytes z.1) inner.1
        (sym (take-append-drop count bytes), (len, outer.0), IsBytes-drop count bytes fits);
  };
  stable = record { stays = λ bytes more fits. letters_stay test count bytes more };
}

-- one byte of length, and the letters
abbrev AreCounted : (ℕ → Bool) → ℕ → List ℕ → Type 0
AreCounted test most letters = (1 ≤ length letters) × (length letters ≤ most) × IsTrue (list_all test letters)

counted_reads : (test : ℕ → Bool) (most : ℕ) → most < 256 → Reads (reading.counted_at test most) number_bytes.counted_bytes (AreCounted test most)
unfolding reading.counted_at
counted_reads test most lt = record {
  again = λ letters rest fits.
      let count_is = (small_reads 1 most lt).again (length letters) (letters ++ rest) (fits.0, fits.1) in
      rw (count_is) ((letters_reads test (length letters)).again letters rest (refl, fits.2));
  exact = exact_bind _ (small_reads 1 most lt).exact (λ count fc. record {
    spelled = λ bytes letters rest fits e.
        let r = (letters_reads test count).exact.spelled bytes letters rest fits e in
        (rw r.1.0 (ap (λ (t : List ℕ). count ∷ t) r.0), (omega (arith, r.1.0, fc.0), omega (arith, r.1.0, fc.1), r.1.1), r.2);
  });
  stable = stable_bind _ (small_reads 1 most lt).stable (λ count. (letters_reads test count).stable);
}

pub reads_as : {A : Type 0} {f : List ℕ → reading.Reading A} {write : A → List ℕ} {Fits Fits' : A → Type 0}
    → ((x : A) → Fits x → Fits' x) → ((x : A) → Fits' x → Fits x) → Reads f write Fits → Reads f write Fits'
reads_as there back r = record {
  again = λ x rest fits. r.again x rest (back x fits);
  exact = record { spelled = λ bytes x rest fits e. let s = r.exact.spelled bytes x rest fits e in (s.0, there x s.1, s.2) };
  stable = r.stable;
}

form_is : (test : ℕ → Bool) (most : ℕ) (letters : List ℕ) → AreCounted test most letters → IsTrue (leb 1 (length letters) && leb (length letters) most && list_all test letters)
form_is test most letters h = both _ _ (both _ _ (le-leb _ _ h.0) (le-leb _ _ h.1)) h.2

form_has : (test : ℕ → Bool) (most : ℕ) (letters : List ℕ) → IsTrue (leb 1 (length letters) && leb (length letters) most && list_all test letters) → AreCounted test most letters
form_has test most letters h =
    let outer = and_true (leb 1 (length letters) && leb (length letters) most) (list_all test letters) h in
    let inner = and_true (leb 1 (length letters)) (leb (length letters) most) outer.0 in
    (leb-true _ _ inner.0, leb-true _ _ inner.1, outer.1)

pub name_reads : Reads reading.name_at number_bytes.counted_bytes ranges.IsName
name_reads = reads_as (form_is ax_types_letters.is_name_byte 32) (form_has ax_types_letters.is_name_byte 32) (counted_reads ax_types_letters.is_name_byte 32 (omega arith))

pub text_reads : Reads reading.text_at number_bytes.counted_bytes ranges.IsText
text_reads = reads_as (form_is ax_types_letters.is_text_byte 64) (form_has ax_types_letters.is_text_byte 64) (counted_reads ax_types_letters.is_text_byte 64 (omega arith))

pub client_reads : Reads reading.client_at (λ c. c ∷ []) ranges.IsClient
client_reads = small_reads 1 16 (omega arith)

-- ---- a number within limits

padded-long : (byte : ℕ) (bytes : List ℕ) → 8 ≤ length bytes → reading.padded_number byte bytes ≡ from_be_bytes w64 (take 8 bytes)
padded-long byte bytes h = ap (from_be_bytes w64) (take-append-le 8 bytes (replicate 8 byte) h)

value-le : (xs ys : List ℕ) → ((i : ℕ) → i < 8 → get_or xs i 0 ≤ get_or ys i 0) → from_be_bytes w64 xs ≤ from_be_bytes w64 ys
value-le xs ys h =
    omega (arith, h 0 (omega arith), h 1 (omega arith), h 2 (omega arith), h 3 (omega arith), h 4 (omega arith), h 5 (omega arith), h 6 (omega arith), h 7 (omega arith))

padded_cell : (byte : ℕ) (bytes : List ℕ) (i : ℕ) → i < 8 → get_or (take 8 (bytes ++ replicate 8 byte)) i 0 ≡ get_or (bytes ++ replicate 8 byte) i 0
padded_cell byte bytes i h = get_or-take 8 (bytes ++ replicate 8 byte) i 0 h

low-more : (bytes more : List ℕ) (i : ℕ) → i < 8 → get_or (bytes ++ replicate 8 0) i 0 ≤ get_or ((bytes ++ more) ++ replicate 8 0) i 0
low-more bytes more i h =
    elim (cases_lt i (length bytes)) [
      | inl lt ↦
          let long : i < length (bytes ++ more) = omega (arith, length-append bytes more) in
          omega (arith, get_or_append_left bytes (replicate 8 0) 0 i lt, get_or_append_left (bytes ++ more) (replicate 8 0) 0 i long, get_or_append_left bytes more 0 i lt)
      | inr le ↦ omega (arith, get_or-append_right bytes (replicate 8 0) (length bytes) i 0 refl le, get_or-replicate {A = ℕ} 8 (i - length bytes) 0 0 (omega arith))
    ]

high-more : (bytes more : List ℕ) → reading.IsBytes more → (i : ℕ) → i < 8 → get_or ((bytes ++ more) ++ replicate 8 255) i 0 ≤ get_or (bytes ++ replicate 8 255) i 0
high-more bytes more fits i h =
    elim (cases_lt i (length bytes)) [
      | inl lt ↦
          let long : i < length (bytes ++ more) = omega (arith, length-append bytes more) in
          omega (arith, get_or_append_left bytes (replicate 8 255) 0 i lt, get_or_append_left (bytes ++ more) (replicate 8 255) 0 i long, get_or_append_left bytes more 0 i lt)
      | inr le ↦
          let top = get_or-append_right bytes (replicate 8 255) (length bytes) i 0 refl le in
          let top_is = get_or-replicate {A = ℕ} 8 (i - length bytes) 255 0 (omega arith) in
          elim (cases_lt i (length (bytes ++ more))) [
            | inl lt ↦ omega (arith, top, top_is, get_or_append_left (bytes ++ more) (replicate 8 255) 0 i lt, get_or-append_right bytes more (length bytes) i 0 refl le, fits (i - length bytes))
            | inr more_le ↦ omega (arith, top, top_is, get_or-append_right (bytes ++ more) (replicate 8 255) (length (bytes ++ more)) i 0 refl more_le, get_or-replicate {A = ℕ} 8 (i - length (bytes ++ more)) 255 0 (omega arith))
          ]
    ]

low-number-more : (bytes more : List ℕ) → reading.padded_number 0 bytes ≤ reading.padded_number 0 (bytes ++ more)
low-number-more bytes more =
    value-le (take 8 (bytes ++ replicate 8 0)) (take 8 ((bytes ++ more) ++ replicate 8 0))
    (λ i h. rw (padded_cell 0 bytes i h, padded_cell 0 (bytes ++ more) i h) (low-more bytes more i h))

high-number-more : (bytes more : List ℕ) → reading.IsBytes more → reading.padded_number 255 (bytes ++ more) ≤ reading.padded_number 255 bytes
high-number-more bytes more fits =
    value-le (take 8 ((bytes ++ more) ++ replicate 8 255)) (take 8 (bytes ++ replicate 8 255))
    (λ i h. rw (padded_cell 255 bytes i h, padded_cell 255 (bytes ++ more) i h) (high-more bytes more fits i h))

abbrev is_possible : ℕ → ℕ → List ℕ → Bool
is_possible least most bytes = leb least (reading.padded_number 255 bytes) && leb (reading.padded_number 0 bytes) most

-- what became impossible stays so
impossible-more : (least most : ℕ) (bytes more : List ℕ) → reading.IsBytes more → is_possible least most bytes ≡ false → is_possible least most (bytes ++ more) ≡ false
impossible-more least most bytes more fits h = by_later (is_possible least most (bytes ++ more)) refl
  where
    by_later : (b : Bool) → is_possible least most (bytes ++ more) ≡ b → b ≡ false
    by_later false e = refl
    by_later true e =
        let tests = and_true (leb least (reading.padded_number 255 (bytes ++ more))) (leb (reading.padded_number 0 (bytes ++ more)) most) e in
        let low = leb-true _ _ tests.0 in
        let high = leb-true _ _ tests.1 in
        let sooner : is_possible least most bytes ≡ true = both (leb least (reading.padded_number 255 bytes)) (leb (reading.padded_number 0 bytes) most) (le-leb _ _ (omega (arith, low, high-number-more bytes more fits))) (le-leb _ _ (omega (arith, high, low-number-more bytes more))) in
        sym sooner ∙ h

within_stays : (least most : ℕ) (bytes more : List ℕ) → reading.IsBytes more → Stays (reading.within_at least most bytes) (reading.within_at least most (bytes ++ more)) more
unfolding reading.within_at
within_stays least most bytes more fits =
    elim (cases_lt (length bytes) 8) [
      | inl lt ↦ rw (lt-ltb (length bytes) 8 lt) (short (is_possible least most bytes) refl)
      | inr le ↦
          let longer : 8 ≤ length (bytes ++ more) = omega (arith, length-append bytes more) in
          rw (
            padded-long 255 bytes le,
            padded-long 0 bytes le,
            padded-long 255 (bytes ++ more) longer,
            padded-long 0 (bytes ++ more) longer,
            take-append-le 8 bytes more le,
            le-ltb (length bytes) 8 le,
            le-ltb (length (bytes ++ more)) 8 longer,
            drop-more 8 bytes more le,
          )
          (chosen _ (leb least (from_be_bytes w64 (take 8 bytes)) && leb (from_be_bytes w64 (take 8 bytes)) most))
    ]
  where
    chosen : (n : ℕ) (b : Bool) → Stays (cond b (done (n, drop 8 bytes)) (Err reading.Wrong)) (cond b (done (n, drop 8 bytes ++ more)) (Err reading.Wrong)) more
    chosen n true = refl
    chosen n false = refl

    short : (b : Bool) → is_possible least most bytes ≡ b → Stays (cond b (Err reading.Part) (Err reading.Wrong)) (reading.within_at least most (bytes ++ more)) more
    short true e = tt
    short false e = rw (impossible-more least most bytes more fits e) refl

within-long : (least most : ℕ) (bytes : List ℕ) → 8 ≤ length bytes
    → reading.within_at least most bytes ≡ cond (leb least (from_be_bytes w64 (take 8 bytes)) && leb (from_be_bytes w64 (take 8 bytes)) most) (done (from_be_bytes w64 (take 8 bytes), drop 8 bytes)) (Err reading.Wrong)
unfolding reading.within_at
within-long least most bytes le = rw (padded-long 255 bytes le, padded-long 0 bytes le, le-ltb (length bytes) 8 le) refl

within_short : (least most : ℕ) (bytes : List ℕ) (y : ℕ × List ℕ) → length bytes < 8 → reading.within_at least most bytes ≡ done y → ⊥
unfolding reading.within_at
within_short least most bytes y lt e = neither (is_possible least most bytes) (rw (lt-ltb (length bytes) 8 lt) at e)
  where
    neither : (b : Bool) → cond b (Err reading.Part) (Err reading.Wrong) ≡ done y → ⊥
    neither true e = cc
    neither false e = cc

pub within_reads : (least most : ℕ) → most < 2 ^ 64 → Reads (reading.within_at least most) number_bytes.u64_bytes (λ n. (least ≤ n) × (n ≤ most))
within_reads least most lt = record {
  again = λ n rest fits.
      let len = wide64.length_is n in
      let long : 8 ≤ length (number_bytes.u64_bytes n ++ rest) = omega (arith, length-append (number_bytes.u64_bytes n) rest) in
      let below : n < 2 ^ 64 = omega arith in
      within-long least most (number_bytes.u64_bytes n ++ rest) long
      ∙ rw (take_at (number_bytes.u64_bytes n) rest 8 len, drop_at (number_bytes.u64_bytes n) rest 8 len, wide64.again n below, both (leb least n) (leb n most) (le-leb _ _ fits.0) (le-leb _ _ fits.1)) refl;
  exact = record {
    spelled = λ bytes n rest fits e.
        elim (cases_lt (length bytes) 8) [
          | inl short ↦ absurd (within_short least most bytes (n, rest) short e)
          | inr long ↦
              let value : ℕ = from_be_bytes w64 (take 8 bytes) in
              let c = choice_ok (leb least value && leb value most) (done (value, drop 8 bytes)) reading.Wrong (n, rest) (sym (within-long least most bytes long) ∙ e) in
              let tests = and_true (leb least value) (leb value most) c.0 in
              let front : number_bytes.u64_bytes value ≡ take 8 bytes = wide64.back (take 8 bytes) (omega (arith, length-take 8 bytes)) (IsBytes-take 8 bytes fits) in
              subst (λ (z : ℕ × List ℕ). (bytes ≡ number_bytes.u64_bytes z.0 ++ z.1) × ((least ≤ z.0) × (z.0 ≤ most)) × reading.IsBytes z.1) (done_is (value, drop 8 bytes) (n, rest) c.1)
              (rw front (sym (take-append-drop 8 bytes)), (leb-true _ _ tests.0, leb-true _ _ tests.1), IsBytes-drop 8 bytes fits)
        ];
  };
  stable = record { stays = λ bytes more fits. within_stays least most bytes more fits };
}

pub life_reads : Reads reading.life_at number_bytes.u64_bytes ranges.IsLife
life_reads = within_reads 1 1000000000 (omega arith)

-- ---- a truth value

truth_again : (b : Bool) (rest : List ℕ) → reading.truth_at (number_bytes.truth_bytes b ++ rest) ≡ Ok (b, rest)
truth_again false rest = refl
truth_again true rest = refl

pub truth_reads : Reads reading.truth_at number_bytes.truth_bytes (λ b. Unit {0})
truth_reads = record {
  again = λ b rest fits. truth_again b rest;
  exact = exact_bind _ exact_byte (λ n fn. exact_tag n 0 (exact_ok false refl tt) (exact_tag n 1 (exact_ok true refl tt) exact_wrong));
  stable = stable_bind _ stable_byte (λ n. stable_if (nat_eq n 0) (stable_ok false) (stable_if (nat_eq n 1) (stable_ok true) stable_wrong));
}
