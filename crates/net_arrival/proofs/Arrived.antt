-- A payload arrives exactly where all bytes of its spelling do.
use Rattle.std.proofs.Common.{◌≡◌, ◌≤◌, ◌<◌, ℕ, zero, suc, List, [], ◌∷◌, ◌++◌, length, take, drop, refl, ap, sym, subst, ◌∙◌, arith}
use Rattle.std.specs.Prelude.{Bool, true, false, nat_lt, Option, Some, None, Err, IsTrue, if◌then◌else◌}
use Rattle.std.proofs.lemmas.Bool.Decides.{nat_tests}
use Rattle.ax_types.specs.declared.packets.Payload.{Payload}
use Rattle.spec_wire.specs.Ranges as ranges
use Rattle.spec_wire.specs.Spelling as spelling
use Rattle.spec_reading.specs.Reading as reading
use Rattle.spec_reading.specs.Packets as packets
use Rattle.law_reading.proofs.Fields.{IsBytes-drop}
use Rattle.law_reading.proofs.Laws.{read_of, part_of}
use Rattle.law_reading.proofs.Packets.{payload_reads}
use Rattle.net_arrival.specs.Arrivals as arrivals

append_nil : {X : Type 0} (xs : List X) → xs ++ [] ≡ xs
append_nil [] = refl
append_nil (x ∷ xs) = ap (λ ys. x ∷ ys) (append_nil xs)

whole_read : (p : Payload) → ranges.FitsPayload p → IsTrue (spelling.is_spelled p) → packets.payload_read (spelling.payload_bytes p) ≡ Some (p, spelling.payload_length p)
whole_read p fits spelled = subst (λ bytes. packets.payload_read bytes ≡ Some (p, spelling.payload_length p)) (append_nil (spelling.payload_bytes p)) (read_of payload_reads p [] (fits, spelled))

-- the place at which a list is cut
record IsSplit (n : ℕ) (xs : List ℕ) : Type 0 where
  pub first : ℕ
  pub rest : List ℕ
  pub behind : drop n xs ≡ first ∷ rest
  pub same : xs ≡ take n xs ++ (first ∷ rest)

split : (n : ℕ) (xs : List ℕ) → n < length xs → IsSplit n xs
split zero [] l = absurd (omega (arith, l))
split zero (x ∷ xs) l = record { first = x; rest = xs; behind = refl; same = refl }
split (suc n) [] l = absurd (omega (arith, l))
split (suc n) (x ∷ xs) l = let s = split n xs (omega (arith, l)) in record { first = s.first; rest = s.rest; behind = s.behind; same = ap (λ ys. x ∷ ys) s.same }

torn_read : (p : Payload) (n : ℕ) → ranges.FitsPayload p → IsTrue (spelling.is_spelled p) → reading.IsBytes (spelling.payload_bytes p) → n < length (spelling.payload_bytes p)
    → packets.payload_read (take n (spelling.payload_bytes p)) ≡ None
torn_read p n fits spelled bytes l =
    let s = split n (spelling.payload_bytes p) l in
    let rest : reading.IsBytes (s.first ∷ s.rest) = subst reading.IsBytes s.behind (IsBytes-drop n (spelling.payload_bytes p) bytes) in
    rw (part_of payload_reads p (take n (spelling.payload_bytes p)) s.first s.rest (fits, spelled) rest s.same) refl

all_taken : (n : ℕ) (xs : List ℕ) → length xs ≤ n → take n xs ≡ xs
all_taken zero [] l = refl
all_taken (suc n) [] l = refl
all_taken zero (x ∷ xs) l = absurd (omega (arith, l))
all_taken (suc n) (x ∷ xs) l = ap (λ ys. x ∷ ys) (all_taken n xs (omega (arith, l)))

below : (a b : ℕ) → nat_lt a b ≡ true → a < b
below a b e = grind (arith, nat_tests)

reached : (a b : ℕ) → nat_lt a b ≡ false → b ≤ a
reached a b e = grind (arith, nat_tests)

by_length : (p : Payload) (n : ℕ) → ranges.FitsPayload p → IsTrue (spelling.is_spelled p) → reading.IsBytes (spelling.payload_bytes p)
    → (b : Bool) → nat_lt n (length (spelling.payload_bytes p)) ≡ b → arrivals.payload_in (packets.payload_read (take n (spelling.payload_bytes p))) ≡ (if b then None else Some p)
by_length p n fits spelled bytes true e = ap arrivals.payload_in (torn_read p n fits spelled bytes (below n (length (spelling.payload_bytes p)) e))
by_length p n fits spelled bytes false e =
    ap (λ front. arrivals.payload_in (packets.payload_read front)) (all_taken n (spelling.payload_bytes p) (reached n (length (spelling.payload_bytes p)) e)) ∙ ap arrivals.payload_in (whole_read p fits spelled)

pub arrives : (most : Option ℕ) (p : Payload) → ranges.FitsPayload p → IsTrue (spelling.is_spelled p) → reading.IsBytes (spelling.payload_bytes p)
    → arrivals.payload_in (packets.payload_read (arrivals.front most (spelling.payload_bytes p))) ≡ arrivals.arrived most p
arrives None p fits spelled bytes = ap arrivals.payload_in (whole_read p fits spelled)
arrives (Some n) p fits spelled bytes = by_length p n fits spelled bytes (nat_lt n (length (spelling.payload_bytes p))) refl
