-- The reader of records reads what is spelled, and nothing else.
use Rattle.std.proofs.Common.{◌≡◌, ◌⊎◌, ℕ, ◌+◌, ◌-◌, ◌<◌, ◌≤◌, Bool, true, false, cond, List, [], ◌∷◌, ◌++◌, length, take, replicate, Option, Some, None, Ok, Err, refl, ap, sym, nat_eq, leb, arith, inl, inr, ◌∙◌}
use Rattle.std.specs.Prelude.{◌^◌, ◌&&◌, slice_index}
use Rattle.std.specs.Int.{w64, from_be_bytes}
use Rattle.std.proofs.lemmas.Bool.{eqb-true, eqb-false, ne_eqb, cases_lt, leb-true}
use Rattle.std.proofs.lemmas.List.{get_or_append_left, get_or-append_right, get_or-replicate, get_or_past}
use Rattle.spec_wire.specs.NumberBytes as number_bytes
use Rattle.spec_wire.specs.Ranges as ranges
use Rattle.spec_reading.specs.Reading as reading
use Rattle.spec_reading.specs.Packets as packets
use Rattle.law_reading.proofs.Laws.{part_of}
use Rattle.law_reading.proofs.Readers.{Reads, IsExact, IsStable, exact_bind, exact_ok, exact_wrong, exact_if, exact_tag, exact_byte, exact_one, exact_two, stable_bind, stable_ok, stable_wrong, stable_if, stable_byte, stable_one, stable_two, again_one, again_two, again_bind}
use Rattle.law_reading.proofs.Fields.{small_reads, u64_reads, within_reads, IsBytes-take}
use Rattle.law_reading.proofs.Entries.{entry_reads}
use Rattle.spec_journal.specs.Records as journal_records

vote_again : (v : Option ℕ) (rest : List ℕ) → journal_records.IsVote v → journal_records.vote_at (journal_records.vote_bytes v ++ rest) ≡ Ok (v, rest)
vote_again None rest fits = refl
vote_again (Some node) rest fits =
    let other : node ≡ 0 → ⊥ = λ e. omega arith in
    again_bind _ node rest _ (small_reads 0 9 (omega arith)) (omega arith, fits.1) (rw (ne_eqb node 0 other) refl)

vote_reads : Reads journal_records.vote_at journal_records.vote_bytes journal_records.IsVote
vote_reads = record {
  again = vote_again;
  exact = exact_bind _ (small_reads 0 9 (omega arith)).exact (λ node fn. exact_if (nat_eq node 0)
      (λ same. exact_ok None (ap (λ (n : ℕ). n ∷ []) (eqb-true node 0 same)) tt)
      (λ other. let ne : node ≡ 0 → ⊥ = eqb-false node 0 other in exact_ok (Some node) refl (omega arith, fn.1)));
  stable = stable_bind _ (small_reads 0 9 (omega arith)).stable (λ node. stable_if (nat_eq node 0) (stable_ok None) (stable_ok (Some node)));
}

-- ---- a number that has to be a certain one

padded_bytes : (bytes : List ℕ) → reading.IsBytes bytes → reading.IsBytes (bytes ++ replicate 8 255)
padded_bytes bytes fits i =
    elim (cases_lt i (length bytes)) [
      | inl lt ↦ omega (arith, get_or_append_left bytes (replicate 8 255) 0 i lt, fits i)
      | inr le ↦ rw (get_or-append_right bytes (replicate 8 255) (length bytes) i 0 refl le) (behind (i - length bytes))
    ]
  where
    behind : (k : ℕ) → slice_index (replicate 8 255) k < 256
    behind k = elim (cases_lt k 8) [ inl lt ↦ omega (arith, get_or-replicate {A = ℕ} 8 k 255 0 lt) | inr le ↦ omega (arith, get_or_past {X = ℕ} (replicate 8 255) k 0 le) ]

eight_below : (bytes : List ℕ) → reading.IsBytes bytes → from_be_bytes w64 bytes < 2 ^ 64
eight_below bytes fits = omega (arith, fits 0, fits 1, fits 2, fits 3, fits 4, fits 5, fits 6, fits 7)

-- no number of eight bytes is that great
too_great : (e : ℕ) (bytes : List ℕ) (read : ℕ × List ℕ) → 2 ^ 64 ≤ e → reading.IsBytes bytes → reading.within_at e e bytes ≡ Ok read → ⊥
unfolding reading.within_at
too_great e bytes read le fits same =
    by_tests (leb e (reading.padded_number 255 bytes)) (leb (reading.padded_number 0 bytes) e) _ refl same
  where
    below : reading.padded_number 255 bytes < 2 ^ 64
    below = eight_below (take 8 (bytes ++ replicate 8 255)) (IsBytes-take 8 (bytes ++ replicate 8 255) (padded_bytes bytes fits))

    by_tests : (low high : Bool) (r : reading.Reading ℕ) → leb e (reading.padded_number 255 bytes) ≡ low → cond (low && high) r (Err reading.Wrong) ≡ Ok read → ⊥
    by_tests true high r is same = omega (arith, below, le, leb-true _ _ is)
    by_tests false high r is same = cc

number_exact : (e : ℕ) → IsExact number_bytes.u64_bytes (λ n. (n ≡ e) × ranges.IsNumber n) [] (reading.within_at e e)
number_exact e =
    elim (cases_lt e (2 ^ 64)) [
      | inl lt ↦ record {
        spelled = λ bytes n rest fits same.
            let s = (within_reads e e lt).exact.spelled bytes n rest fits same in
            let is : n ≡ e = omega (arith, s.1.0, s.1.1) in
            (s.0, (is, omega (arith, is, lt)), s.2);
      }
      | inr le ↦ record { spelled = λ bytes n rest fits same. absurd (too_great e bytes (n, rest) le fits same) }
    ]

-- ---- records

pub record_again : (counted : Bool) (entries : ℕ) (x : journal_records.Record) (rest : List ℕ) → journal_records.FitsRecord counted entries x
    → journal_records.record_at counted entries (journal_records.record_bytes x ++ rest) ≡ Ok (x, rest)
unfolding journal_records.record_at
record_again counted entries (journal_records.Vote term vote) rest (ft, fv) = again_two journal_records.Vote u64_reads vote_reads term vote rest ft fv
record_again counted entries (journal_records.Cut last) rest fits = again_one journal_records.Cut u64_reads last rest fits
record_again false entries (journal_records.Plain entry) rest (fc, fe) = again_one journal_records.Plain entry_reads entry rest fe
record_again true entries (journal_records.Plain entry) rest (fc, fe) = absurd cc
record_again false entries (journal_records.Count count) rest (fc, same, fn) = again_one journal_records.Count (within_reads entries entries (omega arith)) count rest (omega arith, omega arith)
record_again true entries (journal_records.Count count) rest (fc, same, fn) = absurd cc
record_again true entries (journal_records.Placed place entry) rest (fc, same, fn, fe) = again_two journal_records.Placed (within_reads (entries + 1) (entries + 1) (omega arith)) entry_reads place entry rest (omega arith, omega arith) fe
record_again false entries (journal_records.Placed place entry) rest (fc, same, fn, fe) = absurd cc

placed_exact : (counted : Bool) (entries : ℕ)
    → IsExact journal_records.record_bytes (journal_records.FitsRecord counted entries) (0x15 ∷ []) (λ bytes. cond counted (reading.two_fields (reading.within_at (entries + 1) (entries + 1)) packets.entry_at journal_records.Placed bytes) (Err reading.Wrong))
placed_exact true entries = exact_bind _ (number_exact (entries + 1)) (λ a fa. exact_bind _ entry_reads.exact (λ b fb. exact_ok (journal_records.Placed a b) refl (refl, fa.0, fa.1, fb)))
placed_exact false entries = exact_wrong

count_exact : (counted : Bool) (entries : ℕ)
    → IsExact journal_records.record_bytes (journal_records.FitsRecord counted entries) (0x14 ∷ []) (λ bytes. cond counted (Err reading.Wrong) (reading.one_field (reading.within_at entries entries) journal_records.Count bytes))
count_exact true entries = exact_wrong
count_exact false entries = exact_bind _ (number_exact entries) (λ a fa. exact_ok (journal_records.Count a) refl (refl, fa.0, fa.1))

plain_exact : (counted : Bool) (entries : ℕ)
    → IsExact journal_records.record_bytes (journal_records.FitsRecord counted entries) (0x13 ∷ []) (λ bytes. cond counted (Err reading.Wrong) (reading.one_field packets.entry_at journal_records.Plain bytes))
plain_exact true entries = exact_wrong
plain_exact false entries = exact_one journal_records.Plain entry_reads (λ a. refl) (λ a fa. (refl, fa))

pub record_exact : (counted : Bool) (entries : ℕ) → IsExact journal_records.record_bytes (journal_records.FitsRecord counted entries) [] (journal_records.record_at counted entries)
unfolding journal_records.record_at
record_exact counted entries =
    exact_bind _ exact_byte (λ n fn.
    exact_tag n 0x11 (exact_two journal_records.Vote u64_reads vote_reads (λ a b. refl) (λ a b fa fb. (fa, fb))) (
    exact_tag n 0x12 (exact_one journal_records.Cut u64_reads (λ a. refl) (λ a fa. fa)) (
    exact_tag n 0x13 (plain_exact counted entries) (
    exact_tag n 0x14 (count_exact counted entries) (
    exact_tag n 0x15 (placed_exact counted entries)
    exact_wrong)))))

-- there is room for the number that a record of the number of entries, or of a place, has to have
abbrev HasRoom : Bool → ℕ → Type 0
HasRoom true entries = entries + 1 < 2 ^ 64
HasRoom false entries = entries < 2 ^ 64

placed_stable : (counted : Bool) (entries : ℕ) → HasRoom counted entries
    → IsStable (λ bytes. cond counted (reading.two_fields (reading.within_at (entries + 1) (entries + 1)) packets.entry_at journal_records.Placed bytes) (Err reading.Wrong))
placed_stable true entries lt = stable_two journal_records.Placed (within_reads (entries + 1) (entries + 1) lt).stable entry_reads.stable
placed_stable false entries lt = stable_wrong

count_stable : (counted : Bool) (entries : ℕ) → HasRoom counted entries
    → IsStable (λ bytes. cond counted (Err reading.Wrong) (reading.one_field (reading.within_at entries entries) journal_records.Count bytes))
count_stable true entries lt = stable_wrong
count_stable false entries lt = stable_one journal_records.Count (within_reads entries entries lt).stable

record_reads : (counted : Bool) (entries : ℕ) → HasRoom counted entries → Reads (journal_records.record_at counted entries) journal_records.record_bytes (journal_records.FitsRecord counted entries)
unfolding journal_records.record_at
record_reads counted entries lt = record {
  again = record_again counted entries;
  exact = record_exact counted entries;
  stable = stable_bind _ stable_byte (λ n.
      stable_if (nat_eq n 0x11) (stable_two journal_records.Vote u64_reads.stable vote_reads.stable) (
      stable_if (nat_eq n 0x12) (stable_one journal_records.Cut u64_reads.stable) (
      stable_if (nat_eq n 0x13) (stable_if counted stable_wrong (stable_one journal_records.Plain entry_reads.stable)) (
      stable_if (nat_eq n 0x14) (count_stable counted entries lt) (
      stable_if (nat_eq n 0x15) (placed_stable counted entries lt)
      stable_wrong)))));
}

-- ---- the strict front of a record

-- a record of a kind that has no such number is read the same behind any number of entries
no_number : (counted : Bool) (entries kind : ℕ) (bytes : List ℕ) → (kind ≡ 0x11) ⊎ ((kind ≡ 0x12) ⊎ (kind ≡ 0x13))
    → journal_records.record_at counted entries (kind ∷ bytes) ≡ journal_records.record_at counted 0 (kind ∷ bytes)
unfolding journal_records.record_at
no_number counted entries kind bytes (inl is) = rw is refl
no_number counted entries kind bytes (inr (inl is)) = rw is refl
no_number counted entries kind bytes (inr (inr is)) = rw is refl

front_without : (counted : Bool) (entries kind : ℕ) (x : journal_records.Record) (fields front : List ℕ) (b : ℕ) (more : List ℕ)
    → (kind ≡ 0x11) ⊎ ((kind ≡ 0x12) ⊎ (kind ≡ 0x13)) → journal_records.record_bytes x ≡ kind ∷ fields → journal_records.FitsRecord counted 0 x → reading.IsBytes (b ∷ more)
    → journal_records.record_bytes x ≡ front ++ (b ∷ more) → journal_records.record_at counted entries front ≡ Err reading.Part
unfolding journal_records.record_at
front_without counted entries kind x fields [] b more is spelled fits bytes same = refl
front_without counted entries kind x fields (k ∷ front) b more is spelled fits bytes same =
    let first : k ≡ kind = cc (spelled, same) in
    ap (λ (n : ℕ). journal_records.record_at counted entries (n ∷ front)) first
    ∙ no_number counted entries kind front is
    ∙ ap (λ (n : ℕ). journal_records.record_at counted 0 (n ∷ front)) (sym first)
    ∙ part_of (record_reads counted 0 (room counted)) x (k ∷ front) b more fits bytes same
  where
    room : (counted : Bool) → HasRoom counted 0
    room true = omega arith
    room false = omega arith

-- the strict front of a record that may stand there is a part
pub record_front : (counted : Bool) (entries : ℕ) (x : journal_records.Record) (front : List ℕ) (b : ℕ) (more : List ℕ) → journal_records.FitsRecord counted entries x → reading.IsBytes (b ∷ more)
    → journal_records.record_bytes x ≡ front ++ (b ∷ more) → journal_records.record_at counted entries front ≡ Err reading.Part
record_front counted entries (journal_records.Vote term vote) front b more fits bytes same = front_without counted entries 0x11 (journal_records.Vote term vote) _ front b more (inl refl) refl fits bytes same
record_front counted entries (journal_records.Cut last) front b more fits bytes same = front_without counted entries 0x12 (journal_records.Cut last) _ front b more (inr (inl refl)) refl fits bytes same
record_front counted entries (journal_records.Plain entry) front b more fits bytes same = front_without counted entries 0x13 (journal_records.Plain entry) _ front b more (inr (inr refl)) refl fits bytes same
record_front false entries (journal_records.Count count) front b more (fc, is, fn) bytes same = part_of (record_reads false entries (omega arith)) (journal_records.Count count) front b more (fc, is, fn) bytes same
record_front true entries (journal_records.Count count) front b more (fc, is, fn) bytes same = absurd cc
record_front true entries (journal_records.Placed place entry) front b more (fc, is, fn, fe) bytes same = part_of (record_reads true entries (omega arith)) (journal_records.Placed place entry) front b more (fc, is, fn, fe) bytes same
record_front false entries (journal_records.Placed place entry) front b more (fc, is, fn, fe) bytes same = absurd cc
