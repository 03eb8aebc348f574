-- Reading values one after the other, as a loop does.
use Rattle.std.proofs.Common.{◌≡◌, ℕ, zero, suc, length, take, get_or, subst, ◌-◌, ◌+◌, ◌≤◌, ◌<◌, List, [], ◌∷◌, ◌++◌, Ok, Err, refl, sym, ap, ◌∙◌, append_assoc, add-one, arith}
use Rattle.std.proofs.lemmas.List.{append-nil}
use Rattle.std.specs.List.{AllByRecursion, flat_map}
use Rattle.spec_reading.specs.Reading.{◌>>=◌}
use Rattle.spec_reading.specs.Reading as reading
use Rattle.net_wire.specs.declared.unread.Unread.{Unread}
use Rattle.net_wire.specs.declared.unread.Unread.TheVariants as unread
use Rattle.net_wire.specs.ReaderCalls.{Gives}

-- what was read before, and what is still read
abbrev pub with_front : {A : Type 0} → List A → reading.Reading (List A) → reading.Reading (List A)
with_front front read = read >>= λ x. Ok (front ++ x.0, x.1)

regroup : {A : Type 0} (front : List A) (a : A) (read : reading.Reading (List A)) → with_front front (read >>= λ x. Ok (a ∷ x.0, x.1)) ≡ with_front (front ++ a ∷ []) read
regroup front a (Ok x) = ap (λ (xs : List _). Ok (xs, x.1)) (simp append_assoc)
regroup front a (Err f) = refl

pub goes_on : {A : Type 0} (f : List ℕ → reading.Reading A) (front : List A) (count i : ℕ) (bytes : List ℕ) (a : A) (after : List ℕ) (total : reading.Reading (List A))
    → i < count → f bytes ≡ Ok (a, after) → with_front front (reading.many_at f (count - i) bytes) ≡ total
    → with_front (front ++ a ∷ []) (reading.many_at f (count - (i + 1)) after) ≡ total
goes_on f front count i bytes a after total lt h so_far =
    let k : count - i ≡ suc (count - (i + 1)) = omega arith in
    let one : with_front front (reading.many_at f (count - i) bytes) ≡ with_front (front ++ a ∷ []) (reading.many_at f (count - (i + 1)) after) = rw (k, h) (regroup front a (reading.many_at f (count - (i + 1)) after)) in
    sym one ∙ so_far

fails : {A : Type 0} (f : List ℕ → reading.Reading A) (front : List A) (count i : ℕ) (bytes : List ℕ) (total : reading.Reading (List A)) (fault : reading.Fault)
    → i < count → f bytes ≡ Err fault → with_front front (reading.many_at f (count - i) bytes) ≡ total → total ≡ Err fault
fails f front count i bytes total fault lt h so_far =
    let k : count - i ≡ suc (count - (i + 1)) = omega arith in
    let one : with_front front (reading.many_at f (count - i) bytes) ≡ Err fault = rw (k, h) refl in
    sym so_far ∙ one

pub ends : {A : Type 0} (e : Unread) (f : List ℕ → reading.Reading A) (front : List A) (count i : ℕ) (bytes after last : List ℕ) (total : reading.Reading (List A))
    → i < count → Gives (Err e) after (f bytes) → with_front front (reading.many_at f (count - i) bytes) ≡ total → Gives (Err e) last total
ends unread.Part f front count i bytes after last total lt h so_far = fails f front count i bytes total reading.Part lt h so_far
ends unread.Wrong f front count i bytes after last total lt h so_far = fails f front count i bytes total reading.Wrong lt h so_far
ends unread.NoMemory f front count i bytes after last total lt h so_far = tt

pub is_done : {A : Type 0} (f : List ℕ → reading.Reading A) (front : List A) (count i : ℕ) (bytes : List ℕ) (total : reading.Reading (List A))
    → count ≤ i → with_front front (reading.many_at f (count - i) bytes) ≡ total → total ≡ Ok (front, bytes)
is_done f front count i bytes total le so_far =
    let k : count - i ≡ 0 = omega arith in
    let one : with_front front (reading.many_at f (count - i) bytes) ≡ Ok (front, bytes) = rw k (ap (λ (xs : List _). Ok (xs, bytes)) (append-nil front)) in
    sym so_far ∙ one

-- ---- writing each of a list

-- behind what there was before stands the spelling of each, and each is within its ranges
pub record Written {A : Type 0} (f : A → List ℕ) (P : A → Type 0) (before now : List ℕ) (xs : List A) : Type 0 where
  pub bytes : now ≡ before ++ flat_map f xs
  pub fits : AllByRecursion P xs

each_fits : {A : Type 0} (P : A → Type 0) (xs : List A) (i : ℕ) (x : A) → i < length xs → x ≡ get_or xs i x → AllByRecursion P (take i xs) → P x → AllByRecursion P (take (suc i) xs)
each_fits P [] i x lt same all p = absurd (omega arith)
each_fits P (y ∷ xs) zero x lt same all p = (subst P same p, tt)
each_fits P (y ∷ xs) (suc i) x lt same all p = (all.0, each_fits P xs i x (omega arith) same all.1 p)

each_put : {A : Type 0} (f : A → List ℕ) (xs : List A) (i : ℕ) (x : A) → i < length xs → x ≡ get_or xs i x → flat_map f (take (suc i) xs) ≡ flat_map f (take i xs) ++ f x
each_put f [] i x lt same = absurd (omega arith)
each_put f (y ∷ xs) zero x lt same = append-nil (f y) ∙ ap f (sym same)
each_put f (y ∷ xs) (suc i) x lt same = ap (λ (t : List ℕ). f y ++ t) (each_put f xs i x (omega arith) same) ∙ sym (append_assoc (f y) (flat_map f (take i xs)) (f x))

pub written_more : {A : Type 0} (f : A → List ℕ) (P : A → Type 0) (before now next : List ℕ) (xs : List A) (i : ℕ) (x : A) → i < length xs → x ≡ get_or xs i x
    → Written f P before now (take i xs) → next ≡ now ++ f x → P x → Written f P before next (take (i + 1) xs)
written_more f P before now next xs i x lt same w put p =
    rw (add-one i) (record {
      bytes = put ∙ ap (λ (t : List ℕ). t ++ f x) w.bytes ∙ append_assoc before (flat_map f (take i xs)) (f x) ∙ ap (λ (t : List ℕ). before ++ t) (sym (each_put f xs i x lt same));
      fits = each_fits P xs i x lt same w.fits p;
    })

take_whole : {A : Type 0} (xs : List A) (i : ℕ) → length xs ≤ i → take i xs ≡ xs
take_whole [] zero le = refl
take_whole [] (suc i) le = refl
take_whole (x ∷ xs) zero le = absurd (omega arith)
take_whole (x ∷ xs) (suc i) le = ap (λ (t : List _). x ∷ t) (take_whole xs i (omega arith))

pub written_all : {A : Type 0} (f : A → List ℕ) (P : A → Type 0) (before now : List ℕ) (xs : List A) (i : ℕ) → length xs ≤ i → Written f P before now (take i xs) → Written f P before now xs
written_all f P before now xs i le w = subst (λ (t : List _). Written f P before now t) (take_whole xs i le) w

pub written_none : {A : Type 0} (f : A → List ℕ) (P : A → Type 0) (before : List ℕ) (xs : List A) → Written f P before before (take 0 xs)
written_none f P before xs = record { bytes = sym (append-nil before); fits = tt }
