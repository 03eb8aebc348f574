-- Fronts of what is written or read piece by piece.
use Rattle.std.proofs.Common.{◌≡◌, ◌⊎◌, inl, inr, ℕ, ◌+◌, ◌<◌, List, [], ◌++◌, length, take, drop, get_or, min, ◌≤◌, IfSome, length-take, Option, None, Some, refl, sym, ap, ◌∙◌, subst, arith, append_assoc, append-nil}
use Rattle.std.specs.List.{flat_map}
use Rattle.std.proofs.lemmas.List.{take-append-drop, drop_more, take_all, take_at}
use Rattle.std.proofs.lemmas.List.Concat.{flat_map-append}
use Rattle.ax_io.specs.Content as ax_io_content

-- the first bytes of a list that is no longer, and of one that begins with so many
pub first_bytes-short : (most : ℕ) (bytes : List ℕ) → length bytes ≤ most → ax_io_content.first_bytes most bytes ≡ bytes
unfolding ax_io_content.first_bytes
first_bytes-short most bytes short = take_all most bytes short

pub first_bytes-front : (most : ℕ) (bytes rest : List ℕ) → length bytes ≡ most → ax_io_content.first_bytes most (bytes ++ rest) ≡ bytes
unfolding ax_io_content.first_bytes
first_bytes-front most bytes rest full = take_at bytes rest most full

-- how many there are
pub length-first_bytes : (most : ℕ) (bytes : List ℕ) → length (ax_io_content.first_bytes most bytes) ≡ min most (length bytes)
unfolding ax_io_content.first_bytes
length-first_bytes most bytes = length-take most bytes

-- two appends are one
pub append_told-append_told : (known : Option (List ℕ)) (a b : List ℕ) → ax_io_content.append_told (ax_io_content.append_told known a) b ≡ ax_io_content.append_told known (a ++ b)
append_told-append_told None a b = refl
append_told-append_told (Some content) a b = ap Some (append_assoc content a b)

-- two bytes lists in front are one
pub prepend_told-prepend_told : (a b : List ℕ) (known : Option (List ℕ)) → ax_io_content.prepend_told a (ax_io_content.prepend_told b known) ≡ ax_io_content.prepend_told (a ++ b) known
prepend_told-prepend_told a b None = refl
prepend_told-prepend_told a b (Some content) = ap Some (sym (append_assoc a b content))

-- a front of the next piece, once the first was taken whole
pub TakesFront-more : {before mid now : Option (List ℕ)} (a b : List ℕ) → mid ≡ ax_io_content.append_told before a → ax_io_content.TakesFront mid now b → ax_io_content.TakesFront before now (a ++ b)
TakesFront-more {before} {mid} {now} a b whole front = record {
  kept = a ++ front.kept;
  rest = front.rest;
  front = ap (λ x. a ++ x) front.front ∙ sym (append_assoc a front.kept front.rest);
  taken = front.taken ∙ ap (λ m. ax_io_content.append_told m front.kept) whole ∙ append_told-append_told before a front.kept;
}

-- a front of a piece is one of all that it begins
pub TakesFront-within : {before now : Option (List ℕ)} (a b : List ℕ) → ax_io_content.TakesFront before now a → ax_io_content.TakesFront before now (a ++ b)
TakesFront-within {before} {now} a b front = record {
  kept = front.kept;
  rest = front.rest ++ b;
  front = ap (λ x. x ++ b) front.front ∙ append_assoc front.kept front.rest b;
  taken = front.taken;
}

-- a front of the piece at a place, once those before it were taken whole
pub TakesFront-at : {X : Type 0} (f : X → List ℕ) (xs : List X) (i : ℕ) (x : X) {before mid now : Option (List ℕ)} → i < length xs → x ≡ get_or xs i x → mid ≡ ax_io_content.append_told before (flat_map f (take i xs)) → ax_io_content.TakesFront mid now (f x) → ax_io_content.TakesFront before now (flat_map f xs)
TakesFront-at f xs i x {before} {mid} {now} in_range read whole front =
    let split : flat_map f (take i xs) ++ (f x ++ flat_map f (drop (i + 1) xs)) ≡ flat_map f xs =
    ap (λ y. flat_map f (take i xs) ++ (f y ++ flat_map f (drop (i + 1) xs))) read
    ∙ ap (λ ys. flat_map f (take i xs) ++ flat_map f ys) (sym (drop_more xs i x in_range))
    ∙ sym (flat_map-append f (take i xs) (drop i xs))
    ∙ ap (flat_map f) (take-append-drop i xs)
    in subst (λ (bytes : List ℕ). ax_io_content.TakesFront before now bytes) split
    (TakesFront-more (flat_map f (take i xs)) (f x ++ flat_map f (drop (i + 1) xs)) whole
    (TakesFront-within (f x) (flat_map f (drop (i + 1) xs)) front))

-- what a failing put keeps: nothing, or so many bytes
pub TakesFront-kept : (content now bytes : List ℕ) (k : ℕ) → (now ≡ content) ⊎ (now ≡ content ++ take k bytes) → ax_io_content.TakesFront (Some content) (Some now) bytes
TakesFront-kept content now bytes k (inl none) = record {
  kept = [];
  rest = bytes;
  front = refl;
  taken = ap Some (none ∙ sym (append-nil content));
}
TakesFront-kept content now bytes k (inr some) = record {
  kept = take k bytes;
  rest = drop k bytes;
  front = sym (take-append-drop k bytes);
  taken = ap Some some;
}

-- a front that is lost after one that was read
pub LosesFront-more : {before mid now : Option (List ℕ)} (a : List ℕ) → before ≡ ax_io_content.prepend_told a mid → ax_io_content.LosesFront mid now → ax_io_content.LosesFront before now
LosesFront-more {before} {mid} {now} a read front = record {
  lost = a ++ front.lost;
  moved = read ∙ ap (ax_io_content.prepend_told a) front.moved ∙ prepend_told-prepend_told a front.lost now;
}

-- a reading that has all the bytes it may read, and one that met the end
pub ReadsFirst-full : (before now : Option (List ℕ)) (most : ℕ) (bytes : List ℕ) → before ≡ ax_io_content.prepend_told bytes now → length bytes ≡ most → ax_io_content.ReadsFirst before now most bytes
ReadsFirst-full before None most bytes read full = record {
  within = omega arith;
  moved = read;
  first = rw read tt;
}
ReadsFirst-full before (Some content) most bytes read full = record {
  within = omega arith;
  moved = read;
  first = rw read (sym (first_bytes-front most bytes content full));
}

pub ReadsFirst-end : (before now : Option (List ℕ)) (most : ℕ) (bytes : List ℕ) → before ≡ ax_io_content.prepend_told bytes now → length bytes ≤ most → IfSome now (λ content. content ≡ []) → ax_io_content.ReadsFirst before now most bytes
ReadsFirst-end before None most bytes read within end = record {
  within = within;
  moved = read;
  first = rw read tt;
}
ReadsFirst-end before (Some content) most bytes read within end = record {
  within = within;
  moved = read;
  first = rw (read, end, append-nil bytes) (sym (first_bytes-short most bytes within));
}

-- for callers that write piece by piece
pub ruleset fronts = (append_told-append_told, TakesFront-more, TakesFront-within)
