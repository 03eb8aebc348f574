-- Times with keys, in the order of the times: what the index has, and what a change makes of it.
use Rattle.std.specs.Prelude.{◌≡◌, ℕ, Bool, true, false, cond, nat_le, nat_eq, ◌&&◌, if◌then◌else◌, List, [], ◌∷◌, Option, Some, None}
use Rattle.std.specs.declared.cmp.Ordering.{Ordering}
use Rattle.std.specs.Ordering.{nat_cmp, then_cmp, on}
use Rattle.std.specs.Option.{option_eq}
use Rattle.std.specs.List.{list_any}
use Rattle.std.specs.BTreeMap.{is_at}

-- whether there is an end, and it is at exactly this time
abbrev pub is_end : Option ℕ → ℕ → Bool
is_end None time = false
is_end (Some end) time = is_at (nat_cmp end) time

-- the order of the index: by time, then by key
abbrev pub deadline_cmp : {K : Type 0} → (K → K → Ordering) → ℕ × K → ℕ × K → Ordering
deadline_cmp order = then_cmp (on (λ d. d.0) nat_cmp) (on (λ d. d.1) order)

-- whether the index has the time with the key
abbrev pub has_deadline : {K : Type 0} → (K → K → Ordering) → List (ℕ × K) → ℕ → K → Bool
has_deadline order deadlines time key = list_any (is_at (deadline_cmp order (time, key))) deadlines

-- whether the time is the end, and the key is the one that it is of
abbrev pub is_deadline : {K : Type 0} → (K → K → Ordering) → Option ℕ → K → ℕ → K → Bool
is_deadline order None at time key = false
is_deadline order (Some end) at time key = is_at (deadline_cmp order (end, at)) (time, key)

-- the index has an end with a key exactly where `has` is true, and each other as before
abbrev pub SetsDeadline : {K : Type 0} → (K → K → Ordering) → Bool → List (ℕ × K) → List (ℕ × K) → Option ℕ → K → Type 0
SetsDeadline {K} order has old new end at =
    (time : ℕ) (key : K) → has_deadline order new time key ≡ cond (is_deadline order end at time key) has (has_deadline order old time key)

-- whether the index has a time with a key, after the end of a key changed: where it is another end, the one before is out and the one
-- after is in
abbrev pub changed : {K : Type 0} → (K → K → Ordering) → K → Option ℕ → Option ℕ → ℕ → K → Bool → Bool
changed order at before after time key had =
    if option_eq nat_eq before after then had
    else cond (is_deadline order before at time key) false (cond (is_deadline order after at time key) true had)

-- the index after the end of a key was one and is another
abbrev pub ChangesDeadline : {K : Type 0} → (K → K → Ordering) → List (ℕ × K) → List (ℕ × K) → K → Option ℕ → Option ℕ → Type 0
ChangesDeadline {K} order old new at before after =
    (time : ℕ) (key : K) → has_deadline order new time key ≡ changed order at before after time key (has_deadline order old time key)

-- whether the index has the key with a time that is at most this one
abbrev pub has_passed : {K : Type 0} → (K → K → Ordering) → ℕ → List (ℕ × K) → K → Bool
has_passed order time deadlines key = list_any (λ d. nat_le d.0 time && is_at (order key) d.1) deadlines

-- whether the index has a time that is at most this one
abbrev pub any_passed : {K : Type 0} → ℕ → List (ℕ × K) → Bool
any_passed time deadlines = list_any (λ d. nat_le d.0 time) deadlines

-- the time of the first of the index
abbrev pub first_time : {K : Type 0} → List (ℕ × K) → Option ℕ
first_time [] = None
first_time (d ∷ deadlines) = Some d.0
