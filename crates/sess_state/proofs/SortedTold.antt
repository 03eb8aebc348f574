-- What is told, sorted by session: each session is told the same, in the same order.
use Rattle.std.proofs.Common.{◌≡◌, ℕ, zero, suc, ◌+◌, ◌<◌, ◌≤◌, ◌∙◌, refl, sym, ap, arith, Bool, true, false, cond, nat_eq, nat_cmp, is_lt, List, [], ◌∷◌, length, get_or, map, filter}
use Rattle.std.specs.List.{AllByRecursion}
use Rattle.std.specs.List.Sorted.{ties, IsNonDecreasingBy, IsStableByKey}
use Rattle.std.proofs.lemmas.Bool.Decides.{nat_tests}
use Rattle.ax_types.specs.declared.replies.Event.{Event}
use Rattle.ax_types.specs.declared.replies.Event.TheVariants as event
use Rattle.spec_sessions.specs.Outboxes as outboxes
use Rattle.sess_state.specs.Batching as batching
use Rattle.sess_state.proofs.InTurn.{Told, ToldFrom}

tie_same : (m n : ℕ) → ties (λ x y. is_lt (nat_cmp x y)) m n ≡ nat_eq n m
tie_same m n = grind (arith, nat_tests)

filter_same : (session : ℕ) (e : Event) (told : Told) → filter (ties (λ (x y : ℕ × Event). is_lt (nat_cmp x.0 y.0)) (session, e)) told ≡ filter (λ t. nat_eq t.0 session) told
filter_same session e [] = refl
filter_same session e (t ∷ told) =
    rw (tie_same session t.0) (ap (λ (ts : Told). cond (nat_eq t.0 session) (t ∷ ts) ts) (filter_same session e told))

pub told_stable : (told sorted : Told) → IsStableByKey (λ (t : ℕ × Event). t.0) nat_cmp told sorted → (session : ℕ) → outboxes.told_to session sorted ≡ outboxes.told_to session told
told_stable told sorted stable session =
    let any : Event = event.Cleared [] in
    ap (λ (ts : Told). map (λ (t : ℕ × Event). t.1) ts) (sym (filter_same session any sorted) ∙ (stable (session, any) ∙ filter_same session any told))

from_places : (session : ℕ) (told : Told) → ((j : ℕ) (d : ℕ × Event) → j < length told → session ≤ (get_or told j d).0) → ToldFrom session told
from_places session [] h = tt
from_places session (t ∷ told) h = (h 0 t (omega arith), from_places session told (λ j d lt. h (suc j) d (omega arith)))

pub rise_sorted : (told : Told) → IsNonDecreasingBy (λ (t : ℕ × Event). t.0) told → batching.RiseBySession told
rise_sorted [] sorted = tt
rise_sorted (t ∷ told) sorted = (
  from_places t.0 told (λ j d lt. sorted 0 (suc j) d (omega arith) (omega arith)),
  rise_sorted told (λ i j d le lt. sorted (suc i) (suc j) d (omega arith) (omega arith)),
)
