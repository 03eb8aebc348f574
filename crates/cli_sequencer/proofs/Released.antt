-- A release, one answer after another.
use Rattle.std.proofs.Common.{◌≡◌, ℕ, suc, ◌-◌, Bool, true, false, max, cond, List, [], ◌∷◌, ◌++◌, Option, Some, None, refl, sym, ap, ◌∙◌, arith, append-nil}
use Rattle.std.specs.Prelude.{if◌then◌else◌, find, ◌&&◌, not}
use Rattle.ax_types.specs.declared.sessions.Got.{Got}
use Rattle.spec_sequencer.specs.Sequencers as sequencers
use Rattle.cli_sequencer.specs.GivenOut as given

-- where no answer is given out, a release has none
none_given : (heard seen read : ℕ) (us : List sequencers.Unanswered) → given.given_in heard read us ≡ 0 → (sequencers.release_from heard seen read us).items ≡ []
none_given heard seen read [] none = refl
none_given heard seen read (u ∷ us) none = by_test (sequencers.is_stopping heard u.got) (sequencers.is_past read u) none
  where
    by_test : (a b : Bool) → (if not a && not b then suc (given.given_in heard (given.read_after read u) us) else 0) ≡ 0
        → (let r : sequencers.Release = if a then record { items = []; again = None; calls = u ∷ us; seen = seen; read = read }
        else if b then record { items = []; again = Some u.number; calls = record u { got = None } ∷ us; seen = seen; read = read }
        else (let r = sequencers.release_from heard (max seen (sequencers.place_in u.got)) (if sequencers.is_query u then sequencers.place_in u.got else read) us in
        record r { items = sequencers.got_item u.number u.got ++ r.items }) in r.items) ≡ []
    by_test true b none = refl
    by_test false true none = refl
    by_test false false none = absurd (omega arith)

pub release_of_none : (q : sequencers.Sequencer) → given.given_of q ≡ 0 → (sequencers.release_of q).items ≡ []
release_of_none q none = none_given q.heard q.seen q.read q.calls none

-- a release that is over after these answers
pub gives_first_all : (old new : sequencers.Sequencer) (items : List (ℕ × Got)) → sequencers.release_of old ≡ given.gives_first items (sequencers.release_of new)
    → given.given_of new ≡ 0 → items ≡ (sequencers.release_of old).items
gives_first_all old new items is none =
    sym (ap (λ (r : sequencers.Release). r.items) is ∙ ap (λ (xs : List (ℕ × Got)). items ++ xs) (release_of_none new none) ∙ append-nil items)

pub again_by : (old new : sequencers.Sequencer) (items : List (ℕ × Got)) → sequencers.release_of old ≡ given.gives_first items (sequencers.release_of new)
    → (sequencers.release_of new).again ≡ (sequencers.release_of old).again
again_by old new items is = sym (ap (λ (r : sequencers.Release). r.again) is)

-- what was received, by the first command without an answer
abbrev pub received_at : Option sequencers.Unanswered → ℕ → ℕ
received_at None last = last
received_at (Some u) last = sequencers.seq_or u.seq 1 - 1

pub received_in_first : (us : List sequencers.Unanswered) (last : ℕ) → sequencers.received_in us last ≡ received_at (find sequencers.is_open_command us) last
received_in_first [] last = refl
received_in_first (u ∷ us) last = by_test (sequencers.is_open_command u) (received_in_first us last)
  where
    by_test : (b : Bool) → sequencers.received_in us last ≡ received_at (find sequencers.is_open_command us) last → (if b then sequencers.seq_or u.seq 1 - 1 else sequencers.received_in us last) ≡ received_at (cond b (Some u) (find sequencers.is_open_command us)) last
    by_test true rest = refl
    by_test false rest = rest
