-- The answers that a release gives out, one by one.
use Rattle.std.specs.Prelude.{◌≡◌, ℕ, suc, Bool, not, ◌&&◌, List, [], ◌∷◌, ◌++◌, if◌then◌else◌}
use Rattle.ax_types.specs.declared.sessions.Got.{Got}
use Rattle.spec_sequencer.specs.Sequencers as sequencers

-- whether an answer is given out where its call is the first
abbrev pub is_given_out : ℕ → ℕ → sequencers.Unanswered → Bool
is_given_out heard read u = not (sequencers.is_stopping heard u.got) && not (sequencers.is_past read u)

-- whether a call is asked again where it is the first
abbrev pub is_stale : ℕ → ℕ → sequencers.Unanswered → Bool
is_stale heard read u = not (sequencers.is_stopping heard u.got) && sequencers.is_past read u

-- the place of the last read, once an answer was given out
abbrev pub read_after : ℕ → sequencers.Unanswered → ℕ
read_after read u = if sequencers.is_query u then sequencers.place_in u.got else read

-- how many answers are given out
abbrev pub given_in : ℕ → ℕ → List sequencers.Unanswered → ℕ
given_in heard read [] = 0
given_in heard read (u ∷ us) = if is_given_out heard read u then suc (given_in heard (read_after read u) us) else 0

abbrev pub given_of : sequencers.Sequencer → ℕ
given_of q = given_in q.heard q.read q.calls

-- a release that gives these answers out first
abbrev pub gives_first : List (ℕ × Got) → sequencers.Release → sequencers.Release
gives_first items r = record r { items = items ++ r.items }

-- an answer was given out: it is the first of the release
pub record GivesOne (old new : sequencers.Sequencer) (item : ℕ × Got) : Type 0 where
  pub release : sequencers.release_of old ≡ gives_first (item ∷ []) (sequencers.release_of new)
  pub count : given_of old ≡ suc (given_of new)
  pub session : new.session ≡ old.session
  pub last : new.last ≡ old.last
  pub heard : new.heard ≡ old.heard
