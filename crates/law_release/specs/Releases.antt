-- What release gives out of a list of calls in order, and what it leaves.
use Rattle.std.specs.Prelude.{ℕ, ◌≡◌, ◌≤◌, Bool, true, if◌then◌else◌, List, [], ◌∷◌, ◌++◌, Option, Some, None, map}
use Rattle.ax_types.specs.declared.sessions.Got.{Got}
use Rattle.spec_sequencer.specs.Sequencers as sequencers

-- a call has this answer, whose events are heard; and a query's place is at least that of the last read
pub record IsGiven (heard read : ℕ) (u : sequencers.Unanswered) (g : Got) : Type 0 where
  pub got : u.got ≡ Some g
  pub events : g.events ≤ heard
  pub place : sequencers.is_query u ≡ true → read ≤ g.place

-- the place of the last read, after an answer is given out
abbrev pub read_after_giving : ℕ → sequencers.Unanswered → Got → ℕ
read_after_giving read u g = if sequencers.is_query u then g.place else read

-- these calls are given out, each by its number
abbrev pub AreGivenOut : ℕ → ℕ → List sequencers.Unanswered → List (ℕ × Got) → Type 0
AreGivenOut heard read [] [] = Unit {0}
AreGivenOut heard read (u ∷ us) (x ∷ xs) = (x.0 ≡ u.number) × IsGiven heard read u x.1 × AreGivenOut heard (read_after_giving read u x.1) us xs
AreGivenOut heard read us xs = ⊥

abbrev pub last_read : ℕ → List sequencers.Unanswered → List (ℕ × Got) → ℕ
last_read read (u ∷ us) (x ∷ xs) = last_read (read_after_giving read u x.1) us xs
last_read read us xs = read

-- release stops at the first call, where there is one
abbrev pub IsHeldUp : ℕ → List sequencers.Unanswered → Type 0
IsHeldUp heard [] = Unit {0}
IsHeldUp heard (u ∷ us) = sequencers.is_stopping heard u.got ≡ true

-- what stays of the calls that were not given out: all of them, or the first without its answer, which is asked again
abbrev pub IsKeptBack : ℕ → ℕ → List sequencers.Unanswered → Option ℕ → List sequencers.Unanswered → Type 0
IsKeptBack heard read kept None calls = (calls ≡ kept) × IsHeldUp heard kept
IsKeptBack heard read [] (Some number) calls = ⊥
IsKeptBack heard read (u ∷ us) (Some number) calls = (number ≡ u.number) × (sequencers.is_past read u ≡ true) × (calls ≡ record u { got = None } ∷ us)

pub record KeepsClaims (heard read : ℕ) (calls : List sequencers.Unanswered) (r : sequencers.Release) : Type 0 where
  pub given : List sequencers.Unanswered
  pub kept : List sequencers.Unanswered
  pub whole : calls ≡ given ++ kept
  pub items : AreGivenOut heard read given r.items
  pub read_at : r.read ≡ last_read read given r.items
  pub left : IsKeptBack heard r.read kept r.again r.calls

abbrev pub ReleaseKeepsClaims : Type 0
ReleaseKeepsClaims = (q : sequencers.Sequencer) → KeepsClaims q.heard q.read q.calls (sequencers.release_of q)

abbrev pub ReleaseKeepsNumbers : Type 0
ReleaseKeepsNumbers = (q : sequencers.Sequencer) → let r = sequencers.release_of q in map (λ u. u.number) q.calls ≡ map (λ x. x.0) r.items ++ map (λ u. u.number) r.calls
