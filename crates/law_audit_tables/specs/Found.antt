-- The verdict from what was found of each condition.
use Rattle.std.specs.Prelude.{ℕ, ◌≡◌, nat_eq, Bool, true, false, not, List, Option, Some, None, filter}
use Rattle.std.specs.List.{list_any}
use Rattle.ax_types.specs.declared.findings.Clause.{Clause}
use Rattle.ax_types.specs.declared.findings.Clause.TheVariants as clause
use Rattle.ax_types.specs.declared.findings.Verdict.{Verdict}
use Rattle.ax_types.specs.declared.findings.Verdict.TheVariants as verdict
use Rattle.spec_audit.specs.Audit as audits

-- whether each condition of the whole holds, and the least session that breaks each condition of a session
pub record Found : Type 0 where
  pub lawful : Bool
  pub right : Bool
  pub length : Bool
  pub fresh : Bool
  pub once : Option ℕ
  pub growing : Option ℕ
  pub heard : Option ℕ
  pub outcomes : Option ℕ
  pub ends : Option ℕ
  pub waiting : Bool

abbrev pub unless : Bool → Option ℕ
unless true = None
unless false = Some 0

abbrev pub verdict_of : Found → Verdict
verdict_of f =
    audits.or_later clause.Lawful (unless f.lawful) (audits.or_later clause.Right (unless f.right) (audits.or_later clause.Length (unless f.length)
    (audits.or_later clause.Fresh (unless f.fresh) (audits.or_later clause.Once f.once (audits.or_later clause.Growing f.growing (audits.or_later clause.Heard f.heard
    (audits.or_later clause.Outcomes f.outcomes (audits.or_later clause.Ends f.ends (audits.or_later clause.Waiting (unless f.waiting) verdict.Faithful)))))))))

-- the least of some sessions that breaks a condition
abbrev pub least_breaking : (ℕ → Bool) → List ℕ → Option ℕ
least_breaking holds ss = audits.least_session (filter (λ s. not (holds s)) ss)

-- the same sessions, in whatever order and number
abbrev pub AreSameSessions : List ℕ → List ℕ → Type 0
AreSameSessions ss ts = (t : ℕ) → list_any (nat_eq t) ss ≡ list_any (nat_eq t) ts

abbrev pub found_in : ℕ → audits.Audited → List ℕ → Found
found_in timeout a ss = record {
  lawful = audits.whole_holds timeout a clause.Lawful;
  right = audits.whole_holds timeout a clause.Right;
  length = audits.whole_holds timeout a clause.Length;
  fresh = audits.whole_holds timeout a clause.Fresh;
  once = least_breaking (audits.session_holds a clause.Once) ss;
  growing = least_breaking (audits.session_holds a clause.Growing) ss;
  heard = least_breaking (audits.session_holds a clause.Heard) ss;
  outcomes = least_breaking (audits.session_holds a clause.Outcomes) ss;
  ends = least_breaking (audits.session_holds a clause.Ends) ss;
  waiting = audits.whole_holds timeout a clause.Waiting;
}

abbrev pub VerdictIsFound : Type 0
VerdictIsFound = (timeout : ℕ) (a : audits.Audited) (ss : List ℕ) → AreSameSessions ss (audits.sessions a) → verdict_of (found_in timeout a ss) ≡ audits.audit timeout a
