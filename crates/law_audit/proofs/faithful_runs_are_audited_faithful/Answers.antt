use Rattle.law_audit.proofs.Verdict as verdicts
use Rattle.law_audit.proofs.faithful_runs_are_audited_faithful.Goals as goal

-- src/lib.rt:8:1
pub returns : goal.returns
returns c = verdicts.faithful
