-- The audit calls faithful whatever is faithful.
use Rattle.std.specs.Prelude.{ℕ, ◌≡◌, List}
use Rattle.ax_types.specs.declared.findings.Verdict.TheVariants as verdict
use Rattle.spec_book.specs.History as histories
use Rattle.spec_claims.specs.Transcript as transcripts
use Rattle.spec_claims.specs.Faithful as claims_faithful
use Rattle.spec_audit.specs.Audit as audits

-- the report of what was shown, with the calls that wait
abbrev pub reported : List transcripts.Shown → histories.History → audits.Audited
reported shown h = record {
  items = transcripts.transcript shown;
  history = h;
  waiting = audits.waiting_of_items (transcripts.transcript shown);
}

abbrev pub FaithfulIsAudited : Type 0
FaithfulIsAudited = (timeout : ℕ) (shown : List transcripts.Shown) (h : histories.History)
    → claims_faithful.IsFaithful timeout shown h → audits.audit timeout (reported shown h) ≡ verdict.Faithful
