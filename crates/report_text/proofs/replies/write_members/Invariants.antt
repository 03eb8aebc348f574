use Rattle.std.proofs.Common.{◌≡◌, string_bytes, ◌++◌, codes, drop}
use Rattle.std.specs.List.{AllByRecursion}
use Rattle.spec_wire.specs.Ranges as ranges
use Rattle.spec_report.specs.Replies as spec
use Rattle.report_text.proofs.replies.write_members.Given as goal

-- what is written, and the numbers that are left; all fit where those do
abbrev pub invariant-sessions : goal.invariant-sessions
invariant-sessions l = record {
  written : string_bytes l.line ++ spec.numbers_text (drop l.session-index l.sessions) ≡ string_bytes l.fn.line ++ (codes "members" ++ spec.numbers_text l.sessions);
  fits : AllByRecursion ranges.IsNumber (drop l.session-index l.sessions) → AllByRecursion ranges.IsNumber l.sessions;
}
