use Rattle.std.proofs.Common.{◌≡◌, string_bytes, ◌++◌, drop}
use Rattle.std.specs.List.{AllByRecursion}
use Rattle.spec_wire.specs.Ranges as ranges
use Rattle.spec_report.specs.Replies as spec
use Rattle.report_text.proofs.replies.write_counted_events.Given as goal

-- what is written, and the events that are left; all fit where those do
abbrev pub invariant-events : goal.invariant-events
invariant-events l = record {
  written : string_bytes l.line ++ spec.events_text (drop l.event-index l.events) ≡ string_bytes l.fn.line ++ spec.counted_events_text l.events;
  fits : AllByRecursion ranges.FitsEvent (drop l.event-index l.events) → AllByRecursion ranges.FitsEvent l.events;
}
