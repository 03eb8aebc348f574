use Rattle.std.proofs.Common.{nat_eq, ap, ◌∙◌}
use Rattle.serde_json.specs.View.{view}
use Rattle.report_read.proofs.Bytes.{has_five}
use Rattle.report_read.proofs.report.has_five_members.Goals as goal

pub returns-in-Some : goal.returns-in-Some
returns-in-Some c = ap (λ n. nat_eq n 5) c.len.ensures.len ∙ has_five (view c.args.value.now) c.in-Some.members.now.entries c.in-Some.ensures
