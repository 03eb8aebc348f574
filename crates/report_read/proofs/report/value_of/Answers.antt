use Rattle.serde_json.specs.View.{view}
use Rattle.report_read.proofs.Bytes.{read_data, no_data, no_memory}
use Rattle.report_read.proofs.report.value_of.Goals as goal

pub returns-in-Ok : goal.returns-in-Ok
returns-in-Ok c = read_data c.args.bytes.now (view c.in-Ok.value) c.in-Ok.ensures.ok.0 c.in-Ok.ensures.ok.1

pub returns-else-is_memory : goal.returns-else-is_memory
returns-else-is_memory c = no_data c.args.bytes.now (c.in-Err.ensures.err (no_memory c.is_memory.result c.if-is_memory.false c.is_memory.ensures))
