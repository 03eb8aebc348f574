use Rattle.std.proofs.Common.{◌≡◌, ◌<◌, ◌≤◌, ◌-◌, vec_len}
use Rattle.ax_io.specs.Content as content
use Rattle.ax_io.proofs.sources.read_up_to.Given as goal

abbrev pub invariant-reads : goal.invariant-reads
invariant-reads g l = record {
  count : g.S.Source.faults l.source ≡ g.S.Source.faults l.fn.source;
  places : 0 < vec_len l.block;
  within : vec_len l.bytes ≤ l.most;
  moved : g.S.Source.content l.fn.source ≡ content.prepend_told l.bytes.items (g.S.Source.content l.source);
}

abbrev pub decreases-reads : goal.decreases-reads
decreases-reads g l = l.most - vec_len l.bytes
