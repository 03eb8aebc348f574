use Rattle.std.proofs.Common.{◌≡◌, ◌≤◌, take}
use Rattle.std.specs.List.{flat_map}
use Rattle.ax_io.specs.Content as content
use Rattle.ax_io.proofs.sinks.put_all.Given as goal

abbrev pub invariant-pieces : goal.invariant-pieces
invariant-pieces g l = record {
  count : g.K.Sink.faults l.sink ≡ g.K.Sink.faults l.fn.sink;
  taken : g.K.Sink.content l.sink ≡ content.append_told (g.K.Sink.content l.fn.sink) (flat_map g.P.AsSlice.items (take l.piece-index l.pieces));
}
