use Rattle.std.proofs.Common.{◌≡◌, []}
use Rattle.call_window.specs.WindowOpening.{new_seats}
use Rattle.call_window.proofs.Opening.{first_knows}
use Rattle.call_window.proofs.seats.Window.seats_of.Given as goal

abbrev pub invariant-splitting : goal.invariant-splitting
invariant-splitting l = record {
  window : l.first.table_id ≡ l.initial.first.table_id;
  first : l.first.me ≡ (first_knows l.callers l.counter, []);
  seats : l.seats ≡ new_seats l.self.table.shared.table_id 1 l.counter;
}
