use Rattle.std.proofs.Common.{◌≡◌, length}
use Rattle.std.specs.List.{AllByRecursion}
use Rattle.call_window.specs.WindowClosing.{HasJoinedRest}
use Rattle.call_window.proofs.seats.Window.join_all.Given as goal

abbrev pub invariant-joining : goal.invariant-joining
invariant-joining g l = record {
  window : l.seat.table_id ≡ l.initial.seat.table_id;
  windows : AllByRecursion (λ s. s.window ≡ l.self.table.shared.table_id) l.others.items;
  joined : HasJoinedRest l.initial.seat.me l.seat.me l.initial.others.items l.others.items;
}

abbrev pub decreases-joining : goal.decreases-joining
decreases-joining g l = length l.others.items
