use Rattle.std.proofs.Common.{◌≡◌, Some}
use Rattle.spec_window.specs.WindowWords.{window_places}
use Rattle.law_window.specs.WindowKnown.{PumpKnown}
use Rattle.call_window.specs.WindowClosing.{HasSurveyed}
use Rattle.call_window.proofs.seats.Window.survey.Given as goal

abbrev pub invariant-surveying : goal.invariant-surveying
invariant-surveying g l = record {
  window : l.seat.table_id ≡ l.initial.seat.table_id;
  surveyed : (p : PumpKnown) → l.initial.seat.me.0.pump ≡ Some p → HasSurveyed window_places g.N.About.number p l.initial.seat.me l.seat.me l.place;
}
