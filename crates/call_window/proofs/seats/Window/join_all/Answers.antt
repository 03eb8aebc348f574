use Rattle.std.proofs.Common.{◌≡◌, ◌∙◌, refl, ap}
use Rattle.law_window.specs.WindowSeats as seats
use Rattle.call_window.proofs.Closing.{joining_none, joining_one, each_before}
use Rattle.call_window.proofs.seats.Window.join_all.Goals as goal

pub joining-init : goal.joining-init
joining-init g c = record { window = refl; windows = c.requires.window.1; joined = joining_none c.args.seat.now.me c.args.others.items }

pub join-requires-clause-window : goal.join-requires-clause-window
join-requires-clause-window g c =
    let at_window = each_before (λ (s : seats.SeatOf). s.window ≡ c.args.self.now.table.shared.table_id) c.pop.new.self.items c.joining.others.items c.in-Some.other c.in-Some.ensures.items c.joining.invariant.windows in (
      c.joining.invariant.window ∙ c.requires.window.0,
      ap (λ (s : seats.SeatOf). s.window) c.other.view_is ∙ at_window.1,
    )

pub joining-preserved : goal.joining-preserved
joining-preserved g c =
    let at_window = each_before (λ (s : seats.SeatOf). s.window ≡ c.args.self.now.table.shared.table_id) c.pop.new.self.items c.joining.others.items c.in-Some.other c.in-Some.ensures.items c.joining.invariant.windows in record {
      window = c.join.ensures.window ∙ c.joining.invariant.window;
      windows = at_window.0;
      joined = joining_one c.args.seat.now.me c.joining.seat.me c.join.new.seat.me c.other.inside.seat.me c.args.others.items c.joining.others.items c.pop.new.self.items c.in-Some.other c.joining.invariant.joined
          c.in-Some.ensures.items c.other.invariant c.join.ensures.met (ap (λ (s : seats.SeatOf). s.seat) c.other.view_is);
    }
