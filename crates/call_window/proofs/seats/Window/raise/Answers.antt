use Rattle.std.proofs.Common.{◌+◌, ◌∙◌, refl}
use Rattle.spec_window.specs.WindowWords.{window_places}
use Rattle.call_window.proofs.Pumping.{climbs_one}
use Rattle.call_window.proofs.seats.Window.raise.Goals as goal

pub passing-preserved : goal.passing-preserved
passing-preserved c =
    let base = c.passing.base in
    let k = c.passing.counter in record {
      window = c.pass.ensures.window ∙ c.passing.invariant.window;
      climbed = climbs_one window_places c.args.seat.now.me c.passing.seat.me c.pass.new.seat.me base k (base + 1) c.passing.invariant.climbed c.if-not-pass.ensures.passed refl (k + 1) refl;
    }
