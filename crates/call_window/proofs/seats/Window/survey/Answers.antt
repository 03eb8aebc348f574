use Rattle.std.proofs.Common.{◌+◌, ◌∙◌, refl}
use Rattle.spec_window.specs.WindowWords.{window_places}
use Rattle.call_window.proofs.Closing.{surveyed_one}
use Rattle.call_window.proofs.seats.Window.survey.Goals as goal

pub surveying-preserved : goal.surveying-preserved
surveying-preserved g c =
    let place = c.surveying.place in record {
      window = c.look.ensures.window ∙ c.surveying.invariant.window;
      surveyed = λ p pump.
          surveyed_one window_places g.N.About.number p c.args.seat.now.me c.surveying.seat.me c.look.new.seat.me place c.look.result pump (c.surveying.invariant.surveyed p pump) c.state.result c.state.ensures c.look.ensures.seat
          c.look.ensures.found (place + 1) refl;
    }
