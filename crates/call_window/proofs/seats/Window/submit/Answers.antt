use Rattle.std.proofs.Common.{ap, subst}
use Rattle.spec_window.specs.Views as views
use Rattle.spec_window.specs.WindowWords.{window_places}
use Rattle.law_window.specs.WindowKnown.{caller_of}
use Rattle.law_window.specs.WindowSeats as seats
use Rattle.call_window.specs.WindowRefused.{IsRefused}
use Rattle.call_window.proofs.Drawing.{drawing, submitted}
use Rattle.call_window.proofs.seats.Window.submit.Goals as goal

pub publish-requires-clause-seat : goal.publish-requires-clause-seat
publish-requires-clause-seat c = drawing window_places _ _ c.in-Ok.number c.seat.invariant c.in-Ok.ensures.drawn

pub invariant_of-seat : goal.invariant_of-seat
invariant_of-seat c = (submitted window_places c.seat.inside.seat.me c.draw.new.seat.me c.publish.new.seat.me c.args.call c.in-Ok.number c.seat.invariant c.in-Ok.ensures.drawn c.publish.ensures.seat).seat

pub returns-in-Ok-clause-waits : goal.returns-in-Ok-clause-waits
returns-in-Ok-clause-waits c = (submitted window_places c.seat.inside.seat.me c.draw.new.seat.me c.publish.new.seat.me c.args.call c.in-Ok.number c.seat.invariant c.in-Ok.ensures.drawn c.publish.ensures.seat).waits

pub returns-in-Err-clause-submitted : goal.returns-in-Err-clause-submitted
returns-in-Err-clause-submitted c =
    subst (λ (v : views.SeatView). IsRefused window_places v (caller_of c.draw.new.seat.me.0).seat c.args.call c.with_call.result) (ap (λ (v : seats.SeatOf). v.seat) c.seat.view_is)
    (c.with_call.ensures _ _ c.in-Err.ensures.drawn.1)
