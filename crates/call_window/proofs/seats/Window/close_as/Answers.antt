use Rattle.std.proofs.Common.{◌≡◌, ◌++◌, ℕ, List, map, ◌∙◌, ap, subst, arith}
use Rattle.std.specs.Prelude.{slice_index_or, take, drop}
use Rattle.spec_window.specs.Views as views
use Rattle.spec_window.specs.WindowWords.{window_places}
use Rattle.spec_window.specs.WindowAgreement.{IsClosed}
use Rattle.law_window.specs.WindowKnown as known
use Rattle.law_window.specs.WindowSeats as seats
use Rattle.law_window.proofs.SeatSteps.{leaves}
use Rattle.call_window.specs.WindowClosing.{AreAllSeats}
use Rattle.call_window.proofs.Closing.{callers_at_end, closed_with, first_has, first_seat, some_seats}
use Rattle.call_window.proofs.seats.Window.close_as.Goals as goal

pub split_seat-seat-requires : goal.split_seat-seat-requires
split_seat-seat-requires g c =
    let t = c.args.self.now.table.shared in
    let ip = c.pump.invariant in
    let p = c.pump.inside in
    let some = some_seats t.key c.args.seats c.args.self.now.staffed c.requires.all in
    let value = c.remove.ensures.value ∙ ap (λ (l : List seats.SeatOf). slice_index_or l 0 c.remove.result) c.into_vec-others.ensures in
    let here = ap (λ (s : seats.SeatOf). s.window) c.seat.view_is ∙ first_has (λ (s : seats.SeatOf). s.window ≡ t.table_id) c.args.seats c.remove.result some value c.requires.window.1 in (
      c.survey.ensures.window ∙ (c.look-drawn.ensures.window ∙ (c.join_all.ensures.window ∙ (c.join.ensures.window ∙ here))),
      (let w = c.args.self.now.sized.0 in omega arith),
      leaves window_places t.key c.survey.new.seat.id c.survey.new.seat.me.0 _ _
          (callers_at_end window_places g.N.About.number c.seat.inside.seat.me p.seat.me c.join.new.seat.me c.join_all.new.seat.me c.look-drawn.new.seat.me c.survey.new.seat.me _ p.taken p.base p.answered c.look-drawn.result c.seat.invariant ip
          c.join.ensures.met c.join_all.ensures.joined c.look-drawn.ensures.seat c.survey.ensures.surveyed),
    )

pub invariant_of-result : goal.invariant_of-result
invariant_of-result g c =
    let t = c.args.self.now.table.shared in
    let p = c.pump.inside in
    let some = some_seats t.key c.args.seats c.args.self.now.staffed c.requires.all in
    let value = c.remove.ensures.value ∙ ap (λ (l : List seats.SeatOf). slice_index_or l 0 c.remove.result) c.into_vec-others.ensures in
    let left = c.remove.ensures.by_index.2 ∙ ap (λ (l : List seats.SeatOf). take 0 l ++ drop 1 l) c.into_vec-others.ensures in
    let all = subst (λ (k : ℕ). AreAllSeats k (map (λ s. s.seat) c.args.seats)) c.requires.about c.requires.all in
    (closed_with window_places g.N.About.number c.seat.inside.seat.me p.seat.me c.join.new.seat.me c.join_all.new.seat.me c.look-drawn.new.seat.me c.survey.new.seat.me c.split_seat-seat.result.me (map (λ s. s.seat) c.args.seats) _ p.taken p.base p.answered
    c.look-drawn.result c.seat.invariant c.pump.invariant (first_seat c.args.seats c.remove.new.self.items c.remove.result _ some value left (ap (λ (s : seats.SeatOf). s.seat) c.seat.view_is)) all c.join.ensures.met c.join_all.ensures.joined
    c.look-drawn.ensures.seat c.look-drawn.ensures.found c.survey.ensures.surveyed c.split_seat-seat.ensures.4).seat

pub returns-clause-closed : goal.returns-clause-closed
returns-clause-closed g c =
    let t = c.args.self.now.table.shared in
    let p = c.pump.inside in
    let some = some_seats t.key c.args.seats c.args.self.now.staffed c.requires.all in
    let value = c.remove.ensures.value ∙ ap (λ (l : List seats.SeatOf). slice_index_or l 0 c.remove.result) c.into_vec-others.ensures in
    let left = c.remove.ensures.by_index.2 ∙ ap (λ (l : List seats.SeatOf). take 0 l ++ drop 1 l) c.into_vec-others.ensures in
    let all = subst (λ (k : ℕ). AreAllSeats k (map (λ s. s.seat) c.args.seats)) c.requires.about c.requires.all in
    subst (λ (q : views.PumpView). IsClosed window_places q (map (λ s. s.seat) c.args.seats) c.look-drawn.result p.answered (known.caller_of c.split_seat-seat.result.me.0).seat) (ap (λ (q : seats.PumpOf). q.pump) c.pump.view_is)
    (closed_with window_places g.N.About.number c.seat.inside.seat.me p.seat.me c.join.new.seat.me c.join_all.new.seat.me c.look-drawn.new.seat.me c.survey.new.seat.me c.split_seat-seat.result.me (map (λ s. s.seat) c.args.seats) _ p.taken p.base p.answered
    c.look-drawn.result c.seat.invariant c.pump.invariant (first_seat c.args.seats c.remove.new.self.items c.remove.result _ some value left (ap (λ (s : seats.SeatOf). s.seat) c.seat.view_is)) all c.join.ensures.met c.join_all.ensures.joined
    c.look-drawn.ensures.seat c.look-drawn.ensures.found c.survey.ensures.surveyed c.split_seat-seat.ensures.4).closed
