use Rattle.std.proofs.Common.{◌+◌, ◌∙◌, refl, arith}
use Rattle.spec_window.specs.WindowWords.{window_places}
use Rattle.call_window.proofs.Opening.{splits_one, rest_after, seats_more}
use Rattle.call_window.proofs.seats.Window.seats_of.Goals as goal

pub split_seat-seat-requires : goal.split_seat-seat-requires
split_seat-seat-requires c = (
  c.splitting.invariant.window ∙ c.requires.window,
  (let w = c.args.self.now.sized.0 in omega arith),
  splits_one window_places c.args.callers c.args.self.now.table.shared.key c.splitting.first.id c.splitting.counter c.splitting.first.me c.splitting.invariant.first c.splitting-test.true,
)

pub splitting-preserved : goal.splitting-preserved
splitting-preserved c =
    let split = c.split_seat-seat in
    let i = c.splitting.counter in
    let first = c.splitting.invariant.first in
    let less = c.splitting-test.true in
    let there = split.ensures.3 ∙ (c.splitting.invariant.window ∙ c.requires.window) in record {
      window = split.ensures.0 ∙ c.splitting.invariant.window;
      first = rest_after c.args.callers i (i + 1) c.splitting.first.me split.new.seat.me first less refl split.ensures.2;
      seats = seats_more c.args.callers i (i + 1) c.splitting.first.me split.result.me c.args.self.now.table.shared.table_id split.result.table_id c.splitting.seats c.push.new.self first less refl split.ensures.4 there c.splitting.invariant.seats
          c.in_ok-push.ensures.ok;
    }
