use Rattle.std.proofs.Common.{◌∙◌, sym}
use Rattle.world_seats.proofs.Showing.{with_shown_empty}
use Rattle.world_seats.proofs.shown.with_shown.Goals as goal

pub returns-then-is_empty : goal.returns-then-is_empty
returns-then-is_empty g c = with_shown_empty c.args.me c.args.watches.now c.args.items (sym c.is_empty.ensures ∙ c.if-is_empty.true)
