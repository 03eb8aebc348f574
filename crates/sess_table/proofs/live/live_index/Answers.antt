use Rattle.std.proofs.Common.{◌≡◌, ◌∙◌, sym, Some, is_some, false, true}
use Rattle.sess_table.proofs.Order.{find-unknown, find-gone, stands_at, live_from, gone_from}
use Rattle.sess_table.proofs.live.live_index.Goals as goal

pub returns-in_err-index : goal.returns-in_err-index
returns-in_err-index c =
    rw c.from_residual.ensures (find-unknown c.args.session c.args.sessions.now.entries c.args.signs.now (sym c.in_err-index.ensures.found))

pub returns-then-is_some : goal.returns-then-is_some
returns-then-is_some c = (
  stands_at c.args.session c.args.sessions.now.entries c.in_ok-index.index (sym c.in_ok-index.ensures.index),
  live_from _ c.at.result c.at.ensures (sym c.is_some.ensures ∙ c.if-is_some.true),
)

pub returns-else-is_some : goal.returns-else-is_some
returns-else-is_some c =
    find-gone c.args.session c.args.sessions.now.entries c.args.signs.now c.in_ok-index.index c.get_index_of.ensures.unique
    (stands_at c.args.session c.args.sessions.now.entries c.in_ok-index.index (sym c.in_ok-index.ensures.index))
    (gone_from _ c.at.result c.at.ensures (sym c.is_some.ensures ∙ c.if-is_some.false))
