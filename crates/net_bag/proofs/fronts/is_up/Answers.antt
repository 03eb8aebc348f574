use Rattle.std.proofs.Common.{◌≤◌, ◌-◌, length, arith, sym}
use Rattle.net_bag.proofs.Shown.{up_at, up_past}
use Rattle.net_bag.proofs.fronts.is_up.Goals as goal

pub returns-then-index-up : goal.returns-then-index-up
returns-then-index-up c = sym (up_past c.args.up.now c.args.number c.requires (omega arith))

pub returns : goal.returns
returns c = sym (up_at c.args.up.now c.args.number c.requires)
