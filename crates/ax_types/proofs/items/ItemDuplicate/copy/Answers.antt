use Rattle.ax_types.proofs.items.ItemDuplicate.copy.Goals as goal
use Rattle.ax_types.proofs.Copied.{item_is_copied}

-- src/items.rt:115:5
pub returns : goal.returns
returns c = item_is_copied c.args.self.now c.in_ok-clone.field-0 c.in_ok-clone.ensures.cases
