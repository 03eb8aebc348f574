use Rattle.ax_types.proofs.packets.PayloadDuplicate.copy.Goals as goal
use Rattle.ax_types.proofs.Copied.{payload_is_copied}

-- src/packets.rt:111:5
pub returns : goal.returns
returns c = payload_is_copied c.args.self.now c.in_ok-clone.field-0 c.in_ok-clone.ensures.cases
