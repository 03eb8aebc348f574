-- What contracts see of a switch.
use Rattle.std.specs.Prelude.{ℕ}
use Rattle.spec_sequencer.specs.Sequencers as sequencers

-- the switch, and the number of the calls that changed it
pub record SwitchState : Type 0 where
  pub switch : sequencers.Switch
  pub calls : ℕ
