-- The calls that wait for an answer.
use Rattle.std.specs.Prelude.{ℕ, Option, Some, None, is_some, if◌then◌else◌}
use Rattle.spec_sequencer.specs.Sequencers as sequencers
use Rattle.spec_client.specs.Receipts as receipts
use Rattle.ax_types.specs.declared.ops.Level.{Level}

-- the number of a call, where it has no answer
abbrev pub waiting_number : Option sequencers.Unanswered → Option ℕ
waiting_number None = None
waiting_number (Some u) = if is_some u.got then None else Some u.number

-- the command with a sequence, where it has no answer
abbrev pub waiting_command : sequencers.Sequencer → ℕ → Option ℕ
waiting_command q seq = waiting_number (receipts.asked_command q.calls seq)

-- the query with a number and a level, where it has no answer
abbrev pub waiting_query : sequencers.Sequencer → ℕ → Level → Option ℕ
waiting_query q number level = waiting_number (receipts.asked_query q.calls number level)
