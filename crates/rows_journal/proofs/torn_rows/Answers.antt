use Rattle.std.proofs.Common.{refl}
use Rattle.spec_wire.specs.NumberBytes as number_bytes
use Rattle.spec_reading.specs.Reading as reading
use Rattle.spec_reading.specs.Packets as packets
use Rattle.spec_journal.specs.Records as records
use Rattle.spec_journal.specs.Journal as journals
use Rattle.rows_journal.proofs.torn_rows.Goals as goal

pub returns-clause-torn : goal.returns-clause-torn
unfolding journals.read_on records.record_at reading.u64_at reading.within_at packets.entry_at packets.body_at number_bytes.u64_bytes
returns-clause-torn c = refl

pub returns-clause-wrong : goal.returns-clause-wrong
unfolding journals.read_on records.record_at reading.u64_at reading.within_at packets.entry_at packets.body_at number_bytes.u64_bytes
returns-clause-wrong c = refl

pub returns-clause-rest : goal.returns-clause-rest
unfolding journals.read_on records.record_at reading.u64_at reading.within_at packets.entry_at packets.body_at number_bytes.u64_bytes
returns-clause-rest c = refl
