use Rattle.std.proofs.Common.{refl}
use Rattle.spec_wire.specs.NumberBytes as number_bytes
use Rattle.spec_reading.specs.Reading as reading
use Rattle.spec_reading.specs.Packets as packets
use Rattle.spec_journal.specs.Records as records
use Rattle.spec_journal.specs.Journal as journals
use Rattle.rows_journal.proofs.upgrade_row.Goals as goal

pub returns-clause-appended : goal.returns-clause-appended
unfolding journals.read_on records.record_at reading.u64_at reading.within_at packets.entry_at packets.body_at number_bytes.u64_bytes
returns-clause-appended c = refl

pub returns-clause-loaded : goal.returns-clause-loaded
unfolding journals.read_on records.record_at reading.u64_at reading.within_at packets.entry_at packets.body_at number_bytes.u64_bytes
returns-clause-loaded c = refl

pub returns-clause-version : goal.returns-clause-version
unfolding journals.read_on records.record_at reading.u64_at reading.within_at packets.entry_at packets.body_at number_bytes.u64_bytes
returns-clause-version c = refl

pub returns-clause-again : goal.returns-clause-again
unfolding journals.read_on records.record_at reading.u64_at reading.within_at packets.entry_at packets.body_at number_bytes.u64_bytes
returns-clause-again c = refl
