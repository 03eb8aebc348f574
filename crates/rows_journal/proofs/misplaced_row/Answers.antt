use Rattle.std.proofs.Common.{refl}
use Rattle.spec_wire.specs.NumberBytes as number_bytes
use Rattle.spec_reading.specs.Reading as reading
use Rattle.spec_reading.specs.Packets as packets
use Rattle.spec_journal.specs.Records as records
use Rattle.spec_journal.specs.Journal as journals
use Rattle.rows_journal.proofs.misplaced_row.Goals as goal

pub returns : goal.returns
unfolding journals.read_on records.record_at reading.u64_at reading.within_at packets.entry_at packets.body_at number_bytes.u64_bytes
returns c = refl
