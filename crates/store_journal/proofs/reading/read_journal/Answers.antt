use Rattle.std.proofs.Common.{rules, ◌≡◌, Ok, Err, length, refl, arith}
use Rattle.spec_reading.specs.Reading as reading
use Rattle.spec_journal.specs.Records as journal_records
use Rattle.store_journal.specs.Journaled as journaled
use Rattle.store_journal.proofs.RecordsSoFar.{one_more_read, less_is_left, all_read}
use Rattle.store_journal.proofs.reading.read_journal.Goals as goal

pub records-smaller : goal.records-smaller
records-smaller c =
    let read : journal_records.record_at c.records.left.counted (length c.records.left.content.log) c.records.reader ≡ Ok (journaled.record_of c.in-Ok.next, c.read_record.new.reader) = first_of (cc (c.is_counted.ensures, c.entries.ensures.entries, c.in-Ok.ensures), search rules, grind arith) in
    less_is_left c.args.bytes.now c.records.left c.records.reader _ _ c.records.invariant read

pub records-preserved : goal.records-preserved
records-preserved c =
    let read : journal_records.record_at c.records.left.counted (length c.records.left.content.log) c.records.reader ≡ Ok (journaled.record_of c.in-Ok.next, c.read_record.new.reader) = first_of (cc (c.is_counted.ensures, c.entries.ensures.entries, c.in-Ok.ensures), search rules, grind arith) in
    rw c.in_ok-take-in-Ok.ensures (one_more_read c.args.bytes.now c.records.left c.records.reader _ _ c.records.invariant read)

pub returns-in-Err-Part-clause-left : goal.returns-in-Err-Part-clause-left
returns-in-Err-Part-clause-left c =
    let e : journal_records.record_at c.is_counted.result c.entries.result c.records.reader ≡ Err reading.Part = rw c.in-Err-Part.field-0-is at c.in-Err-Part.ensures in
    let read : journal_records.record_at c.records.left.counted (length c.records.left.content.log) c.records.reader ≡ Err reading.Part = first_of (cc (c.is_counted.ensures, c.entries.ensures.entries, e), search rules, grind arith) in
    let end = all_read c.args.bytes.now c.records.left c.records.reader reading.Part c.records.invariant read in
    end.left_is

pub returns-in-Err-Part-clause-whole : goal.returns-in-Err-Part-clause-whole
returns-in-Err-Part-clause-whole c =
    let e : journal_records.record_at c.is_counted.result c.entries.result c.records.reader ≡ Err reading.Part = rw c.in-Err-Part.field-0-is at c.in-Err-Part.ensures in
    let read : journal_records.record_at c.records.left.counted (length c.records.left.content.log) c.records.reader ≡ Err reading.Part = first_of (cc (c.is_counted.ensures, c.entries.ensures.entries, e), search rules, grind arith) in
    let end = all_read c.args.bytes.now c.records.left c.records.reader reading.Part c.records.invariant read in
    grind (arith, end.whole_is)

pub returns-in-Err-Part-clause-bad : goal.returns-in-Err-Part-clause-bad
returns-in-Err-Part-clause-bad c =
    let e : journal_records.record_at c.is_counted.result c.entries.result c.records.reader ≡ Err reading.Part = rw c.in-Err-Part.field-0-is at c.in-Err-Part.ensures in
    let read : journal_records.record_at c.records.left.counted (length c.records.left.content.log) c.records.reader ≡ Err reading.Part = first_of (cc (c.is_counted.ensures, c.entries.ensures.entries, e), search rules, grind arith) in
    let end = all_read c.args.bytes.now c.records.left c.records.reader reading.Part c.records.invariant read in
    rw end.why_is refl

pub returns-in-Err-Wrong-clause-left : goal.returns-in-Err-Wrong-clause-left
returns-in-Err-Wrong-clause-left c =
    let e : journal_records.record_at c.is_counted.result c.entries.result c.records.reader ≡ Err reading.Wrong = rw c.in-Err-Wrong.field-0-is at c.in-Err-Wrong.ensures in
    let read : journal_records.record_at c.records.left.counted (length c.records.left.content.log) c.records.reader ≡ Err reading.Wrong = first_of (cc (c.is_counted.ensures, c.entries.ensures.entries, e), search rules, grind arith) in
    let end = all_read c.args.bytes.now c.records.left c.records.reader reading.Wrong c.records.invariant read in
    end.left_is

pub returns-in-Err-Wrong-clause-whole : goal.returns-in-Err-Wrong-clause-whole
returns-in-Err-Wrong-clause-whole c =
    let e : journal_records.record_at c.is_counted.result c.entries.result c.records.reader ≡ Err reading.Wrong = rw c.in-Err-Wrong.field-0-is at c.in-Err-Wrong.ensures in
    let read : journal_records.record_at c.records.left.counted (length c.records.left.content.log) c.records.reader ≡ Err reading.Wrong = first_of (cc (c.is_counted.ensures, c.entries.ensures.entries, e), search rules, grind arith) in
    let end = all_read c.args.bytes.now c.records.left c.records.reader reading.Wrong c.records.invariant read in
    grind (arith, end.whole_is)

pub returns-in-Err-Wrong-clause-bad : goal.returns-in-Err-Wrong-clause-bad
returns-in-Err-Wrong-clause-bad c =
    let e : journal_records.record_at c.is_counted.result c.entries.result c.records.reader ≡ Err reading.Wrong = rw c.in-Err-Wrong.field-0-is at c.in-Err-Wrong.ensures in
    let read : journal_records.record_at c.records.left.counted (length c.records.left.content.log) c.records.reader ≡ Err reading.Wrong = first_of (cc (c.is_counted.ensures, c.entries.ensures.entries, e), search rules, grind arith) in
    let end = all_read c.args.bytes.now c.records.left c.records.reader reading.Wrong c.records.invariant read in
    rw end.why_is refl
