use Rattle.std.proofs.Common.{rules, ◌≡◌, ◌∷◌, ◌∙◌, []}
use Rattle.spec_wire.specs.Ranges as ranges
use Rattle.spec_reading.specs.Reading as reading
use Rattle.spec_journal.specs.Records as journal_records
use Rattle.spec_journal.specs.Journal as journals
use Rattle.store_journal.proofs.StoreCalls.{known}
use Rattle.store_journal.proofs.StoreReads.{count_keeps_whole, count_tells, on_ok}
use Rattle.store_journal.proofs.journal_store.JournalStore.append_count.Goals as goal

pub append-requires-clause-whole : goal.append-requires-clause-whole
append-requires-clause-whole g c = λ fits.
    let is = known g.K.Keeper.content _ _ _ _ _ c.self.view_is c.requires.loaded c.self.invariant in
    let room : ranges.IsNumber c.self.inside.entries = search rules in
    let same : c.as_slice-bytes.result.now ≡ journals.records_bytes (journal_records.Count c.self.inside.entries ∷ []) = c.as_slice-bytes.ensures.value ∙ c.in_ok-out.ensures.bytes in
    count_keeps_whole (g.K.Keeper.content c.args.self.now.keeper) c.as_slice-bytes.result.now c.self.inside.counted c.self.inside.entries is c.requires.plain room fits same

pub returns-clause-told : goal.returns-clause-told
returns-clause-told g c =
    let is = known g.K.Keeper.content _ _ _ _ _ c.self.view_is c.requires.loaded c.self.invariant in
    let fits : reading.IsBytes c.as_slice-bytes.result.now = c.append.ensures.are_bytes in
    let room : ranges.IsNumber c.self.inside.entries = search rules in
    let same : c.as_slice-bytes.result.now ≡ journals.records_bytes (journal_records.Count c.self.inside.entries ∷ []) = c.as_slice-bytes.ensures.value ∙ c.in_ok-out.ensures.bytes in
    count_tells (g.K.Keeper.content c.args.self.now.keeper) (g.K.Keeper.content c.append.new.self.keeper) c.as_slice-bytes.result.now c.self.inside.counted c.self.inside.entries c.append.result is c.requires.plain room fits same c.append.ensures.appended

pub returns-clause-version : goal.returns-clause-version
returns-clause-version g c =
    let is = known g.K.Keeper.content _ _ _ _ _ c.self.view_is c.requires.loaded c.self.invariant in
    let fits : reading.IsBytes c.as_slice-bytes.result.now = c.append.ensures.are_bytes in
    let room : ranges.IsNumber c.self.inside.entries = search rules in
    let same : c.as_slice-bytes.result.now ≡ journals.records_bytes (journal_records.Count c.self.inside.entries ∷ []) = c.as_slice-bytes.ensures.value ∙ c.in_ok-out.ensures.bytes in
    on_ok (g.K.Keeper.content c.args.self.now.keeper) (g.K.Keeper.content c.append.new.self.keeper) c.as_slice-bytes.result.now c.self.inside.counted c.self.inside.entries c.append.result is c.requires.plain room fits same c.append.ensures.appended
