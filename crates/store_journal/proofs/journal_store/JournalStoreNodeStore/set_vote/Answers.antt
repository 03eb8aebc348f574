use Rattle.std.proofs.Common.{rules, ◌≡◌, ◌++◌, ◌∷◌, ◌∙◌, []}
use Rattle.spec_wire.specs.Ranges as ranges
use Rattle.spec_reading.specs.Reading as reading
use Rattle.spec_journal.specs.Records as journal_records
use Rattle.spec_journal.specs.Journal as journals
use Rattle.store_journal.specs.Journaled as journaled
use Rattle.store_journal.proofs.StoreCalls.{known, vote_appends}
use Rattle.store_journal.proofs.journal_store.JournalStoreNodeStore.set_vote.Goals as goal

pub append-requires-clause-whole : goal.append-requires-clause-whole
append-requires-clause-whole g c = λ fits.
    let is = known g.K.Keeper.content _ _ _ _ _ c.self.view_is c.requires.loaded c.self.invariant in
    let room : ranges.IsNumber c.self.inside.entries = search rules in
    let same : c.as_slice-bytes.result.now ≡ journals.records_bytes (journaled.first_of c.self.inside.counted c.self.inside.entries ++ journal_records.Vote c.args.term c.args.vote ∷ []) = c.as_slice-bytes.ensures.value ∙ c.in_ok-out.ensures.bytes in
    (vote_appends (g.K.Keeper.content c.args.self.now.keeper) c.self.inside.counted c.self.inside.entries c.args.term c.args.vote c.as_slice-bytes.result.now is room c.ranges.term.fits c.in_ok-out.ensures.fits fits same).whole

pub returns-clause-saved : goal.returns-clause-saved
returns-clause-saved g c =
    let is = known g.K.Keeper.content _ _ _ _ _ c.self.view_is c.requires.loaded c.self.invariant in
    let fits : reading.IsBytes c.as_slice-bytes.result.now = c.append.ensures.are_bytes in
    let room : ranges.IsNumber c.self.inside.entries = search rules in
    let same : c.as_slice-bytes.result.now ≡ journals.records_bytes (journaled.first_of c.self.inside.counted c.self.inside.entries ++ journal_records.Vote c.args.term c.args.vote ∷ []) = c.as_slice-bytes.ensures.value ∙ c.in_ok-out.ensures.bytes in
    (vote_appends (g.K.Keeper.content c.args.self.now.keeper) c.self.inside.counted c.self.inside.entries c.args.term c.args.vote c.as_slice-bytes.result.now is room c.ranges.term.fits c.in_ok-out.ensures.fits fits same).saves (g.K.Keeper.content c.append.new.self.keeper) c.append.result c.append.ensures.appended
