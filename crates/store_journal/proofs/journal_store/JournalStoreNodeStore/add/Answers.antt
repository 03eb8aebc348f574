use Rattle.std.proofs.Common.{rules, ◌≡◌, ◌<◌, ◌≢◌, ◌++◌, ◌∙◌, [], ◌+◌, length, ap, arith}
use Rattle.std.specs.Prelude.{◌^◌}
use Rattle.spec_wire.specs.Ranges as ranges
use Rattle.spec_reading.specs.Reading as reading
use Rattle.spec_journal.specs.Journal as journals
use Rattle.store_journal.specs.Journaled as journaled
use Rattle.store_journal.proofs.StoreCalls.{known, add_some, add_appends}
use Rattle.store_journal.proofs.journal_store.JournalStoreNodeStore.add.Goals as goal

pub append-requires-clause-some : goal.append-requires-clause-some
append-requires-clause-some g c =
    let is = known g.K.Keeper.content _ _ _ _ _ c.self.view_is c.requires.loaded c.self.invariant in
    let room : ranges.IsNumber c.self.inside.entries = search rules in
    let same : c.as_slice-bytes.result.now ≡ journals.records_bytes (journaled.first_of c.self.inside.counted c.self.inside.entries ++ journals.placed_records (c.self.inside.entries + 1) c.args.entries.now) = c.as_slice-bytes.ensures.value ∙ c.in_ok-out.ensures.bytes in
    let long : 0 < length c.args.entries.now = first_of (search rules, grind arith) in
    let some : c.args.entries.now ≢ [] = λ e. omega (arith, ap length e, long) in
    add_some c.as_slice-bytes.result.now (journaled.first_of c.self.inside.counted c.self.inside.entries) (c.self.inside.entries + 1) c.args.entries.now some same

pub append-requires-clause-whole : goal.append-requires-clause-whole
append-requires-clause-whole g c = λ fits.
    let is = known g.K.Keeper.content _ _ _ _ _ c.self.view_is c.requires.loaded c.self.invariant in
    let room : ranges.IsNumber c.self.inside.entries = search rules in
    let same : c.as_slice-bytes.result.now ≡ journals.records_bytes (journaled.first_of c.self.inside.counted c.self.inside.entries ++ journals.placed_records (c.self.inside.entries + 1) c.args.entries.now) = c.as_slice-bytes.ensures.value ∙ c.in_ok-out.ensures.bytes in
    let long : 0 < length c.args.entries.now = first_of (search rules, grind arith) in
    let some : c.args.entries.now ≢ [] = λ e. omega (arith, ap length e, long) in
    let total : c.in-Some.last ≡ c.self.inside.entries + length c.args.entries.now = first_of (search rules, grind arith) in
    let below : c.in-Some.last < 2 ^ 64 = first_of (search rules, grind arith) in
    (add_appends (g.K.Keeper.content c.args.self.now.keeper) c.self.inside.counted c.self.inside.entries c.args.entries.now c.in-Some.last c.as_slice-bytes.result.now is some total below c.in_ok-out.ensures.fits fits same).whole

pub returns-clause-saved : goal.returns-clause-saved
returns-clause-saved g c =
    let is = known g.K.Keeper.content _ _ _ _ _ c.self.view_is c.requires.loaded c.self.invariant in
    let fits : reading.IsBytes c.as_slice-bytes.result.now = c.append.ensures.are_bytes in
    let room : ranges.IsNumber c.self.inside.entries = search rules in
    let same : c.as_slice-bytes.result.now ≡ journals.records_bytes (journaled.first_of c.self.inside.counted c.self.inside.entries ++ journals.placed_records (c.self.inside.entries + 1) c.args.entries.now) = c.as_slice-bytes.ensures.value ∙ c.in_ok-out.ensures.bytes in
    let long : 0 < length c.args.entries.now = first_of (search rules, grind arith) in
    let some : c.args.entries.now ≢ [] = λ e. omega (arith, ap length e, long) in
    let total : c.in-Some.last ≡ c.self.inside.entries + length c.args.entries.now = first_of (search rules, grind arith) in
    let below : c.in-Some.last < 2 ^ 64 = first_of (search rules, grind arith) in
    (add_appends (g.K.Keeper.content c.args.self.now.keeper) c.self.inside.counted c.self.inside.entries c.args.entries.now c.in-Some.last c.as_slice-bytes.result.now is some total below c.in_ok-out.ensures.fits fits same).saves (g.K.Keeper.content c.append.new.self.keeper) c.append.result c.append.ensures.appended
