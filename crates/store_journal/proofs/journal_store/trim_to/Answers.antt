use Rattle.std.proofs.Common.{◌≤◌, length, refl, arith}
use Rattle.spec_journal.specs.Journal as journals
use Rattle.store_journal.proofs.StoreReads.{trims_whole, read_untrimmed}
use Rattle.store_journal.proofs.journal_store.trim_to.Goals as goal

pub returns-then-whole-bytes-clause-read : goal.returns-then-whole-bytes-clause-read
returns-then-whole-bytes-clause-read g c =
    (trims_whole (g.K.Keeper.content c.args.keeper.now) (g.K.Keeper.content c.trim.new.self) c.args.bytes.now c.args.whole c.trim.result c.requires.told (λ i. omega (arith, c.type_inv.bytes i)) c.requires.part c.requires.whole c.trim.ensures.trimmed).0

pub returns-then-whole-bytes-clause-same : goal.returns-then-whole-bytes-clause-same
returns-then-whole-bytes-clause-same g c =
    (trims_whole (g.K.Keeper.content c.args.keeper.now) (g.K.Keeper.content c.trim.new.self) c.args.bytes.now c.args.whole c.trim.result c.requires.told (λ i. omega (arith, c.type_inv.bytes i)) c.requires.part c.requires.whole c.trim.ensures.trimmed).1

pub returns-clause-read : goal.returns-clause-read
returns-clause-read g c =
    let all : length c.args.bytes.now ≤ journals.whole (journals.records_of c.args.bytes.now) = omega (arith, c.if-whole-bytes.false, c.requires.whole) in
    (read_untrimmed (g.K.Keeper.content c.args.keeper.now) (g.K.Keeper.content c.args.keeper.now) c.args.bytes.now c.requires.told (λ i. omega (arith, c.type_inv.bytes i)) c.requires.part all refl).is
