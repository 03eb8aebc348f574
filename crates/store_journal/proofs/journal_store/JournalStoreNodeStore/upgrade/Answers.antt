use Rattle.std.proofs.Common.{rules, arith}
use Rattle.store_journal.proofs.StoreCalls.{upgrade_fails_as}
use Rattle.store_journal.proofs.journal_store.JournalStoreNodeStore.upgrade.Goals as goal

pub returns-in_err-append_count-clause-upgraded : goal.returns-in_err-append_count-clause-upgraded
returns-in_err-append_count-clause-upgraded g c =
    upgrade_fails_as _ _ _ c.from_residual-in_err-append_count.result c.in_err-append_count.field-0.0 c.in_err-append_count.ensures.not_bad (first_of (search rules, cc, grind arith))
