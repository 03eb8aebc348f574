use Rattle.std.proofs.Common.{◌≡◌, take}
use Rattle.store_journal.proofs.mem_store.copies.Given as goal

abbrev pub invariant-entries : goal.invariant-entries
invariant-entries l = l.copies.items ≡ take l.entry-index l.entries
