use Rattle.std.proofs.Common.{refl}
use Rattle.std.specs.Fmt.{digits}
use Rattle.rows_upgrade.proofs.old_journal_is_upgraded.Goals as goal

-- the text is computed
pub returns : goal.returns
unfolding digits
returns c = refl
