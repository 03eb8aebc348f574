use Rattle.std.proofs.Common.{refl}
use Rattle.std.specs.Fmt.{digits}
use Rattle.rows_report.proofs.one_add_is_written.Goals as goal

-- the text is computed
pub returns : goal.returns
unfolding digits
returns c = refl
