use Rattle.std.proofs.Common.{refl}
use Rattle.std.specs.Fmt.{digits}
use Rattle.rows_salvage.proofs.longer_log_of_an_older_term_is_older.Goals as goal

-- the text is computed
pub returns : goal.returns
unfolding digits
returns c = refl
