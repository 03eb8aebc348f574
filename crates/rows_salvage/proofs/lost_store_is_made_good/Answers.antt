use Rattle.std.proofs.Common.{refl}
use Rattle.std.specs.Fmt.{digits}
use Rattle.rows_salvage.proofs.lost_store_is_made_good.Goals as goal

-- the text is computed
pub returns : goal.returns
unfolding digits
returns c = refl
