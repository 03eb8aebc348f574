use Rattle.std.proofs.Common.{refl}
use Rattle.std.specs.Fmt.{digits}
use Rattle.json.specs.Print.{escape_byte}
use Rattle.rows_report.proofs.one_add_is_written_in_json.Goals as goal

-- the text is computed
pub returns : goal.returns
unfolding digits escape_byte
returns c = refl
