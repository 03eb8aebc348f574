use Rattle.std.proofs.Common.{refl}
use Rattle.spec_script.specs.Scripts as scripts
use Rattle.rows_script.proofs.comment_alone.Goals as goal

pub returns-clause-with_newline : goal.returns-clause-with_newline
unfolding scripts.longest_script scripts.is_too_long
returns-clause-with_newline c = refl

pub returns-clause-without_newline : goal.returns-clause-without_newline
unfolding scripts.longest_script scripts.is_too_long
returns-clause-without_newline c = refl
