use Rattle.std.proofs.Common.{refl}
use Rattle.spec_script.specs.Scripts as scripts
use Rattle.rows_script.proofs.long_comment.Goals as goal

pub returns-clause-refused : goal.returns-clause-refused
unfolding scripts.longest_script scripts.is_too_long
returns-clause-refused c = refl

pub returns-clause-longest : goal.returns-clause-longest
unfolding scripts.longest_script scripts.is_too_long
returns-clause-longest c = refl
