use Rattle.std.proofs.Common.{refl}
use Rattle.clap.proofs.OnLiterals.{clap_on_literals}
use Rattle.spec_command.specs.CommandLine as command_lines
use Rattle.rows_command.proofs.accepted_words.Goals as goal

pub returns-clause-run : goal.returns-clause-run
unfolding clap_on_literals command_lines.axrun
returns-clause-run c = refl

pub returns-clause-run_json : goal.returns-clause-run_json
unfolding clap_on_literals command_lines.axrun
returns-clause-run_json c = refl

pub returns-clause-run_in : goal.returns-clause-run_in
unfolding clap_on_literals command_lines.axrun
returns-clause-run_in c = refl

pub returns-clause-generate : goal.returns-clause-generate
unfolding clap_on_literals command_lines.axrun
returns-clause-generate c = refl

pub returns-clause-race : goal.returns-clause-race
unfolding clap_on_literals command_lines.axrun
returns-clause-race c = refl

pub returns-clause-upgrade : goal.returns-clause-upgrade
unfolding clap_on_literals command_lines.axrun
returns-clause-upgrade c = refl

pub returns-clause-audit : goal.returns-clause-audit
unfolding clap_on_literals command_lines.axrun
returns-clause-audit c = refl

pub returns-clause-salvage : goal.returns-clause-salvage
unfolding clap_on_literals command_lines.axrun
returns-clause-salvage c = refl
