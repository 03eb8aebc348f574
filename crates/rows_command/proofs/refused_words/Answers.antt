use Rattle.std.proofs.Common.{refl}
use Rattle.clap.proofs.OnLiterals.{clap_on_literals}
use Rattle.spec_command.specs.CommandLine as command_lines
use Rattle.rows_command.proofs.refused_words.Goals as goal

pub returns-clause-no_words : goal.returns-clause-no_words
unfolding clap_on_literals command_lines.axrun
returns-clause-no_words c = refl

pub returns-clause-unknown : goal.returns-clause-unknown
unfolding clap_on_literals command_lines.axrun
returns-clause-unknown c = refl

pub returns-clause-extra_operand : goal.returns-clause-extra_operand
unfolding clap_on_literals command_lines.axrun
returns-clause-extra_operand c = refl

pub returns-clause-missing_operand : goal.returns-clause-missing_operand
unfolding clap_on_literals command_lines.axrun
returns-clause-missing_operand c = refl

pub returns-clause-third_word : goal.returns-clause-third_word
unfolding clap_on_literals command_lines.axrun
returns-clause-third_word c = refl

pub returns-clause-wrong_flag : goal.returns-clause-wrong_flag
unfolding clap_on_literals command_lines.axrun
returns-clause-wrong_flag c = refl

pub returns-clause-flag_twice : goal.returns-clause-flag_twice
unfolding clap_on_literals command_lines.axrun
returns-clause-flag_twice c = refl

pub returns-clause-help : goal.returns-clause-help
unfolding clap_on_literals command_lines.axrun
returns-clause-help c = refl

pub returns-clause-seed_too_great : goal.returns-clause-seed_too_great
unfolding clap_on_literals command_lines.axrun
returns-clause-seed_too_great c = refl

pub returns-clause-leading_zero : goal.returns-clause-leading_zero
unfolding clap_on_literals command_lines.axrun
returns-clause-leading_zero c = refl

pub returns-clause-timeout_of_zero : goal.returns-clause-timeout_of_zero
unfolding clap_on_literals command_lines.axrun
returns-clause-timeout_of_zero c = refl

pub returns-clause-missing_option : goal.returns-clause-missing_option
unfolding clap_on_literals command_lines.axrun
returns-clause-missing_option c = refl

pub returns-clause-option_of_another : goal.returns-clause-option_of_another
unfolding clap_on_literals command_lines.axrun
returns-clause-option_of_another c = refl
