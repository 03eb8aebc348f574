use Rattle.law_script.proofs.Digits.{number-decimal}
use Rattle.law_script.proofs.number_is_decimal.Goals as goal

pub returns : goal.returns
returns c = number-decimal
