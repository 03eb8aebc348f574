-- What the words give, behind references.
use Rattle.std.specs.Prelude.{ℕ, List, Option, option_map}
use Rattle.std.specs.Borrow.{Bor}
use Rattle.spec_command.specs.CommandLine as command_lines
use Rattle.command_words.specs.declared.words.Given.{Given}

abbrev pub text_behind : Option (Bor (List ℕ)) → Option (List ℕ)
text_behind = option_map (λ s. s.now)

abbrev pub given_behind : Given → command_lines.Operands
given_behind g = record {
  operand = text_behind g.operand;
  json = g.json;
  steps = g.steps;
  nodes = text_behind g.nodes;
  timeout = text_behind g.timeout;
}
