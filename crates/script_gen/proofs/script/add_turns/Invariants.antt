use Rattle.std.proofs.Common.{◌≡◌, ℕ, ◌+◌, ◌*◌, ◌≤◌, length}
use Rattle.spec_gen.specs.Generator as generators
use Rattle.script_gen.specs.GeneratedLines as generated_lines
use Rattle.script_gen.proofs.script.add_turns.Given as goal

abbrev pub invariant-turns : goal.invariant-turns
invariant-turns l = record {
  rest : (left : ℕ) → left + l.number ≡ l.fn.count + 1
      → generated_lines.with_lines l.lines (generators.turns left l.number l.draws.state) ≡ generated_lines.with_lines l.fn.lines (generators.turns l.fn.count 1 l.fn.seed);
  short : length l.lines ≤ 2000 + 2 * l.number;
}
