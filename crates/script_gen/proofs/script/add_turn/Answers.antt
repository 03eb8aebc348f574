-- The line of a turn is added, and behind every eighth a `settle 1`.
use Rattle.std.proofs.Common.{◌≡◌, ◌+◌, ◌%◌, true, false, nat_eq, ap, sym, ◌∙◌, arith}
use Rattle.std.proofs.lemmas.Bool.Decides.{nat_tests}
use Rattle.ax_types.specs.declared.scripts.Line.TheVariants as line
use Rattle.spec_gen.specs.Generator as generators
use Rattle.script_gen.specs.GeneratedLines as generated_lines
use Rattle.script_gen.proofs.Lines.{turn_alone, turn_and_settle, with_line}
use Rattle.script_gen.proofs.script.add_turn.Goals as goal

pub returns-then-number-eq0-clause-added : goal.returns-then-number-eq0-clause-added
returns-then-number-eq0-clause-added c left =
    let eighth : nat_eq (c.args.number % 8) 0 ≡ true = grind (arith, nat_tests) in
    let added : c.add.new.lines ≡ with_line c.args.lines.now c.in_ok-line.line = c.in_ok-add.ensures in
    let settled : c.add-then-number-eq0.new.lines ≡ with_line c.add.new.lines (line.Settle 1) = cc (c.in_ok-add-2.ensures, c.settle.ensures) in
    turn_and_settle c.args.lines.now left c.args.number c.args.draws.now.state _ c.in_ok-line.ensures eighth
    ∙ ap (λ (ls : generated_lines.NumberedLines). generated_lines.with_lines (with_line ls (line.Settle 1)) (generators.turns left (c.args.number + 1) c.turn.new.draws.state)) (sym added)
    ∙ ap (λ (ls : generated_lines.NumberedLines). generated_lines.with_lines ls (generators.turns left (c.args.number + 1) c.turn.new.draws.state)) (sym settled)

pub returns-clause-added : goal.returns-clause-added
returns-clause-added c left =
    let other : nat_eq (c.args.number % 8) 0 ≡ false = grind (arith, nat_tests) in
    let added : c.add.new.lines ≡ with_line c.args.lines.now c.in_ok-line.line = c.in_ok-add.ensures in
    turn_alone c.args.lines.now left c.args.number c.args.draws.now.state _ c.in_ok-line.ensures other
    ∙ ap (λ (ls : generated_lines.NumberedLines). generated_lines.with_lines ls (generators.turns left (c.args.number + 1) c.turn.new.draws.state)) (sym added)
