-- All lines are there, and the last has the number of all lines and of the cluster line.
use Rattle.std.proofs.Common.{◌≡◌, ℕ, ◌+◌, length, ap, ◌∙◌, arith}
use Rattle.ax_types.specs.Places as lists
use Rattle.spec_gen.specs.Generator as generators
use Rattle.script_gen.proofs.Lines.{all_lines, length-numbered}
use Rattle.script_gen.proofs.script.gen_script.Goals as goal

pub returns : goal.returns
returns c =
    let seed : ℕ = c.args.seed in
    let same : c.add_turns.new.lines ≡ lists.numbered 2 (generators.generated_lines seed) =
    all_lines c.add_turns.new.lines c.add_first.new.lines c.turn_count.result seed
    c.in_ok-add_first.ensures c.turn_count.ensures.count c.in_ok-add_turns.ensures in
    let all : c.len.result ≡ length (generators.generated_lines seed) = c.len.ensures ∙ ap length same ∙ length-numbered 2 (generators.generated_lines seed) in
    let last : c.len.result + 1 ≡ 1 + length (generators.generated_lines seed) = omega (arith, all) in
    cc (same, last, c.new.ensures, c.new-2.ensures, c.new-3.ensures)
