-- Behind all turns only the last `settle 1` is left.
use Rattle.std.proofs.Common.{◌≡◌, ◌∙◌, arith}
use Rattle.ax_types.specs.declared.scripts.Line.TheVariants as line
use Rattle.script_gen.proofs.Lines.{with_line}
use Rattle.script_gen.proofs.script.add_turns.Goals as goal

pub returns : goal.returns
returns c =
    let settled : c.add.new.lines ≡ with_line c.turns.lines (line.Settle 1) = cc (c.in_ok-add.ensures, c.settle.ensures) in
    settled ∙ c.turns.invariant.rest 0 (omega arith)
