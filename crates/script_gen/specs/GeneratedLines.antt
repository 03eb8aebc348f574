-- The lines of a script behind its cluster line, each with its number.
use Rattle.std.specs.Prelude.{ℕ, ◌+◌, List, ◌++◌, length}
use Rattle.ax_types.specs.declared.scripts.Line.{Line}
use Rattle.ax_types.specs.Places as lists

abbrev pub NumberedLines : Type 0
NumberedLines = List (ℕ × Line)

-- with those more
abbrev pub with_lines : NumberedLines → List Line → NumberedLines
with_lines lines more = lines ++ lists.numbered (length lines + 2) more
