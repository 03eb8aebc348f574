-- A script of one addition, with and without a comment in it, and what it is read as.
use Rattle.std.specs.Prelude.{ℕ, ◌+◌, pos, List, [], ◌∷◌, ◌++◌, codes}
use Rattle.ax_types.specs.declared.ops.LongOp.TheVariants as long_op
use Rattle.ax_types.specs.declared.ops.Op.TheVariants as op
use Rattle.ax_types.specs.declared.scripts.Line.TheVariants as line
use Rattle.ax_types.specs.declared.scripts.Script.{Script}
use Rattle.ax_types.specs.declared.steps.Step.TheVariants as step

abbrev pub cluster_line : List ℕ
cluster_line = codes "cluster 1 clients 1 timeout 1000\n"

abbrev pub later_lines : List ℕ
later_lines = codes "elect 1\nopen 1 1\nflush\ncall 1 long c add 5\nflush\n"

abbrev pub one_add_script : List ℕ
one_add_script = cluster_line ++ later_lines

-- with a comment of these bytes behind the cluster line
abbrev pub one_add_with_comment : List ℕ → List ℕ
one_add_with_comment bytes = cluster_line ++ (35 ∷ (bytes ++ (10 ∷ later_lines)))

-- its lines, of which the second of the script has this number
abbrev pub one_add : ℕ → Script
one_add second = record {
  nodes = 1;
  clients = 1;
  timeout = 1000;
  lines = (second, line.Do (step.Elect 1)) ∷ (second + 1, line.Do (step.Open 1 1)) ∷ (second + 2, line.Flush)
      ∷ (second + 3, line.Do (step.Call 1 (codes "c") (op.Long (long_op.Add (pos 5))))) ∷ (second + 4, line.Flush) ∷ [];
  callers = [];
  plan = [];
  feeds = [];
  last_line = second + 4;
}
