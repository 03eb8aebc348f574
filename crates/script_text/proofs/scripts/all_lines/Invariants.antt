use Rattle.std.proofs.Common.{◌≡◌, ◌+◌, ◌≤◌, ◌^◌, length}
use Rattle.std.specs.Prelude.{None}
use Rattle.std.specs.List.{slice_split}
use Rattle.spec_script.specs.Scripts as scripts
use Rattle.script_text.proofs.LineLemmas.{newline}
use Rattle.script_text.proofs.scripts.all_lines.Given as goal

abbrev pub invariant-lines : goal.invariant-lines
invariant-lines l = record {
  rest : scripts.read_lines l.fn.race l.fn.is_long (slice_split newline l.rest) l.number None
      ≡ scripts.read_lines l.fn.race l.fn.is_long (slice_split newline l.fn.bytes) 1 None;
  few : l.number + length (slice_split newline l.rest) ≤ 2 ^ 62;
}

abbrev pub decreases-lines : goal.decreases-lines
decreases-lines l = length (slice_split newline l.rest)
