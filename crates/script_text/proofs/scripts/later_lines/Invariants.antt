use Rattle.std.proofs.Common.{◌≡◌, ◌+◌, ◌≤◌, ◌^◌, length}
use Rattle.std.specs.Prelude.{Some}
use Rattle.spec_script.specs.Scripts as scripts
use Rattle.script_text.specs.ReadScripts as read_scripts
use Rattle.script_text.specs.Drafts as drafts
use Rattle.script_text.proofs.scripts.later_lines.Given as goal

abbrev pub invariant-lines : goal.invariant-lines
invariant-lines l = record {
  rest : scripts.read_lines l.fn.race l.fn.is_long (read_scripts.lines_in l.rest) l.number (Some (drafts.draft_of l.draft))
      ≡ scripts.read_lines l.fn.race l.fn.is_long (read_scripts.lines_in l.fn.rest) l.fn.number (Some (drafts.draft_of l.fn.draft));
  few : l.number + length (read_scripts.lines_in l.rest) ≤ 2 ^ 62;
}

abbrev pub decreases-lines : goal.decreases-lines
decreases-lines l = length (read_scripts.lines_in l.rest)
