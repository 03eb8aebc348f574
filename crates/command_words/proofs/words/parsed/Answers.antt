use Rattle.std.proofs.Common.{◌≡◌, List, [], ap, sym, ◌∙◌, map, string_bytes}
use Rattle.clap.specs.Faults.{fault_of}
use Rattle.clap.specs.Kinds.{HasKind}
use Rattle.clap.specs.Simple.{App, app_of, matches_of}
use Rattle.clap.specs.Walk.{Text, is_empty}
use Rattle.spec_command.specs.CommandLine as command_lines
use Rattle.command_words.proofs.ClapLemmas.{has_fault, is_simple-line, is_simple_and_free-line}
use Rattle.command_words.proofs.words.parsed.Goals as goal

pub returns-in-Ok-try_get_matches_from : goal.returns-in-Ok-try_get_matches_from
returns-in-Ok-try_get_matches_from c =
    let line : App = app_of c.in-Ok.line in
    let is_axrun : line ≡ command_lines.axrun = c.in-Ok.ensures in
    let words : List Text = map string_bytes c.args.words.now in
    let no_fault : fault_of line words ≡ [] = c.in-Ok-try_get_matches_from.ensures.kinds (is_simple_and_free-line line is_axrun) in (
      ap (λ (a : App). is_empty (fault_of a words)) (sym is_axrun) ∙ ap is_empty no_fault,
      (c.in-Ok-try_get_matches_from.ensures.matches (is_simple-line line is_axrun)).0 ∙ ap (λ (a : App). matches_of a words) is_axrun,
    )

pub returns : goal.returns
returns c =
    let line : App = app_of c.in-Ok.line in
    let is_axrun : line ≡ command_lines.axrun = c.in-Ok.ensures in
    let words : List Text = map string_bytes c.args.words.now in
    let known : HasKind (fault_of line words) c.in-Err.error = c.in-Err.ensures.kinds (is_simple_and_free-line line is_axrun) in
    ap (λ (a : App). is_empty (fault_of a words)) (sym is_axrun)
    ∙ has_fault (fault_of line words) c.in-Err.error known (λ e. absurd (c.in_default-kind.not-OutOfMemory (c.kind.ensures ∙ e)))
