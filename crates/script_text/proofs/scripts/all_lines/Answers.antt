-- A last line that is no cluster line is refused, so a line comes behind each other one.
use Rattle.std.proofs.Common.{◌≡◌, ℕ, List, true, ap, ◌∙◌}
use Rattle.std.specs.Prelude.{None, Ok, option_map}
use Rattle.spec_script.specs.Scripts as scripts
use Rattle.script_text.proofs.LineLemmas.{after_first-last}
use Rattle.script_text.specs.ReadScripts as read_scripts
use Rattle.script_text.specs.Drafts as drafts
use Rattle.script_text.proofs.scripts.all_lines.Goals as goal

pub unreachable-requires : goal.unreachable-requires
unreachable-requires c =
    let place : scripts.LinePosition = read_scripts.place_behind c.place_of-place.result in
    let line : List ℕ = c.cut_line.result.0.now in
    let is_last : place.is_last ≡ true =
    ap (λ (p : scripts.LinePosition). p.is_last) c.place_of-place.ensures ∙ ap (λ m. scripts.is_empty (read_scripts.lines_in m)) c.in_default.is in
    let read : scripts.after_first place line ≡ Ok None =
    c.in-Ok-None.ensures ∙ ap (λ d. Ok (option_map drafts.draft_of d)) c.in-Ok-None.field-0-is in
    after_first-last place line is_last read
