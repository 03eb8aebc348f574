use Rattle.std.proofs.Common.{◌≡◌, ℕ, List, arith, length, ap, sym, ◌∙◌, subst, nat_lt}
use Rattle.std.specs.Prelude.{None, Result}
use Rattle.std.specs.List.{count_by, slice_split}
use Rattle.std.proofs.lemmas.List.Splits.{length-slice_split}
use Rattle.std.proofs.lemmas.List.Sums.{count_by-le-length}
use Rattle.ax_types.specs.declared.scripts.Script.{Script}
use Rattle.spec_script.specs.Scripts as scripts
use Rattle.script_text.proofs.LineLemmas.{is_too_long-is, newline}
use Rattle.script_text.specs.ReadScripts as read_scripts
use Rattle.script_text.proofs.scripts.read_script.Goals as goal

pub all_lines-requires : goal.all_lines-requires
all_lines-requires c =
    let judged : List ℕ = c.judged.result.now in
    omega (arith, length-slice_split newline judged, count_by-le-length newline judged)

pub returns : goal.returns
returns c =
    let race = c.args.race in
    let bytes : List ℕ = c.args.bytes.now in
    let judged : List ℕ = c.judged.result.now in
    let same : scripts.read_lines race (nat_lt 1048576 (length bytes)) (slice_split newline judged) 1 None ≡ scripts.read_script_of race bytes =
    ap (λ v. scripts.read_lines race v (slice_split newline judged) 1 None) (sym (is_too_long-is bytes))
    ∙ ap (λ (bs : List ℕ). scripts.read_lines race (scripts.is_too_long bytes) (slice_split newline bs) 1 None) c.judged.ensures.judged in
    subst (λ (m : Result Script scripts.Refusal). read_scripts.ReadsAs m c.all_lines.result) same c.all_lines.ensures
