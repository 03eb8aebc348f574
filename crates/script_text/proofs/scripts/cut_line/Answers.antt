use Rattle.std.proofs.Common.{◌≡◌, ℕ, ◌+◌, ◌-◌, ◌∷◌, List, arith, length, take, drop, sym, ◌∙◌, ap}
use Rattle.std.specs.List.{slice_split}
use Rattle.std.proofs.lemmas.List.{length-drop, take_all}
use Rattle.script_text.proofs.LineLemmas.{newline, split_at_newline, split_without_newline}
use Rattle.script_text.proofs.scripts.cut_line.Goals as goal

pub returns-in-Some : goal.returns-in-Some
returns-in-Some c =
    let bytes : List ℕ = c.args.bytes.now in
    let at : ℕ = c.in-Some.at in
    let behind : List ℕ = drop (at + 1) bytes in
    let all : take (length bytes - (at + 1)) behind ≡ behind = take_all (length bytes - (at + 1)) behind (simp length-drop (omega arith)) in
    split_at_newline bytes at (sym c.in-Some.ensures) ∙ ap (λ x. take at bytes ∷ slice_split newline x) (sym all)

pub returns-in-None : goal.returns-in-None
returns-in-None c = split_without_newline c.args.bytes.now (sym c.in-None.ensures)
