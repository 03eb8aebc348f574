-- How the lines of a script are numbered, and how the turns add them.
use Rattle.std.proofs.Common.{◌≡◌, ℕ, suc, ◌+◌, ◌%◌, true, false, nat_eq, List, [], ◌∷◌, ◌++◌, length, arith, append_assoc, length-append, add-one, ap, sym, ◌∙◌, refl}
use Rattle.std.specs.Prelude.{if◌then◌else◌}
use Rattle.ax_types.specs.declared.scripts.Line.{Line}
use Rattle.ax_types.specs.declared.scripts.Line.TheVariants as line
use Rattle.ax_types.specs.Places as lists
use Rattle.spec_gen.specs.Generator as generators
use Rattle.script_gen.specs.GeneratedLines as script_gen_generated_lines

-- with one more
abbrev pub with_line : script_gen_generated_lines.NumberedLines → Line → script_gen_generated_lines.NumberedLines
with_line lines l = lines ++ (length lines + 2, l) ∷ []

-- the first of those is added alone
pub first_of : (lines : script_gen_generated_lines.NumberedLines) (l : Line) (more : List Line) → script_gen_generated_lines.with_lines (with_line lines l) more ≡ script_gen_generated_lines.with_lines lines (l ∷ more)
first_of lines l more =
    let next : length (with_line lines l) + 2 ≡ length lines + 2 + 1 = omega (arith, length-append lines ((length lines + 2, l) ∷ [])) in
    ap (λ n. with_line lines l ++ lists.numbered n more) next
    ∙ append_assoc lines ((length lines + 2, l) ∷ []) (lists.numbered (length lines + 2 + 1) more)

pub length-numbered : (n : ℕ) (ls : List Line) → length (lists.numbered n ls) ≡ length ls
length-numbered n [] = refl
length-numbered n (l ∷ ls) = ap suc (length-numbered (n + 1) ls)

-- what the turns behind it add, where this is a turn and no `settle 1` follows it
pub turn_alone : (lines : script_gen_generated_lines.NumberedLines) (left number x : ℕ) (t : generators.DrawnTurn) → generators.drawn_turn x ≡ t → nat_eq (number % 8) 0 ≡ false
    → script_gen_generated_lines.with_lines lines (generators.turns (left + 1) number x) ≡ script_gen_generated_lines.with_lines (with_line lines t.line) (generators.turns left (number + 1) t.state)
turn_alone lines left number x t e h =
    rw (add-one left)
    (ap (λ v. script_gen_generated_lines.with_lines lines
    (if v then (generators.drawn_turn x).line ∷ line.Settle 1 ∷ generators.turns left (number + 1) (generators.drawn_turn x).state
    else (generators.drawn_turn x).line ∷ generators.turns left (number + 1) (generators.drawn_turn x).state)) h
    ∙ ap (λ (u : generators.DrawnTurn). script_gen_generated_lines.with_lines lines (u.line ∷ generators.turns left (number + 1) u.state)) e
    ∙ sym (first_of lines t.line (generators.turns left (number + 1) t.state)))

-- and where one follows it
pub turn_and_settle : (lines : script_gen_generated_lines.NumberedLines) (left number x : ℕ) (t : generators.DrawnTurn) → generators.drawn_turn x ≡ t → nat_eq (number % 8) 0 ≡ true
    → script_gen_generated_lines.with_lines lines (generators.turns (left + 1) number x)
    ≡ script_gen_generated_lines.with_lines (with_line (with_line lines t.line) (line.Settle 1)) (generators.turns left (number + 1) t.state)
turn_and_settle lines left number x t e h =
    rw (add-one left)
    (ap (λ v. script_gen_generated_lines.with_lines lines
    (if v then (generators.drawn_turn x).line ∷ line.Settle 1 ∷ generators.turns left (number + 1) (generators.drawn_turn x).state
    else (generators.drawn_turn x).line ∷ generators.turns left (number + 1) (generators.drawn_turn x).state)) h
    ∙ ap (λ (u : generators.DrawnTurn). script_gen_generated_lines.with_lines lines (u.line ∷ line.Settle 1 ∷ generators.turns left (number + 1) u.state)) e
    ∙ sym (first_of lines t.line (line.Settle 1 ∷ generators.turns left (number + 1) t.state))
    ∙ sym (first_of (with_line lines t.line) (line.Settle 1) (generators.turns left (number + 1) t.state)))

-- all lines of a script are the first ones and those of the turns
pub all_lines : (lines first : script_gen_generated_lines.NumberedLines) (count seed : ℕ) → first ≡ lists.numbered 2 generators.set_up_lines → count ≡ generators.turn_count
    → lines ≡ script_gen_generated_lines.with_lines first (generators.turns count 1 seed) → lines ≡ lists.numbered 2 (generators.generated_lines seed)
all_lines lines first count seed f n e =
    e ∙ ap (λ (ls : script_gen_generated_lines.NumberedLines). script_gen_generated_lines.with_lines ls (generators.turns count 1 seed)) f ∙ ap (λ m. script_gen_generated_lines.with_lines (lists.numbered 2 generators.set_up_lines) (generators.turns m 1 seed)) n
