-- What a read from memory moves.
use Rattle.std.proofs.Common.{◌≡◌, ℕ, ◌+◌, ◌-◌, min, List, ◌++◌, length, take, drop, Some, sym, ap, ◌∙◌, arith}
use Rattle.std.proofs.lemmas.Grind.{common_steps}
use Rattle.std.proofs.lemmas.List.{take-append-drop, drop_at, nil_from_length}
use Rattle.ax_io.specs.Content as content

-- a front of what is left, put into the first places of a buffer
pub Moves-front : (bytes buffer moved now : List ℕ) (next n : ℕ) → n ≡ min (length bytes - next) (length buffer) → moved ≡ take n (drop next bytes) → now ≡ drop (next + n) bytes → content.Moves (Some (drop next bytes)) (Some now) n buffer (moved ++ drop n buffer)
Moves-front bytes buffer moved now next n count front rest =
    let len : length moved ≡ n = grind (arith, common_steps)
    in record {
      within = omega arith;
      moved = ap Some (sym (take-append-drop n (drop next bytes)) ∙ grind (arith, common_steps));
      beyond = drop_at moved (drop n buffer) n len;
      ends = λ none places. nil_from_length (drop next bytes) (grind (arith, common_steps));
    }
