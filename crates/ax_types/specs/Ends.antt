-- How the ends of a link are written.
use Rattle.std.specs.Prelude.{ℕ, List, ◌∷◌}
use Rattle.std.specs.Fmt.{decimal}
use Rattle.ax_types.specs.declared.ids.End.{End}
use Rattle.ax_types.specs.declared.ids.End.TheVariants.{Node, Client}

-- `nK` or `cC`
abbrev pub link_end_text : End → List ℕ
link_end_text (Node k) = 110 ∷ decimal k
link_end_text (Client c) = 99 ∷ decimal c
