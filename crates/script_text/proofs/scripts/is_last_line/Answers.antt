use Rattle.std.proofs.Common.{◌≡◌, ℕ, List, Bool, true, false, refl, sym, not, Bor}
use Rattle.std.specs.Prelude.{Option, Some, None, is_some}
use Rattle.spec_script.specs.Scripts as scripts
use Rattle.script_text.proofs.LineLemmas.{is_empty-split}
use Rattle.script_text.specs.ReadScripts as read_scripts
use Rattle.script_text.proofs.scripts.is_last_line.Goals as goal

last_is : (more : Option (Bor (List ℕ))) (r : Bool) → is_some more ≡ not r → r ≡ scripts.is_empty (read_scripts.lines_in more)
last_is None true h = refl
last_is None false h = cc
last_is (Some bytes) true h = cc
last_is (Some bytes) false h = sym (is_empty-split bytes.now)

pub returns : goal.returns
returns c = last_is c.args.more c.is_none.result c.is_none.ensures
