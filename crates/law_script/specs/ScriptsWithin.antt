-- The cluster of a script that was read is within its limits.
use Rattle.std.specs.Prelude.{ℕ, ◌≡◌, ◌≤◌, Bool, List, Ok}
use Rattle.ax_types.specs.declared.limits.TheConstants.{MAX_NODES, MAX_CLIENTS, MAX_TIMEOUT}
use Rattle.ax_types.specs.declared.scripts.Script.{Script}
use Rattle.spec_script.specs.Scripts as scripts

-- there are nodes, and no more of them, no more clients and no longer a timeout than a cluster may have
pub record IsScriptWithin (s : Script) : Type 0 where
  pub some : 1 ≤ s.nodes
  pub nodes : s.nodes ≤ MAX_NODES
  pub clients : s.clients ≤ MAX_CLIENTS
  pub low : 1 ≤ s.timeout
  pub high : s.timeout ≤ MAX_TIMEOUT

abbrev pub ScriptsAreWithin : Type 0
ScriptsAreWithin = (race : Bool) (bytes : List ℕ) (s : Script) → scripts.read_script_of race bytes ≡ Ok s → IsScriptWithin s
