use Rattle.std.proofs.Common.{◌≡◌, map, take}
use Rattle.ax_types.specs.declared.entries.Body.TheVariants as body
use Rattle.server_node.proofs.rules.expiries.Given as goal

abbrev pub invariant-sessions : goal.invariant-sessions
invariant-sessions l = l.bodies ≡ map body.Expire (take l.session-index l.sessions)
