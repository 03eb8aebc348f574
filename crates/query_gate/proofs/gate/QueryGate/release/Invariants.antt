use Rattle.std.proofs.Common.{◌≡◌, ◌≤◌, ◌++◌, length, filter, not, vec_capacity}
use Rattle.std.specs.VecDeque.{deque_capacity}
use Rattle.spec_server.specs.Gates as gates
use Rattle.query_gate.proofs.gate.QueryGate.release.Given as goal

abbrev pub decreases-held : goal.decreases-held
decreases-held g l = length l.self-inside.held.items

abbrev pub invariant-held : goal.invariant-held
invariant-held g l =
    let ready = gates.is_ready_for (g.R.Ready.is_ready l.state) in
    let all = l.initial.self-inside.held.items in
    (l.through.items ++ filter ready l.self-inside.held.items ≡ filter ready all)
    × (l.waiting.items ++ filter (λ h. not (ready h)) l.self-inside.held.items ≡ filter (λ h. not (ready h)) all)
    × (length (filter ready all) ≤ vec_capacity l.through)
    × (length (filter (λ h. not (ready h)) all) ≤ deque_capacity l.waiting)
