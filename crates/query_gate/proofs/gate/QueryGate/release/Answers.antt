use Rattle.std.proofs.Common.{◌≡◌, ℕ, ◌+◌, ◌≤◌, ◌++◌, ◌∙◌, refl, sym, ap, arith, not, List, length, filter}
use Rattle.std.proofs.lemmas.List.Filters.{length-filter_both}
use Rattle.ax_types.specs.declared.sessions.Held.{Held}
use Rattle.spec_server.specs.Gates as gates
use Rattle.query_gate.proofs.Waiting.{all-wait}
use Rattle.query_gate.proofs.gate.QueryGate.release.Goals as goal

pub returns-then-count-eq0-clause-after : goal.returns-then-count-eq0-clause-after
returns-then-count-eq0-clause-after g c =
    all-wait (gates.is_ready_for (g.R.Ready.is_ready c.args.state.now)) c.args.self.now (sym c.ready_count-count.ensures.count ∙ c.if-count-eq0.true)

pub held-init : goal.held-init
held-init g c =
    let ready = gates.is_ready_for (g.R.Ready.is_ready c.args.state.now) in
    let all : List Held = c.self.inside.held.items in
    let count : c.ready_count-count.result ≡ length (filter ready all) = c.ready_count-count.ensures.count ∙ ap (λ (hs : List Held). length (filter ready hs)) (sym c.self.view_is) in
    let both : length (filter ready all) + length (filter (λ h. not (ready h)) all) ≡ length all = length-filter_both ready (λ h. not (ready h)) (λ h. refl) all in (
      ap (λ (hs : List Held). hs ++ filter ready all) c.in_ok-through.ensures.items,
      ap (λ (hs : List Held). hs ++ filter (λ h. not (ready h)) all) c.in_ok-waiting.ensures.items,
      omega (arith, c.in_ok-through.ensures.capacity),
      omega (arith, c.in_ok-waiting.ensures.capacity),
    )
