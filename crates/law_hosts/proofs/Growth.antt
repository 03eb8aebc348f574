-- What is committed stays.
use Rattle.std.proofs.Common.{◌≡◌, ℕ, ◌≤◌, List, [], ◌∷◌, ◌++◌, length, take, drop, refl, ap, sym, ◌∙◌, subst, arith}
use Rattle.std.specs.Prelude.{true, Option, Some, None}
use Rattle.ax_types.specs.Places as lists
use Rattle.ax_types.specs.declared.entries.Entry.{Entry}
use Rattle.ax_types.specs.declared.raft.RaftInput.{RaftInput}
use Rattle.ax_types.specs.declared.sessions.ServerInput.{ServerInput}
use Rattle.spec_claims.specs.Once as once
use Rattle.spec_raft.specs.Majority as majorities
use Rattle.spec_transitions.specs.Systems as systems
use Rattle.spec_transitions.specs.Transitions as transitions
use Rattle.spec_past.specs.Matching as matchings
use Rattle.law_past.proofs.Logs.{agree_on, agree_less}
use Rattle.law_past.proofs.Later.{run_committed}
use Rattle.spec_server.specs.Servers as servers
use Rattle.spec_world.specs.Worlds as worlds
use Rattle.law_agreement.specs.Pasts as agreement_pasts
use Rattle.law_agreement.proofs.Slices.{begun}
use Rattle.law_agreement.proofs.Transitions.{HasPast, has_past, transition_stays, transition_past}
use Rattle.law_growth.specs.PlanCases as plan_cases
use Rattle.law_hosts.specs.Ledger as ledgers
use Rattle.law_hosts.specs.Hosts as hosts
use Rattle.law_hosts.proofs.Matched.{system_of, after_input, serves_made, tells}

grows : (n : ℕ) (s : systems.System) (ts : List transitions.Transition) → transitions.AllMay s ts → HasPast n s → matchings.Agree s.cluster.committed (transitions.after_transitions s ts).cluster.committed (length s.cluster.committed)
grows n s [] may h = record { left = omega arith; right = omega arith; same = refl }
grows n s (t ∷ ts) may h =
    let r = transition_stays n s h.past t may.0 h.tied h.sound in
    let d = transitions.after_transition s t in
    let a : matchings.Agree s.cluster.committed d.cluster.committed (length s.cluster.committed) =
    subst (λ g. matchings.Agree g d.cluster.committed (length g)) h.tied.committed (subst (λ g. matchings.Agree h.past.committed g (length h.past.committed)) r.past.committed (run_committed (majorities.cluster_of n) h.past (agreement_pasts.moves_of h.past t) r.fits h.sound)) in
    let b = grows n d ts may.1 (transition_past n s t may.0 h) in
    agree_on s.cluster.committed d.cluster.committed (transitions.after_transitions d ts).cluster.committed (length s.cluster.committed) a (agree_less d.cluster.committed (transitions.after_transitions d ts).cluster.committed (length d.cluster.committed) (length s.cluster.committed) a.right b)

pub past_of : (n : ℕ) (stayed : ℕ → ℕ) (l : ledgers.Ledger) (w : worlds.World) (m : hosts.IsMatched n stayed l w) → HasPast n (system_of n stayed l w m)
past_of n stayed l w m = has_past n m.list m.may

-- a server's step only adds to it
pub input_grows : (n : ℕ) (stayed : ℕ → ℕ) (l : ledgers.Ledger) (w : worlds.World) (k : ℕ) (h : worlds.Host) (i : ServerInput) → hosts.IsMatched n stayed l w
    → lists.at_place w.hosts k ≡ Some h → h.is_up ≡ true → plan_cases.IsInputOf w k h i → once.Begins l.committed (ledgers.with_input l k h.server.raft (servers.task h.server i).input).committed
input_grows n stayed l w k h i m at up known =
    let s : systems.System = system_of n stayed l w m in
    let o : Option RaftInput = (servers.task h.server i).input in
    let f = serves_made n stayed l w k h i m at up known in
    let t = tells n stayed l w k h.server.raft o m in
    let new : List Entry = (ledgers.with_input l k h.server.raft o).committed in
    let end : (transitions.after_transitions s f.list).cluster.committed ≡ new = ap (λ (x : systems.System). x.cluster.committed) f.ends ∙ t.committed in
    let a : matchings.Agree l.committed new (length l.committed) = subst (λ g. matchings.Agree g new (length g)) m.ends.committed (subst (λ g. matchings.Agree s.cluster.committed g (length s.cluster.committed)) end (grows n s f.list f.may (past_of n stayed l w m))) in
    (drop (length l.committed) new, begun l.committed new a)
