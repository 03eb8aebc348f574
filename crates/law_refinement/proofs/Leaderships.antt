-- The rules of a leader: a beat, bodies, a read.
use Rattle.std.proofs.Common.{◌≡◌, ℕ, zero, suc, List, [], ◌∷◌, ◌++◌, take, refl, ap, sym}
use Rattle.std.specs.Prelude.{true, map, Some}
use Rattle.std.proofs.lemmas.List.{append-nil}
use Rattle.ax_types.specs.declared.entries.Body.{Body}
use Rattle.spec_raft.specs.Majority as majorities
use Rattle.spec_raft.specs.Log as logs
use Rattle.spec_raft.specs.Progress as progress
use Rattle.spec_node.specs.Node as nodes
use Rattle.spec_transitions.specs.Systems as systems
use Rattle.spec_transitions.specs.Transitions as transitions
use Rattle.law_refinement.proofs.Tests.{by_test}
use Rattle.law_refinement.proofs.Members.{stands}
use Rattle.law_refinement.proofs.Fragments.{once, joined, at_end, stays}
use Rattle.law_refinement.proofs.Rules.{settled, CanKeep, kept_with, Carried, kin, kin_keeps, keeps_more, none_added, quiet, advances}
use Rattle.law_refinement.proofs.Elections.{not_older, to_others}

pub beats : (s : systems.System) (j : ℕ) (n : nodes.Node) → systems.IsUp s j n → nodes.is_leader n ≡ true → Carried s j n n (nodes.beaten n)
beats s j n up lead =
    let t : nodes.Node = nodes.ticked n in
    quiet s j n n t (map (nodes.sent_to t) (nodes.each_other t)) up (record { me = refl; size = refl; log = refl }) (once s (transitions.Tick j n) (up, lead))
    (to_others (transitions.Sends (settled s j n (nodes.beaten n))) (nodes.sent_to t) n.ballot.me (λ k ne. transitions.Appends j k t (stands s j n t up) lead ne refl) (majorities.cluster_of n.ballot.nodes))

-- entries of the first bodies
entries_taken : (term time k : ℕ) (bodies : List Body) → nodes.entries_of term time (take k bodies) ≡ take k (nodes.entries_of term time bodies)
entries_taken term time zero bodies = refl
entries_taken term time (suc k) [] = refl
entries_taken term time (suc k) (b ∷ bodies) = ap (λ es. record { term = term; time = time; body = b } ∷ es) (entries_taken term time k bodies)

pub appends : (s : systems.System) (j : ℕ) (n : nodes.Node) (clock : ℕ) (bodies : List Body) → systems.IsUp s j n → nodes.is_leader n ≡ true → Carried s j n n (nodes.appended n clock bodies)
appends s j n clock bodies up lead =
    let time : ℕ = nodes.time_for n clock in
    let a : nodes.Node = transitions.with_log n (n.log ++ nodes.entries_of n.ballot.term time bodies) in
    record {
      made = advances s j n a up lead (once s (transitions.Take j n time bodies) (up, lead, not_older clock (logs.last_time n.log)));
      sends = tt;
      voted = kin_keeps s j n n (kin n) (stays s j n up);
      added = λ k. keeps_more s j n (nodes.appended n clock bodies) (n.log ++ nodes.entries_of n.ballot.term time (take k bodies)) (n.log ++ take k (nodes.entries_of n.ballot.term time bodies))
          (ap (λ es. n.log ++ es) (entries_taken n.ballot.term time k bodies))
          (record {
            node = transitions.with_log n (n.log ++ nodes.entries_of n.ballot.term time (take k bodies));
            becomes = once s (transitions.Take j n time (take k bodies)) (up, lead, not_older clock (logs.last_time n.log));
            me = refl;
            size = refl;
            keeps = refl;
          });
    }

-- a read that is taken
arrives : (s : systems.System) (j : ℕ) (n : nodes.Node) → systems.IsUp s j n → nodes.is_leader n ≡ true → progress.has_read_room n.leading.reads ≡ true
    → Carried s j n n (record (nodes.nothing_done (nodes.read_taken n)) { reached = Some (suc n.leading.arrivals) })
arrives s j n up lead room =
    let d : nodes.Did = record (nodes.nothing_done (nodes.read_taken n)) { reached = Some (suc n.leading.arrivals) } in
    let a : nodes.Node = nodes.read_taken n in
    let x : systems.System = transitions.after_transition s (transitions.Arrive j n) in
    let keeps : CanKeep s j n (kept_with d n.log) = kin_keeps s j n n (kin n) (stays s j n up) in
    record {
      made = joined s x (settled s j n d) (once s (transitions.Arrive j n) (up, lead, room))
          (at_end x (systems.tallied x a) (settled s j n d)
          (ap (λ ls. let t : systems.System = systems.tallied (record x { cluster = record x.cluster { leds = ls } }) a in t) (sym (append-nil s.cluster.leds)))
          (once x (transitions.Tally j a) (stands s j n a up)));
      sends = tt;
      voted = keeps;
      added = λ k. keeps_more s j n d n.log (n.log ++ take k []) (sym (none_added n.log k)) keeps;
    }

pub reads : (s : systems.System) (j : ℕ) (n : nodes.Node) → systems.IsUp s j n → nodes.is_leader n ≡ true → Carried s j n n (nodes.read_arrived n)
reads s j n up lead =
    by_test (λ d. Carried s j n n d) (progress.has_read_room n.leading.reads) (record (nodes.nothing_done (nodes.read_taken n)) { reached = Some (suc n.leading.arrivals) }) (nodes.nothing_done n)
    (λ room. arrives s j n up lead room)
    (λ full. quiet s j n n n [] up (kin n) (stays s j n up) tt)
