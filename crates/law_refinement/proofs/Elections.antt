-- The rules of an election: a candidacy, and a majority of votes.
use Rattle.std.proofs.Common.{◌≡◌, ℕ, zero, suc, ◌≤◌, List, [], ◌∷◌, ◌++◌, take, refl, ap, sym, arith}
use Rattle.std.specs.Prelude.{◌≢◌, true, false, not, nat_eq, max, map, filter}
use Rattle.std.specs.List.{AllByRecursion}
use Rattle.std.proofs.lemmas.Bool.Decides.{nat_tests}
use Rattle.std.proofs.lemmas.List.{append-nil}
use Rattle.std.proofs.Math.Seq.{take-nil}
use Rattle.ax_types.specs.declared.entries.Body.TheVariants as body
use Rattle.ax_types.specs.declared.entries.Entry.{Entry}
use Rattle.spec_raft.specs.Majority as majorities
use Rattle.spec_raft.specs.Log as logs
use Rattle.spec_raft.specs.Ballot as ballots
use Rattle.spec_node.specs.Node as nodes
use Rattle.spec_cluster.specs.Cluster as clusters
use Rattle.spec_transitions.specs.Systems as systems
use Rattle.spec_transitions.specs.Transitions as transitions
use Rattle.law_refinement.proofs.Tests.{by_test}
use Rattle.law_refinement.proofs.Members.{stands, change_twice}
use Rattle.law_refinement.proofs.Fragments.{Fragment, Becomes, once, joined, at_end, stays}
use Rattle.law_refinement.proofs.Rules.{settled, CanKeep, kept_with, Carried, IsKin, kin, kin_keeps, keeps_more, quiet, after_kin}

-- the first entry of a leader
abbrev pub blank : nodes.Node → ℕ → Entry
blank c clock = record { term = c.ballot.term; time = nodes.time_for c clock; body = body.Blank }

pub not_older : (clock last : ℕ) → last ≤ max clock last
not_older clock last = omega arith

-- a candidate with a majority leads
won : (s : systems.System) (j : ℕ) (n c : nodes.Node) (clock : ℕ) → systems.IsUp s j c → nodes.is_candidate c ≡ true → ballots.is_elected c.ballot ≡ true → Fragment s (settled s j n (nodes.led c clock))
won s j n c clock up runs most =
    let e : Entry = blank c clock in
    let l : nodes.Node = transitions.leading c e in
    let a : nodes.Node = nodes.advanced l in
    let x : systems.System = transitions.after_transition s (transitions.Lead j c e true) in
    joined s x (settled s j n (nodes.led c clock))
    (once s (transitions.Lead j c e true) (up, runs, most, refl, not_older clock (logs.last_time c.log), refl))
    (at_end x (systems.tallied (systems.with_node x j a) a) (settled s j n (nodes.led c clock))
    (λ i. systems.tallied (record s {
      cluster = record s.cluster {
        members = change_twice s.cluster.members j (record { is_up = true; node = l }) (record { is_up = true; node = a }) i;
        leds = s.cluster.leds ++ clusters.led_by j a true;
        takens = sym (append-nil s.cluster.takens) i;
      };
    }) a)
    (once x (transitions.Advance j l) (stands s j c l up, refl)))

won_added : (s : systems.System) (j : ℕ) (n c : nodes.Node) (clock : ℕ) → systems.IsUp s j c → nodes.is_candidate c ≡ true → ballots.is_elected c.ballot ≡ true
    → (k : ℕ) → CanKeep s j c (kept_with (nodes.led c clock) (c.log ++ take k (blank c clock ∷ [])))
won_added s j n c clock up runs most zero =
    keeps_more s j c (nodes.led c clock) c.log (c.log ++ []) (sym (append-nil c.log)) (kin_keeps s j c c (kin c) (stays s j c up))
won_added s j n c clock up runs most (suc k) =
    let e : Entry = blank c clock in
    keeps_more s j c (nodes.led c clock) (c.log ++ e ∷ []) (c.log ++ take (suc k) (e ∷ [])) (ap (λ es. c.log ++ e ∷ es) (sym (take-nil k)))
    (record {
      node = transitions.leading c e;
      becomes = once s (transitions.Lead j c e false) (up, runs, most, refl, not_older clock (logs.last_time c.log), refl);
      me = refl;
      size = refl;
      keeps = refl;
    })

pub leads : (s : systems.System) (j : ℕ) (n c : nodes.Node) (clock : ℕ) → systems.IsUp s j c → nodes.is_candidate c ≡ true → ballots.is_elected c.ballot ≡ true → Carried s j n c (nodes.led c clock)
leads s j n c clock up runs most = record {
  made = won s j n c clock up runs most;
  sends = tt;
  voted = kin_keeps s j c c (kin c) (stays s j c up);
  added = won_added s j n c clock up runs most;
}

-- to each other node
differ : (k me : ℕ) → not (nat_eq k me) ≡ true → k ≢ me
differ k me h = grind (arith, nat_tests, h)

pub to_others : {A : Type 0} (P : A → Type 0) (f : ℕ → A) (me : ℕ) → ((k : ℕ) → k ≢ me → P (f k)) → (ks : List ℕ) → AllByRecursion P (map f (filter (λ k. not (nat_eq k me)) ks))
to_others P f me h [] = tt
to_others P f me h (k ∷ ks) =
    by_test (λ xs. AllByRecursion P (map f xs)) (not (nat_eq k me)) (k ∷ filter (λ i. not (nat_eq i me)) ks) (filter (λ i. not (nat_eq i me)) ks)
    (λ t. (h k (differ k me t), to_others P f me h ks)) (λ t. to_others P f me h ks)

pub elects : (s : systems.System) (j : ℕ) (n : nodes.Node) (clock : ℕ) → systems.IsUp s j n → Carried s j n n (nodes.candidacy n clock)
elects s j n clock up =
    let c : nodes.Node = nodes.candidate n in
    let k : IsKin n c = record { me = refl; size = refl; log = refl } in
    let r : Becomes s j c = once s (transitions.Campaign j n) up in
    by_test (λ d. Carried s j n n d) (ballots.is_elected c.ballot) (nodes.led c clock) (nodes.sending c (nodes.vote_requests c))
    (λ most. after_kin s j n n c (nodes.led c clock) k r (leads (systems.with_node s j c) j n c clock (stands s j n c up) refl most))
    (λ none. quiet s j n n c (nodes.vote_requests c) up k r
    (to_others (transitions.Sends (settled s j n (nodes.sending c (nodes.vote_requests c)))) _ n.ballot.me (λ i ne. transitions.Asks j i c (stands s j n c up) refl ne refl) (majorities.cluster_of n.ballot.nodes)))
