-- The rule of an append packet at a node that does not lead, in its cases.
use Rattle.std.proofs.Common.{◌≡◌, ℕ, ◌+◌, ◌-◌, ◌≤◌, List, [], ◌∷◌, ◌++◌, length, take, refl, ap, sym, subst, arith}
use Rattle.std.specs.Prelude.{Bool, true, false, not, nat_lt, min, Option, Some, None, if◌then◌else◌}
use Rattle.std.proofs.lemmas.List.{take_all}
use Rattle.ax_types.specs.declared.entries.Entry.{Entry}
use Rattle.ax_types.specs.declared.packets.Payload.TheVariants as payload
use Rattle.spec_raft.specs.Log as logs
use Rattle.spec_node.specs.Node as nodes
use Rattle.spec_transitions.specs.Systems as systems
use Rattle.spec_transitions.specs.Transitions as transitions
use Rattle.law_refinement.proofs.Tests.{by_test, not_above, is_above, not_within}
use Rattle.law_refinement.proofs.Members.{stands, node_again}
use Rattle.law_refinement.proofs.Fragments.{Becomes, once, joined, at_end, stays}
use Rattle.law_refinement.proofs.Rules.{stood, stood_plain, Carried, kin, kin_keeps, quiet, after_kin, moves}
use Rattle.law_refinement.proofs.Conflicts.{Matches, matching, match_test, match_within, match_after_append, match_after_cut, free_after_cut, free_after_fill, long_after_fill}

-- an append packet of its term at node j, where its log matches
pub record Meets (s : systems.System) (j : ℕ) (f : nodes.Node) (from prev prev_term commit round : ℕ) (es : List Entry) : Type 0 where
  pub up : systems.IsUp s j f
  pub follows : nodes.is_leader f ≡ false
  pub waits : nodes.is_candidate f ≡ false
  pub sent : systems.WasSent s from j (payload.Append f.ballot.term prev prev_term commit round es)
  pub match : Matches f.log prev prev_term

-- the node with the log cut, and with the rest added
abbrev shortened : nodes.Node → ℕ → List Entry → nodes.Node
shortened f prev es = transitions.with_log f (logs.stays f.log prev es)

abbrev filled : nodes.Node → ℕ → List Entry → nodes.Node
filled f prev es = transitions.with_log f (logs.cut_and_added f.log prev es)

abbrev match_of : (s : systems.System) (j : ℕ) (f : nodes.Node) (from prev prev_term commit round : ℕ) (es log : List Entry)
    → systems.WasSent s from j (payload.Append f.ballot.term prev prev_term commit round es) → Matches log prev prev_term → transitions.Matching s j (transitions.with_log f log)
match_of s j f from prev prev_term commit round es log sent h = record {
  leader = from;
  prev = prev;
  prev_term = prev_term;
  commit = commit;
  round = round;
  entries = es;
  was_sent = sent;
  matches = match_test log prev prev_term h;
}

cuts : (s : systems.System) (j : ℕ) (f : nodes.Node) (from prev prev_term commit round : ℕ) (es : List Entry) → Meets s j f from prev prev_term commit round es
    → (o : Option ℕ) → logs.first_conflict f.log prev es ≡ o → nodes.is_committed f o ≡ false → Becomes s j (transitions.with_log f (logs.cut_before f.log o))
cuts s j f from prev prev_term commit round es m None c free = stays s j f m.up
cuts s j f from prev prev_term commit round es m (Some p) c free =
    once s (transitions.Cut j f p) (m.up, m.follows, m.waits, not_within p f.commit free, (match_of s j f from prev prev_term commit round es f.log m.sent m.match, c))

extends : (s : systems.System) (j : ℕ) (f : nodes.Node) (from prev prev_term commit round : ℕ) (es : List Entry) → Meets s j f from prev prev_term commit round es
    → Becomes s j (shortened f prev es) → (k : ℕ) (more : List Entry) → more ≡ take k (logs.added f.log prev es)
    → Becomes s j (transitions.with_log f (logs.stays f.log prev es ++ more))
extends s j f from prev prev_term commit round es m r k more e =
    let g : nodes.Node = shortened f prev es in
    moves s j g (transitions.with_log f (logs.stays f.log prev es ++ more)) r
    (once (systems.with_node s j g) (transitions.Extend j g more)
    (stands s j f g m.up, m.follows, m.waits, (match_of (systems.with_node s j g) j f from prev prev_term commit round es g.log m.sent (match_after_cut f.log prev prev_term es m.match), k, free_after_cut f.log prev es, e)))

pub takes : (s : systems.System) (j : ℕ) (n f : nodes.Node) (from prev prev_term commit round : ℕ) (es : List Entry) → Meets s j f from prev prev_term commit round es
    → nodes.is_committed f (logs.first_conflict f.log prev es) ≡ false → Carried s j n f (nodes.sent_taken f from prev commit round es)
takes s j n f from prev prev_term commit round es m free =
    let d : nodes.Did = nodes.sent_taken f from prev commit round es in
    let g : nodes.Node = shortened f prev es in
    let h : nodes.Node = filled f prev es in
    let w : nodes.Node = nodes.held_sent f prev commit es in
    let more : List Entry = logs.added f.log prev es in
    let to_g : Becomes s j g = cuts s j f from prev prev_term commit round es m (logs.first_conflict f.log prev es) refl free in
    let to_h : Becomes s j h = extends s j f from prev prev_term commit round es m to_g (length more) more (sym (take_all (length more) more (omega arith))) in
    let after_cut : Matches g.log prev prev_term = match_after_cut f.log prev prev_term es m.match in
    let match_h : Matches h.log prev prev_term = match_after_append g.log more prev prev_term after_cut in
    let within : prev ≤ length g.log = match_within g.log prev prev_term after_cut in
    let none : logs.first_conflict h.log prev es ≡ None = free_after_fill g.log prev es within (free_after_cut f.log prev es) in
    let long : prev + length es ≤ length h.log = long_after_fill g.log prev es within in
    record {
      made =
          at_end s (systems.tallied (systems.with_node s j w) w) (systems.tallied (stood s j w [] []) w) (ap (λ x. systems.tallied x w) (sym (stood_plain s j w)))
          (joined s (systems.with_node s j h) (systems.tallied (systems.with_node s j w) w) to_h
          (at_end (systems.with_node s j h) (systems.tallied (systems.with_node (systems.with_node s j h) j w) w) (systems.tallied (systems.with_node s j w) w) (ap (λ x. systems.tallied x w) (node_again s j h w))
          (once (systems.with_node s j h) (transitions.Learn j h w.commit)
          (stands s j f h m.up, m.follows, m.waits, (match_of (systems.with_node s j h) j f from prev prev_term commit round es h.log m.sent match_h, record { free = none; long = long }, refl)))));
      sends = (
        transitions.Acks j w (stands s j f w m.up) m.follows
            (record { leader = from; prev = prev; prev_term = prev_term; commit = commit; round = round; entries = es; was_sent = m.sent; matches = match_test h.log prev prev_term match_h })
            (record { free = none; long = long }) refl,
        tt,
      );
      voted = kin_keeps s j f f (kin f) (stays s j f m.up);
      added = λ k. record {
        node = transitions.with_log f (g.log ++ take k more);
        becomes = extends s j f from prev prev_term commit round es m to_g k (take k more) refl;
        me = refl;
        size = refl;
        keeps = refl;
      };
    }

-- a node that follows the sender
pub follows : (s : systems.System) (j : ℕ) (n f : nodes.Node) (from prev prev_term commit round : ℕ) (es : List Entry) → systems.IsUp s j f → nodes.is_leader f ≡ false → nodes.is_candidate f ≡ false
    → systems.WasSent s from j (payload.Append f.ballot.term prev prev_term commit round es) → Carried s j n f (nodes.append_followed f from prev prev_term commit round es)
follows s j n f from prev prev_term commit round es up follower waits sent =
    by_test (Carried s j n f) (not (logs.match_at f.log prev prev_term)) (nodes.sending f (nodes.reply_to f from false (min (prev - 1) (length f.log)) round ∷ []))
    (if nodes.is_committed f (logs.first_conflict f.log prev es) then nodes.nothing_done f else nodes.sent_taken f from prev commit round es)
    (λ lacks. quiet s j n f f (nodes.reply_to f from false (min (prev - 1) (length f.log)) round ∷ []) up (kin f) (stays s j f up)
    (transitions.Lacks j from prev prev_term commit round (min (prev - 1) (length f.log)) es f (stands s j f f up) follower sent refl, tt))
    (λ matched. by_test (Carried s j n f) (nodes.is_committed f (logs.first_conflict f.log prev es)) (nodes.nothing_done f) (nodes.sent_taken f from prev commit round es)
    (λ cut. quiet s j n f f [] up (kin f) (stays s j f up) tt)
    (λ free. takes s j n f from prev prev_term commit round es
    (record { up = up; follows = follower; waits = waits; sent = sent; match = matching f.log prev prev_term (is_not (logs.match_at f.log prev prev_term) matched) }) free))
  where
    is_not : (b : Bool) → not b ≡ false → b ≡ true
    is_not true e = refl
    is_not false e = absurd (cc (e))

-- an append packet whose term was seen
pub heeds_append : (s : systems.System) (j : ℕ) (n m : nodes.Node) (from term prev prev_term commit round : ℕ) (es : List Entry) → systems.IsUp s j m → term ≤ m.ballot.term
    → systems.WasSent s from j (payload.Append term prev prev_term commit round es) → Carried s j n m (nodes.append_heeded m from term prev prev_term commit round es)
heeds_append s j n m from term prev prev_term commit round es up most sent =
    let f : nodes.Node = nodes.followed m from in
    by_test (Carried s j n m) (nat_lt term m.ballot.term) (nodes.sending m (nodes.reply_to m from false 0 0 ∷ []))
    (if nodes.is_leader m then nodes.nothing_done m else nodes.append_followed f from prev prev_term commit round es)
    (λ old. quiet s j n m m (nodes.reply_to m from false 0 0 ∷ []) up (kin m) (stays s j m up)
    (transitions.Outdates j from term prev prev_term commit round es m (stands s j m m up) sent (is_above term m.ballot.term old) refl, tt))
    (λ now.
    let same : term ≡ m.ballot.term = omega (arith, most, not_above term m.ballot.term now) in
    let here : systems.WasSent s from j (payload.Append m.ballot.term prev prev_term commit round es) = subst (λ t. systems.WasSent s from j (payload.Append t prev prev_term commit round es)) same sent in
    by_test (Carried s j n m) (nodes.is_leader m) (nodes.nothing_done m) (nodes.append_followed f from prev prev_term commit round es)
    (λ lead. quiet s j n m m [] up (kin m) (stays s j m up) tt)
    (λ follower. after_kin s j n m f (nodes.append_followed f from prev prev_term commit round es) (record { me = refl; size = refl; log = refl })
    (once s (transitions.Follow j m from) (up, follower, (prev, prev_term, commit, round, es, here)))
    (follows (systems.with_node s j f) j n f from prev prev_term commit round es (stands s j m f up) refl refl here)))
