-- Each transition leaves the reads served as they should be.
use Rattle.std.proofs.Common.{◌≡◌, ℕ, zero, suc, ◌+◌, ◌≤◌, List, [], ◌∷◌, ◌++◌, length, map, refl, ap, sym, ◌∙◌, subst, arith, inl, inr, length-append}
use Rattle.std.specs.Prelude.{◌≢◌, Bool, true, false, nat_le, max, Some, if◌then◌else◌}
use Rattle.ax_types.specs.Places as lists
use Rattle.ax_types.specs.declared.entries.Entry.{Entry}
use Rattle.ax_types.specs.declared.ids.End.TheVariants as end
use Rattle.ax_types.specs.declared.packets.Packet.{Packet}
use Rattle.ax_types.specs.declared.packets.Payload.TheVariants as payload
use Rattle.spec_raft.specs.Majority as majorities
use Rattle.spec_raft.specs.Progress as progress
use Rattle.spec_node.specs.Node as nodes
use Rattle.spec_cluster.specs.Cluster as clusters
use Rattle.spec_transitions.specs.Systems as systems
use Rattle.spec_transitions.specs.Transitions as transitions
use Rattle.spec_past.specs.Polls as polls
use Rattle.spec_past.specs.Past as pasts
use Rattle.spec_past.specs.PastMoves as past_moves
use Rattle.spec_past.specs.Later as laters
use Rattle.law_past.proofs.Logs.{agree_term}
use Rattle.law_past.proofs.Growth.{longer_by, last_of_longer}
use Rattle.law_past.proofs.Polls.{same_or, first_to_lead}
use Rattle.law_past.proofs.Later.{run_later, later_self}
use Rattle.law_agreement.specs.Pasts as agreement_pasts
use Rattle.law_agreement.proofs.Tests.{at_most, above}
use Rattle.law_agreement.proofs.Ballots.{Stays, up}
use Rattle.law_agreement.proofs.Leaders.{leads, running, each_change, by_rise, by_fall}
use Rattle.law_reads.specs.Service as services
use Rattle.law_reads.proofs.Takens.{of_none}
use Rattle.law_reads.proofs.Goods.{serve_past, serve_change, serve_sent, serve_answer}

-- a node that does not lead, and for which nothing waits
pub not_serving : (x : services.Service) (takens : List clusters.ReadTaken) (c j : ℕ) (m : clusters.Member) → agreement_pasts.role_number m.node.role ≢ 2 → m.node.leading.reads ≡ [] → services.IsServing x takens c j m
not_serving x takens c j m ne none = record { server = λ two. absurd (ne two); idle = λ n. none; mine = λ two. absurd (ne two) }

follower : agreement_pasts.role_number nodes.Follower ≢ 2
follower e = omega (arith, e)

candidate : agreement_pasts.role_number nodes.Candidate ≢ 2
candidate e = omega (arith, e)

-- a node that does not lead
pub leads_not : (x : nodes.Node) → nodes.is_leader x ≡ false → agreement_pasts.role_number x.role ≢ 2
leads_not x e = go x.role e
  where
    off : {A : Type 0} → true ≡ false → A
    off e = absurd (grind (arith, e))

    go : (r : nodes.Role) → nodes.is_leading r ≡ false → agreement_pasts.role_number r ≢ 2
    go nodes.Follower e z = follower z
    go nodes.Candidate e z = candidate z
    go nodes.Leader e z = off e

-- a transition with the past after it
pub record Step (n : ℕ) (s : systems.System) (w v : pasts.Past) (t : systems.System) : Type 0 where
  pub later : laters.Later w v
  pub same : v.committed ≡ w.committed

pub step_of : (n : ℕ) (s t : systems.System) (w : pasts.Past) (ms : List past_moves.PastMove) → agreement_pasts.IsPastOf n s w → pasts.Sound (majorities.cluster_of n) w → Stays n t w ms → t.cluster.committed ≡ s.cluster.committed → Step n s w (past_moves.after_moves w ms) t
step_of n s t w ms i sound r same = record { later = run_later (majorities.cluster_of n) w ms r.fits sound; same = r.past.committed ∙ same ∙ sym i.committed }

vote_server : (x : services.Service) (takens : List clusters.ReadTaken) (j : ℕ) (y : nodes.Node) (c : ℕ) → services.IsServer x takens j y → services.IsServer x takens j (transitions.with_vote y c)
vote_server x takens j y c o = record { round = o.round; first = o.first; own = o.own; acked = o.acked; waiting = o.waiting; arrived = o.arrived; below = o.below }

pub vote_serving : (x : services.Service) (takens : List clusters.ReadTaken) (c j : ℕ) (y : nodes.Node) (k : ℕ) → services.IsServing x takens c j (up y) → services.IsServing x takens c j (up (transitions.with_vote y k))
vote_serving x takens c j y k a = record { server = λ two. vote_server x takens j y k (a.server two); idle = a.idle; mine = a.mine }

pub count_serving : (x : services.Service) (takens : List clusters.ReadTaken) (c j : ℕ) (y : nodes.Node) (v : ℕ) (is_known : Bool) → services.IsServing x takens c j (up y) → services.IsServing x takens c j (up (record y { ballot = if is_known then y.ballot else record y.ballot { votes = y.ballot.votes ++ v ∷ [] } }))
count_serving x takens c j y v true a = record {
  server = λ two. let o = a.server two in record { round = o.round; first = o.first; own = o.own; acked = o.acked; waiting = o.waiting; arrived = o.arrived; below = o.below };
  idle = a.idle;
  mine = a.mine;
}
count_serving x takens c j y v false a = record {
  server = λ two. let o = a.server two in record { round = o.round; first = o.first; own = o.own; acked = o.acked; waiting = o.waiting; arrived = o.arrived; below = o.below };
  idle = a.idle;
  mine = a.mine;
}

fresh_acked : (f : ℕ → ℕ) (first : ℕ) (ks : List ℕ) → agreement_pasts.Each (λ (p : progress.Peer). p.acked ≤ f p.node) (map (λ k. record { node = k; next = first; matched = 0; acked = 0 }) ks)
fresh_acked f first [] = tt
fresh_acked f first (k ∷ ks) = (omega arith, fresh_acked f first ks)

-- no read of a term that nobody has led
unled : (n : ℕ) (w : pasts.Past) (x : services.Service) (t : ℕ) (rs : List services.Read) → (w.poll.led t ≡ true → ⊥) → agreement_pasts.Each (services.IsGood n w x) rs → agreement_pasts.Each (λ (y : clusters.ReadTaken). y.term ≢ t) (map (λ r. r.taken) rs)
unled n w x t [] first e = tt
unled n w x t (r ∷ rs) first e = (λ z. first (ap w.poll.led (sym z) ∙ e.0.led), unled n w x t rs first e.1)

each_at : {X : Type 0} (P : X → Type 0) (xs : List X) (p : ℕ) (y : X) → agreement_pasts.Each P xs → lists.at_place xs p ≡ Some y → P y
each_at P xs zero y e h = absurd (Rattle.law_agreement.proofs.Members.none_some y h)
each_at P [] (suc p) y e h = absurd (Rattle.law_agreement.proofs.Members.none_some y h)
each_at P (x ∷ xs) (suc zero) y e h = subst P (Rattle.law_agreement.proofs.Members.some_same x y h) e.0
each_at P (x ∷ xs) (suc (suc p)) y e h = each_at P xs (suc p) y e.1 h

pub serve_lead : (n : ℕ) (s : systems.System) (w : pasts.Past) (x : services.Service) (j : ℕ) (y : nodes.Node) (e : Entry) (is_made : Bool) → agreement_pasts.IsPastOf n s w → pasts.Sound (majorities.cluster_of n) w → systems.IsUp s j y → nodes.is_candidate y ≡ true → e.term ≡ y.ballot.term
    → Stays n (transitions.after_transition s (transitions.Lead j y e is_made)) w (past_moves.Lead j e ∷ []) → services.IsServiceOf n s w x → services.IsServiceOf n (transitions.after_transition s (transitions.Lead j y e is_made)) (past_moves.moves w (past_moves.Lead j e)) x
serve_lead n s w x j y e is_made p sound at runs own r i =
    let l = p.members j (up y) at in
    let st = step_of n s (transitions.after_transition s (transitions.Lead j y e is_made)) w (past_moves.Lead j e ∷ []) p sound r refl in
    let first : w.poll.led y.ballot.term ≡ true → ⊥ = λ z. first_to_lead (majorities.cluster_of n) w.poll j (l.role ∙ running y runs) r.fits.0.2 sound.fair (ap w.poll.led l.term ∙ z) in
    let none : agreement_pasts.Each (λ (t : clusters.ReadTaken). t.term ≢ y.ballot.term) s.cluster.takens = subst (agreement_pasts.Each (λ (t : clusters.ReadTaken). t.term ≢ y.ballot.term)) i.takens (unled n w x y.ballot.term x.reads first i.good) in
    let zero_rounds : 0 ≡ x.rounds y.ballot.term = elim (same_or (x.rounds y.ballot.term) 0) [ inl z ↦ sym z | inr ne ↦ absurd (first (i.begun y.ballot.term ne)) ] in
    let len : length (y.log ++ e ∷ []) ≡ suc (length y.log) = Rattle.law_past.proofs.Growth.length_longer y.log e in
    let a = serve_change n s w (past_moves.moves w (past_moves.Lead j e)) x j (up y) (up (transitions.leading y e)) at i st.later st.same
    (record {
      server = λ two. record {
        round = zero_rounds;
        first = omega (arith, len);
        own = last_of_longer y.log e ∙ own;
        acked = fresh_acked (x.answered y.ballot.term) (suc (length y.log)) (majorities.others y.ballot.nodes y.ballot.me);
        waiting = tt;
        arrived = ap (λ g. length g) (of_none y.ballot.term s.cluster.takens none);
        below = λ k t h same. absurd (each_at (λ (t : clusters.ReadTaken). t.term ≢ y.ballot.term) s.cluster.takens k t none h same);
      };
      idle = λ ne. absurd (ne refl);
      mine = λ two same. elim i.latest [
        | inl z ↦ let b = ap (λ g. length g) p.committed in omega (arith, b, z)
        | inr q ↦ absurd (first (ap w.poll.led (sym same) ∙ sound.only x.by (let b = q.place in let c = q.within in omega (arith, b, c))))
      ];
    }) in
    record { latest = a.latest; members = a.members; within = a.within; begun = a.begun; good = a.good; takens = a.takens; packets = a.packets; numbered = a.numbered; once = a.once; givens = a.givens }

pub serve_take : (n : ℕ) (s : systems.System) (w v : pasts.Past) (x : services.Service) (j : ℕ) (y : nodes.Node) (es : List Entry) → systems.IsUp s j y → laters.Later w v → v.committed ≡ w.committed → services.IsServiceOf n s w x → services.IsServiceOf n (systems.with_node s j (transitions.with_log y (y.log ++ es))) v x
serve_take n s w v x j y es at later same i =
    let a = i.members j (up y) at in
    serve_change n s w v x j (up y) (up (transitions.with_log y (y.log ++ es))) at i later same (record {
      server = λ two.
          let o = a.server two in
          record {
            round = o.round;
            first = let b = length-append y.log es in let c = o.first in omega (arith, b, c);
            own = sym (agree_term y.log (y.log ++ es) (length y.log) y.leading.first o.first (longer_by y.log es)) ∙ o.own;
            acked = o.acked;
            waiting = o.waiting;
            arrived = o.arrived;
            below = o.below;
          };
      idle = a.idle;
      mine = a.mine;
    })

-- what a leader knows of rounds after an answer
heard : (f : ℕ → ℕ) (k round : ℕ) (p : progress.Peer) → p.node ≡ k → round ≤ f k → p.acked ≤ f p.node → max p.acked round ≤ f p.node
heard f k round p e le h = let a = ap f e in omega (arith, a, le, h)

pub serve_heed : (n : ℕ) (s : systems.System) (w : pasts.Past) (x : services.Service) (j : ℕ) (y : nodes.Node) (peers : List progress.Peer) → systems.IsUp s j y → nodes.is_leader y ≡ true → transitions.Heeds s j y peers → services.IsServiceOf n s w x → services.IsServiceOf n (systems.with_node s j (nodes.with_peers y peers)) w x
serve_heed n s w x j y peers at is (transitions.Accepts k place round sent same) i =
    let a = i.members j (up y) at in
    let says : round ≤ x.answered y.ballot.term k = i.packets (record { «from» = end.Node k; to = end.Node j; payload = payload.AppendReply y.ballot.term true place round }) sent in
    let f = progress.accepting place round (length y.log) in
    subst (λ ps. services.IsServiceOf n (systems.with_node s j (nodes.with_peers y ps)) w x) (sym same)
    (serve_change n s w w x j (up y) (up (nodes.with_peers y (progress.accepted y.leading.peers k place round (length y.log)))) at i (later_self w) refl (record {
      server = λ two.
          let o = a.server two in
          record {
            round = o.round;
            first = o.first;
            own = o.own;
            acked = each_change (λ p. p.acked ≤ x.answered y.ballot.term p.node) f k y.leading.peers
                (λ p e h. by_rise (λ q. q.acked ≤ x.answered y.ballot.term q.node) place round (length y.log) p (λ z. heard (x.answered y.ballot.term) k round p e says h) (heard (x.answered y.ballot.term) k round p e says h)) o.acked;
            waiting = o.waiting;
            arrived = o.arrived;
            below = o.below;
          };
      idle = a.idle;
      mine = a.mine;
    }))
serve_heed n s w x j y peers at is (transitions.Refuses k place round sent same) i =
    let a = i.members j (up y) at in
    let says : round ≤ x.answered y.ballot.term k = i.packets (record { «from» = end.Node k; to = end.Node j; payload = payload.AppendReply y.ballot.term false place round }) sent in
    let f = progress.refusing place round in
    subst (λ ps. services.IsServiceOf n (systems.with_node s j (nodes.with_peers y ps)) w x) (sym same)
    (serve_change n s w w x j (up y) (up (nodes.with_peers y (progress.refused y.leading.peers k place round))) at i (later_self w) refl (record {
      server = λ two.
          let o = a.server two in
          record {
            round = o.round;
            first = o.first;
            own = o.own;
            acked = each_change (λ p. p.acked ≤ x.answered y.ballot.term p.node) f k y.leading.peers
                (λ p e h. by_fall (λ q. q.acked ≤ x.answered y.ballot.term q.node) place round p (λ z. heard (x.answered y.ballot.term) k round p e says h) (heard (x.answered y.ballot.term) k round p e says h)) o.acked;
            waiting = o.waiting;
            arrived = o.arrived;
            below = o.below;
          };
      idle = a.idle;
      mine = a.mine;
    }))

pub record Served (n : ℕ) (s : systems.System) (w : pasts.Past) : Type 0 where
  pub service : services.Service
  pub holds : services.IsServiceOf n s w service

-- an answer to a round is sent
answer_sent : (n : ℕ) (s : systems.System) (w v : pasts.Past) (x : services.Service) (p : Packet) (j k t r place : ℕ) (ok : Bool) (me : ℕ) → me ≡ j → t ≡ pasts.term v j → r ≤ x.rounds t → laters.Later w v → v.committed ≡ w.committed → services.IsServiceOf n s w x
    → p ≡ record { «from» = end.Node me; to = end.Node k; payload = payload.AppendReply t ok place r } → Served n (systems.with_sent s p) v
answer_sent n s w v x p j k t r place ok me who own le later same i is = go (nat_le (x.answered t j) r) refl
  where
    i_v : services.IsServiceOf n s v x
    i_v = serve_past n s w v x later same i

    go : (b : Bool) → nat_le (x.answered t j) r ≡ b → Served n (systems.with_sent s p) v
    go true e =
        let rise = at_most (x.answered t j) r e in
        let y : services.Service = record x { answered = polls.put2 x.answered t j r } in
        let h : services.HoldsRound y (end.Node me) (payload.AppendReply t ok place r) = subst (λ a. r ≤ polls.put2 x.answered t j r t a) (sym who) (let b = Rattle.law_past.proofs.Polls.put2_same x.answered t j r in omega (arith, b)) in
        record { service = record x { answered = polls.put2 x.answered t j r }; holds = serve_sent n s v (record x { answered = polls.put2 x.answered t j r }) p (serve_answer n s v x j t r own le rise i_v) (subst (λ q. services.HoldsRound (record x { answered = polls.put2 x.answered t j r }) q.«from» q.payload) (sym is) h) }
    go false e =
        let lt = above (x.answered t j) r e in
        let h : services.HoldsRound x (end.Node me) (payload.AppendReply t ok place r) = subst (λ a. r ≤ x.answered t a) (sym who) (omega (arith, lt)) in
        record { service = x; holds = serve_sent n s v x p i_v (subst (λ q. services.HoldsRound x q.«from» q.payload) (sym is) h) }

pub serve_send : (n : ℕ) (s : systems.System) (w v : pasts.Past) (x : services.Service) (p : Packet) → agreement_pasts.IsPastOf n s w → ((k : ℕ) → pasts.term v k ≡ pasts.term w k) → laters.Later w v → v.committed ≡ w.committed → transitions.Sends s p → services.IsServiceOf n s w x → Served n (systems.with_sent s p) v
serve_send n s w v x p tied terms later same (transitions.Asks j k y at runs away is) i =
    record { service = x; holds = serve_sent n s v x p (serve_past n s w v x later same i) (subst (λ q. services.HoldsRound x q.«from» q.payload) (sym is) tt) }
serve_send n s w v x p tied terms later same (transitions.Votes j k last last_term y is_given at h is) i =
    record { service = x; holds = serve_sent n s v x p (serve_past n s w v x later same i) (subst (λ q. services.HoldsRound x q.«from» q.payload) (sym is) tt) }
serve_send n s w v x p tied terms later same (transitions.Appends j k y at leader away is) i =
    let o = (i.members j (up y) at).server (leads y leader) in
    let le : y.leading.round ≤ x.rounds y.ballot.term = let a = o.round in omega (arith, a) in
    record { service = x; holds = serve_sent n s v x p (serve_past n s w v x later same i) (subst (λ q. services.HoldsRound x q.«from» q.payload) (sym is) le) }
serve_send n s w v x p tied terms later same (transitions.Outdates j k t prev prev_term commit round es y at sent lt is) i =
    record { service = x; holds = serve_sent n s v x p (serve_past n s w v x later same i) (subst (λ q. services.HoldsRound x q.«from» q.payload) (sym is) (omega arith)) }
serve_send n s w v x p tied terms later same (transitions.Lacks j k prev prev_term commit round place es y at idle sent is) i =
    let l = tied.members j (up y) at in
    let le : round ≤ x.rounds y.ballot.term = i.packets (record { «from» = end.Node k; to = end.Node j; payload = payload.Append y.ballot.term prev prev_term commit round es }) sent in
    answer_sent n s w v x p j k y.ballot.term round place false y.ballot.me l.me (sym l.term ∙ sym (terms j)) le later same i is
serve_send n s w v x p tied terms later same (transitions.Acks j y at idle m h is) i =
    let l = tied.members j (up y) at in
    let le : m.round ≤ x.rounds y.ballot.term = i.packets (record { «from» = end.Node m.leader; to = end.Node j; payload = payload.Append y.ballot.term m.prev m.prev_term m.commit m.round m.entries }) m.was_sent in
    answer_sent n s w v x p j m.leader y.ballot.term m.round (m.prev + length m.entries) true y.ballot.me l.me (sym l.term ∙ sym (terms j)) le later same i is
