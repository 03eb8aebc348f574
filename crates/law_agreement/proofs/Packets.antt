-- A packet that is sent says what is so, and leaves the past of the system its past.
use Rattle.std.proofs.Common.{◌≡◌, ℕ, suc, ◌+◌, ◌-◌, ◌≤◌, List, [], ◌∷◌, length, drop, refl, ap, sym, ◌∙◌, subst, arith, inl, inr}
use Rattle.std.specs.Prelude.{◌≢◌, Bool, true, false, find, nat_eq, nat_le, Some, if◌then◌else◌, cond}
use Rattle.ax_types.specs.declared.entries.Entry.{Entry}
use Rattle.ax_types.specs.declared.ids.End.TheVariants as end
use Rattle.ax_types.specs.declared.packets.Packet.{Packet}
use Rattle.ax_types.specs.declared.packets.Payload.TheVariants as payload
use Rattle.spec_raft.specs.Majority as majorities
use Rattle.spec_raft.specs.Log as logs
use Rattle.spec_raft.specs.Progress as acks
use Rattle.spec_node.specs.Node as nodes
use Rattle.spec_cluster.specs.Bag as bags
use Rattle.spec_transitions.specs.Systems as systems
use Rattle.spec_transitions.specs.Transitions as transitions
use Rattle.spec_past.specs.Past as pasts
use Rattle.spec_past.specs.PastMoves as past_moves
use Rattle.spec_past.specs.Later as laters
use Rattle.law_past.proofs.Polls.{put_same, put2_same}
use Rattle.law_past.proofs.Later.{move_later}
use Rattle.law_agreement.specs.Pasts as agreement_pasts
use Rattle.law_agreement.proofs.Tests.{at_most, above}
use Rattle.law_agreement.proofs.Slices.{take_drop}
use Rattle.law_agreement.proofs.Changes.{leading_later, holds_later, committed_later}
use Rattle.law_agreement.proofs.Ballots.{Stays, up}
use Rattle.law_agreement.proofs.Leaders.{leads, running}
use Rattle.law_agreement.proofs.Followers.{holding}

-- one packet more, that says what is so
sent_one : (n : ℕ) (s : systems.System) (v : pasts.Past) (p : Packet) → agreement_pasts.IsPastOf n s v → agreement_pasts.Holds v p.«from» p.to p.payload → agreement_pasts.IsPastOf n (systems.with_sent s p) v
sent_one n s v p i h = record {
  long = i.long;
  members = i.members;
  bare = i.bare;
  leaders = i.leaders;
  packets = packets;
  committed = i.committed;
  counted = i.counted;
  terms = i.terms;
  leds = i.leds;
  once = i.once;
}
  where
    packets : (q : Packet) → systems.Among q (p ∷ s.sent) → agreement_pasts.Holds v q.«from» q.to q.payload
    packets q (inl e) = subst (λ r. agreement_pasts.Holds v r.«from» r.to r.payload) (sym e) h
    packets q (inr a) = i.packets q a

-- a packet's number is given, or another is marked
pub mark_stays : (n : ℕ) (s : systems.System) (w : pasts.Past) (number : ℕ) → agreement_pasts.IsPastOf n s w → agreement_pasts.IsPastOf n (record s { cluster = record s.cluster { bag = bags.with_mark s.cluster.bag number } }) w
mark_stays n s w number i = record { long = i.long; members = i.members; bare = i.bare; leaders = i.leaders; packets = i.packets; committed = i.committed; counted = i.counted; terms = i.terms; leds = i.leds; once = i.once }

-- more is told or acknowledged
remembers_more : (n : ℕ) (s : systems.System) (w v : pasts.Past) → laters.Later w v → v.poll ≡ w.poll → v.log ≡ w.log → v.commit ≡ w.commit → v.committed ≡ w.committed → agreement_pasts.IsPastOf n s w → agreement_pasts.IsPastOf n s v
remembers_more n s w v l ep el ec ed i = record {
  long = i.long;
  members = λ k m h.
      let a = i.members k m h in
      record {
        me = a.me;
        size = a.size;
        term = ap (λ p. (p.member k).term) ep ∙ a.term;
        vote = ap (λ p. (p.member k).vote) ep ∙ a.vote;
        role = ap (λ p. (p.member k).role) ep ∙ a.role;
        votes = λ one u. ap (λ p. (p.member k).votes u) ep ∙ a.votes one u;
        log = ap (λ f. f k) el ∙ a.log;
        commit = ap (λ f. f k) ec ∙ a.commit;
      };
  bare = λ k none. ap (λ f. f k) el ∙ i.bare k none;
  leaders = λ k m h two. leading_later n k w v m.node l (i.leaders k m h two);
  packets = λ p a. holds_later w v p.«from» p.to p.payload l (i.packets p a);
  committed = ed ∙ i.committed;
  counted = i.counted;
  terms = λ p t h. committed_later n w v t p l ed (i.terms p t h);
  leds = λ k x h. let a = i.leds k x h in let b = l.led x.term a.0 in (b.0, b.1 ∙ a.1);
  once = i.once;
}

ask_holds : (n : ℕ) (s : systems.System) (w : pasts.Past) (j k : ℕ) (x : nodes.Node) → agreement_pasts.IsPastOf n s w → pasts.Sound (majorities.cluster_of n) w → systems.IsUp s j x → nodes.is_candidate x ≡ true → k ≢ x.ballot.me
    → agreement_pasts.Says w j k (payload.Vote x.ballot.term (length x.log) (logs.last_term x.log))
ask_holds n s w j k x i sound at runs away =
    let l = i.members j (up x) at in
    let one : pasts.role w j ≡ 1 = l.role ∙ running x runs in
    let own = sound.fair.own j (λ z. absurd (omega (arith, one, z))) in
    let log : w.candidate_log x.ballot.term j ≡ x.log = ap (λ t. w.candidate_log t j) (sym l.term) ∙ sound.waits j one ∙ l.log in
    record {
      apart = λ z. away (z ∙ sym l.me);
      some = own.1;
      runs = ap (λ t. w.poll.cast t j) (sym l.term) ∙ sound.fair.kept j (λ z. own.1 (sym own.0 ∙ z)) ∙ own.0;
      last = ap (λ g. length g) (sym log);
      last_term = ap logs.last_term (sym log);
    }

vote_holds : (n : ℕ) (s : systems.System) (w : pasts.Past) (j k last last_term : ℕ) (x : nodes.Node) (is_given : Bool) → agreement_pasts.IsPastOf n s w → pasts.Sound (majorities.cluster_of n) w → systems.IsUp s j x
    → (is_given ≡ true → (x.ballot.vote ≡ Some k) × systems.WasSent s k j (payload.Vote x.ballot.term last last_term)) → agreement_pasts.Says w j k (payload.VoteReply x.ballot.term is_given)
vote_holds n s w j k last last_term x false i sound at h = tt
vote_holds n s w j k last last_term x true i sound at h =
    let l = i.members j (up x) at in
    let g = h refl in
    let asked : agreement_pasts.IsAsked w k j x.ballot.term last last_term = i.packets (record { «from» = end.Node k; to = end.Node j; payload = payload.Vote x.ballot.term last last_term }) g.1 in
    let vote : (w.poll.member j).vote ≡ k = l.vote ∙ ap agreement_pasts.vote_number g.0 in
    (asked.some, ap (λ t. w.poll.cast t j) (sym l.term) ∙ sound.fair.kept j (λ z. asked.some (sym vote ∙ z)) ∙ vote)

find_bound : (b k : ℕ) (ps : List acks.Peer) → agreement_pasts.Each (λ p. p.next ≤ b) ps → acks.next_place_of ps k ≤ b
find_bound b k [] h = omega arith
find_bound b k (p ∷ ps) h = go (nat_eq p.node k) (find_bound b k ps h.1)
  where
    go : (is : Bool) → acks.next_place_of ps k ≤ b → acks.next_in (cond is (Some p) (find (λ q. nat_eq q.node k) ps)) ≤ b
    go true r = h.0
    go false r = r

append_slice : (g h : List Entry) (prev : ℕ) → h ≡ g → prev ≤ length g → agreement_pasts.Slice h prev (logs.run_from g (suc prev))
append_slice g h prev e le =
    let one : suc prev - 1 ≡ prev = omega arith in
    let d = drop (suc prev - 1) g in
    record {
      within = let a = ap (λ l. length l) e in omega (arith, a, le);
      rest = drop logs.most_entries d;
      same = ap (drop prev) e ∙ ap (λ k. drop k g) (sym one) ∙ sym (take_drop logs.most_entries d);
    }

pub append_stays : (n : ℕ) (s : systems.System) (w : pasts.Past) (j k : ℕ) (x : nodes.Node) → agreement_pasts.IsPastOf n s w → pasts.Sound (majorities.cluster_of n) w → systems.IsUp s j x → nodes.is_leader x ≡ true → (me : ℕ) → me ≡ j
    → Stays n (systems.with_sent s (record { «from» = end.Node me; to = end.Node k; payload = (nodes.sent_to x k).payload })) w (agreement_pasts.send_moves w (end.Node me) (nodes.sent_to x k).payload)
append_stays n s w j k x i sound at is me same = subst (λ y. Stays n (systems.with_sent s (record { «from» = end.Node y; to = end.Node k; payload = (nodes.sent_to x k).payload })) w (agreement_pasts.send_moves w (end.Node y) (nodes.sent_to x k).payload)) (sym same) (go (nat_le (w.told (pasts.term w j)) (w.commit j)) refl)
  where
    l : agreement_pasts.IsLike n j (w.poll.member j) (w.log j) (w.commit j) (up x)
    l = i.members j (up x) at

    two : pasts.role w j ≡ 2
    two = l.role ∙ leads x is

    prev : ℕ
    prev = acks.next_place_of x.leading.peers k - 1

    own : w.leader_log x.ballot.term ≡ x.log
    own = ap w.leader_log (sym l.term) ∙ sound.holds j two ∙ l.log

    within : acks.next_place_of x.leading.peers k - 1 ≤ length x.log
    within = let a = find_bound (suc (length x.log)) k x.leading.peers (i.leaders j (up x) at (leads x is)).next in omega (arith, a)

    says : (v : pasts.Past) → v.poll ≡ w.poll → v.leader_log ≡ w.leader_log → x.commit ≤ v.told x.ballot.term → agreement_pasts.Says v j k (nodes.sent_to x k).payload
    says v ep el le =
        let r = sound.fair.rules j two in
        record {
          led = ap (λ p. p.led x.ballot.term) ep ∙ ap w.poll.led (sym l.term) ∙ r.0;
          leader = ap (λ p. p.leader x.ballot.term) ep ∙ ap w.poll.leader (sym l.term) ∙ r.1;
          slice = append_slice x.log (v.leader_log x.ballot.term) (acks.next_place_of x.leading.peers k - 1) (ap (λ f. f x.ballot.term) el ∙ own) within;
          before = ap (λ g. logs.term_at g (acks.next_place_of x.leading.peers k - 1)) (sym (ap (λ f. f x.ballot.term) el ∙ own));
          told = le;
        }

    go : (b : Bool) → nat_le (w.told (pasts.term w j)) (w.commit j) ≡ b → Stays n (systems.with_sent s (record { «from» = end.Node j; to = end.Node k; payload = (nodes.sent_to x k).payload })) w (if b then past_moves.Tell j ∷ [] else [])
    go true e =
        let le = at_most (w.told (pasts.term w j)) (w.commit j) e in
        let v = past_moves.moves w (past_moves.Tell j) in
        let later = move_later (majorities.cluster_of n) w (past_moves.Tell j) (two, le) sound in
        let told : x.commit ≤ v.told x.ballot.term = let a = ap v.told (sym l.term) ∙ put_same w.told (pasts.term w j) (w.commit j) in omega (arith, a, l.commit) in
        record {
          fits = ((two, le), tt);
          past = sent_one n s v (record { «from» = end.Node j; to = end.Node k; payload = (nodes.sent_to x k).payload }) (remembers_more n s w v later refl refl refl refl i) (says v refl refl told);
        }
    go false e =
        let lt = above (w.told (pasts.term w j)) (w.commit j) e in
        let told : x.commit ≤ w.told x.ballot.term = let a = ap w.told (sym l.term) in omega (arith, a, l.commit, lt) in
        record { fits = tt; past = sent_one n s w (record { «from» = end.Node j; to = end.Node k; payload = (nodes.sent_to x k).payload }) i (says w refl refl told) }

pub ack_stays : (n : ℕ) (s : systems.System) (w : pasts.Past) (j : ℕ) (x : nodes.Node) → agreement_pasts.IsPastOf n s w → pasts.Sound (majorities.cluster_of n) w → systems.IsUp s j x → (m : transitions.Matching s j x) → transitions.Holding s j x m → (me : ℕ) → me ≡ j
    → Stays n (systems.with_sent s (record { «from» = end.Node me; to = end.Node m.leader; payload = payload.AppendReply x.ballot.term true (m.prev + length m.entries) m.round })) w (agreement_pasts.send_moves w (end.Node me) (payload.AppendReply x.ballot.term true (m.prev + length m.entries) m.round))
ack_stays n s w j x i sound at m h me same = subst (λ y. Stays n (systems.with_sent s (record { «from» = end.Node y; to = end.Node m.leader; payload = payload.AppendReply x.ballot.term true (m.prev + length m.entries) m.round })) w (agreement_pasts.send_moves w (end.Node y) (payload.AppendReply x.ballot.term true (m.prev + length m.entries) m.round))) (sym same) (go (nat_le (w.acked (pasts.term w j) j) (m.prev + length m.entries)) refl)
  where
    l : agreement_pasts.IsLike n j (w.poll.member j) (w.log j) (w.commit j) (up x)
    l = i.members j (up x) at

    go : (b : Bool) → nat_le (w.acked (pasts.term w j) j) (m.prev + length m.entries) ≡ b → Stays n (systems.with_sent s (record { «from» = end.Node j; to = end.Node m.leader; payload = payload.AppendReply x.ballot.term true (m.prev + length m.entries) m.round })) w (if b then past_moves.Ack j (m.prev + length m.entries) ∷ [] else [])
    go true e =
        let p = m.prev + length m.entries in
        let le = at_most (w.acked (pasts.term w j) j) p e in
        let agree = holding n s w j x i sound at m h in
        let v = past_moves.moves w (past_moves.Ack j p) in
        let later = move_later (majorities.cluster_of n) w (past_moves.Ack j p) (le, agree) sound in
        let acked : p ≤ v.acked x.ballot.term j = let a = ap (λ t. v.acked t j) (sym l.term) ∙ put2_same w.acked (pasts.term w j) j p in omega (arith, a) in
        record {
          fits = ((le, agree), tt);
          past = sent_one n s v (record { «from» = end.Node j; to = end.Node m.leader; payload = payload.AppendReply x.ballot.term true p m.round }) (remembers_more n s w v later refl refl refl refl i) acked;
        }
    go false e =
        let p = m.prev + length m.entries in
        let lt = above (w.acked (pasts.term w j) j) p e in
        let acked : p ≤ w.acked x.ballot.term j = let a = ap (λ t. w.acked t j) (sym l.term) in omega (arith, a, lt) in
        record { fits = tt; past = sent_one n s w (record { «from» = end.Node j; to = end.Node m.leader; payload = payload.AppendReply x.ballot.term true p m.round }) i acked }

pub send_stays : (n : ℕ) (s : systems.System) (w : pasts.Past) (p : Packet) → agreement_pasts.IsPastOf n s w → pasts.Sound (majorities.cluster_of n) w → transitions.Sends s p → Stays n (systems.with_sent s p) w (agreement_pasts.send_moves w p.«from» p.payload)
send_stays n s w p i sound (transitions.Asks j k x at runs away same) =
    let q = nodes.to_node x k (payload.Vote x.ballot.term (length x.log) (logs.last_term x.log)) in
    let me = (i.members j (up x) at).me in
    subst (λ r. Stays n (systems.with_sent s r) w (agreement_pasts.send_moves w r.«from» r.payload)) (sym same) (record {
      fits = tt;
      past = sent_one n s w q i (subst (λ a. agreement_pasts.Says w a k (payload.Vote x.ballot.term (length x.log) (logs.last_term x.log))) (sym me) (ask_holds n s w j k x i sound at runs away));
    })
send_stays n s w p i sound (transitions.Votes j k last last_term x is_given at h same) =
    let q = nodes.to_node x k (payload.VoteReply x.ballot.term is_given) in
    let me = (i.members j (up x) at).me in
    subst (λ r. Stays n (systems.with_sent s r) w (agreement_pasts.send_moves w r.«from» r.payload)) (sym same) (record {
      fits = tt;
      past = sent_one n s w q i (subst (λ a. agreement_pasts.Says w a k (payload.VoteReply x.ballot.term is_given)) (sym me) (vote_holds n s w j k last last_term x is_given i sound at h));
    })
send_stays n s w p i sound (transitions.Appends j k x at is away same) =
    subst (λ r. Stays n (systems.with_sent s r) w (agreement_pasts.send_moves w r.«from» r.payload)) (sym same) (append_stays n s w j k x i sound at is x.ballot.me (i.members j (up x) at).me)
send_stays n s w p i sound (transitions.Outdates j k t prev prev_term commit round es x at sent lt same) =
    subst (λ r. Stays n (systems.with_sent s r) w (agreement_pasts.send_moves w r.«from» r.payload)) (sym same) (record { fits = tt; past = sent_one n s w (nodes.reply_to x k false 0 0) i tt })
send_stays n s w p i sound (transitions.Lacks j k prev prev_term commit round place es x at idle sent same) =
    subst (λ r. Stays n (systems.with_sent s r) w (agreement_pasts.send_moves w r.«from» r.payload)) (sym same) (record { fits = tt; past = sent_one n s w (nodes.reply_to x k false place round) i tt })
send_stays n s w p i sound (transitions.Acks j x at idle m h same) =
    subst (λ r. Stays n (systems.with_sent s r) w (agreement_pasts.send_moves w r.«from» r.payload)) (sym same) (ack_stays n s w j x i sound at m h x.ballot.me (i.members j (up x) at).me)
