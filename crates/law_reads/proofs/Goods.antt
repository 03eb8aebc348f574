-- What a change of the past or of the service leaves of the reads.
use Rattle.std.proofs.Common.{◌≡◌, ℕ, suc, ◌≤◌, ◌∷◌, length, refl, ap, sym, ◌∙◌, subst, arith, inl, inr}
use Rattle.std.specs.Prelude.{◌⊎◌, ◌≢◌, true, Some}
use Rattle.ax_types.specs.Places as lists
use Rattle.ax_types.specs.declared.ids.End.{End}
use Rattle.ax_types.specs.declared.ids.End.TheVariants as end
use Rattle.ax_types.specs.declared.packets.Packet.{Packet}
use Rattle.ax_types.specs.declared.packets.Payload.{Payload}
use Rattle.ax_types.specs.declared.packets.Payload.TheVariants as payload
use Rattle.spec_raft.specs.Majority as majorities
use Rattle.spec_node.specs.Node as nodes
use Rattle.spec_cluster.specs.Cluster as clusters
use Rattle.spec_transitions.specs.Systems as systems
use Rattle.spec_past.specs.Matching as matchings
use Rattle.spec_past.specs.Polls as polls
use Rattle.spec_past.specs.Past as pasts
use Rattle.spec_past.specs.Later as laters
use Rattle.law_past.proofs.Polls.{putting, put_same, put_other, one_leader}
use Rattle.law_past.proofs.Commits.{putting2}
use Rattle.law_past.proofs.Later.{quorum_later}
use Rattle.law_agreement.specs.Pasts as agreement_pasts
use Rattle.law_agreement.proofs.Members.{changing}
use Rattle.law_agreement.proofs.Ballots.{up}
use Rattle.law_agreement.proofs.Leaders.{leads}
use Rattle.law_reads.specs.Service as services
use Rattle.law_reads.proofs.Takens.{each_more}

pub good_later : (n : ℕ) (w v : pasts.Past) (x : services.Service) (r : services.Read) → laters.Later w v → services.IsGood n w x r → services.IsGood n v x r
good_later n w v x r l g =
    let led = l.led r.taken.term g.led in
    record {
      higher = λ k a. let b = g.higher k a in let c = l.terms k in omega (arith, b, c);
      apart = g.apart;
      enough = g.enough;
      led = led.0;
      leader = led.1 ∙ g.leader;
      self = g.self;
      later = g.later;
    }

latest_later : (n : ℕ) (w v : pasts.Past) (by : ℕ) → laters.Later w v → v.committed ≡ w.committed → (length w.committed ≡ 0) ⊎ matchings.Quorum (majorities.cluster_of n) w.leader_log w.acked by (length w.committed) → (length v.committed ≡ 0) ⊎ matchings.Quorum (majorities.cluster_of n) v.leader_log v.acked by (length v.committed)
latest_later n w v by l same (inl z) = inl (ap (λ g. length g) same ∙ z)
latest_later n w v by l same (inr q) = inr (subst (λ g. matchings.Quorum (majorities.cluster_of n) v.leader_log v.acked by (length g)) (sym same) (quorum_later (majorities.cluster_of n) w v by (length w.committed) l q))

-- the past goes on
pub serve_past : (n : ℕ) (s : systems.System) (w v : pasts.Past) (x : services.Service) → laters.Later w v → v.committed ≡ w.committed → services.IsServiceOf n s w x → services.IsServiceOf n s v x
serve_past n s w v x l same i = record {
  latest = latest_later n w v x.by l same i.latest;
  members = i.members;
  within = i.within;
  begun = λ t ne. (l.led t (i.begun t ne)).0;
  good = each_more (services.IsGood n w x) (services.IsGood n v x) x.reads (λ r g. good_later n w v x r l g) i.good;
  takens = i.takens;
  packets = i.packets;
  numbered = i.numbered;
  once = i.once;
  givens = i.givens;
}

-- member j becomes m
pub serve_change : (n : ℕ) (s : systems.System) (w v : pasts.Past) (x : services.Service) (j : ℕ) (old m : clusters.Member) → lists.at_place s.cluster.members j ≡ Some old → services.IsServiceOf n s w x → laters.Later w v → v.committed ≡ w.committed
    → services.IsServing x s.cluster.takens (length s.cluster.committed) j m → services.IsServiceOf n (systems.member_changed s j m) v x
serve_change n s w v x j old m at i l same new =
    let a = serve_past n s w v x l same i in
    record {
      latest = a.latest;
      members = changing (services.IsServing x s.cluster.takens (length s.cluster.committed)) s.cluster.members j old m at new (λ k y ne h. i.members k y h);
      within = a.within;
      begun = a.begun;
      good = a.good;
      takens = a.takens;
      packets = a.packets;
      numbered = a.numbered;
      once = a.once;
      givens = a.givens;
    }

-- a packet is sent
pub serve_sent : (n : ℕ) (s : systems.System) (w : pasts.Past) (x : services.Service) (p : Packet) → services.IsServiceOf n s w x → services.HoldsRound x p.«from» p.payload → services.IsServiceOf n (systems.with_sent s p) w x
serve_sent n s w x p i h = record {
  latest = i.latest;
  members = i.members;
  within = i.within;
  begun = i.begun;
  good = i.good;
  takens = i.takens;
  packets = packets;
  numbered = i.numbered;
  once = i.once;
  givens = i.givens;
}
  where
    packets : (q : Packet) → systems.Among q (p ∷ s.sent) → services.HoldsRound x q.«from» q.payload
    packets q (inl e) = subst (λ r. services.HoldsRound x r.«from» r.payload) (sym e) h
    packets q (inr a) = i.packets q a

-- rounds begin and are answered
pub says_more : (x y : services.Service) → ((t : ℕ) → x.rounds t ≤ y.rounds t) → ((t k : ℕ) → x.answered t k ≤ y.answered t k) → (j : ℕ) (p : Payload) → services.SaysRound x j p → services.SaysRound y j p
says_more x y r a j (payload.Append t prev prev_term commit round es) h = let b = r t in omega (arith, b, h)
says_more x y r a j (payload.AppendReply t ok place round) h = let b = a t j in omega (arith, b, h)
says_more x y r a j p h = tt

pub holds_more : (x y : services.Service) → ((t : ℕ) → x.rounds t ≤ y.rounds t) → ((t k : ℕ) → x.answered t k ≤ y.answered t k) → (e : End) (p : Payload) → services.HoldsRound x e p → services.HoldsRound y e p
holds_more x y r a (end.Node j) p h = says_more x y r a j p h
holds_more x y r a (end.Client c) p h = tt

-- a node answers a round of its own term
pub serve_answer : (n : ℕ) (s : systems.System) (w : pasts.Past) (x : services.Service) (j t r : ℕ) → t ≡ pasts.term w j → r ≤ x.rounds t → x.answered t j ≤ r → services.IsServiceOf n s w x → services.IsServiceOf n s w (record x { answered = polls.put2 x.answered t j r })
serve_answer n s w x j t r own le rise i = record {
  latest = i.latest;
  members = λ k m h.
      let a = i.members k m h in
      record {
        server = λ two.
            let o = a.server two in
            record {
              round = o.round;
              first = o.first;
              own = o.own;
              acked = each_more (λ p. p.acked ≤ x.answered m.node.ballot.term p.node) (λ p. p.acked ≤ polls.put2 x.answered t j r m.node.ballot.term p.node) m.node.leading.peers (λ p h. let b = grows m.node.ballot.term p.node in omega (arith, b, h)) o.acked;
              waiting = o.waiting;
              arrived = o.arrived;
              below = o.below;
            };
        idle = a.idle;
        mine = a.mine;
      };
  within = putting2 (λ u k m. m ≤ x.rounds u) x.answered t j r le (λ u k o. i.within u k);
  begun = i.begun;
  good = each_more (services.IsGood n w x) (services.IsGood n w (record x { answered = polls.put2 x.answered t j r })) x.reads (λ q g. record {
    higher = g.higher;
    apart = λ k. putting2 (λ u m y. u ≡ q.taken.term → q.taken.round ≤ y → q.above m ≡ true → ⊥) x.answered t j r
        (λ e h a. let b = g.higher j a in omega (arith, b, e, own))
        (λ u m o e h a. g.apart m (subst (λ z. q.taken.round ≤ x.answered z m) e h) a) q.taken.term k refl;
    enough = g.enough;
    led = g.led;
    leader = g.leader;
    self = g.self;
    later = g.later;
  }) i.good;
  takens = i.takens;
  packets = λ p a. holds_more x (record x { answered = polls.put2 x.answered t j r }) (λ u. omega arith) grows p.«from» p.payload (i.packets p a);
  numbered = i.numbered;
  once = i.once;
  givens = i.givens;
}
  where
    grows : (u k : ℕ) → x.answered u k ≤ polls.put2 x.answered t j r u k
    grows = putting2 (λ u k m. x.answered u k ≤ m) x.answered t j r rise (λ u k o. omega arith)

-- a leader begins a round
pub serve_tick : (n : ℕ) (s : systems.System) (w : pasts.Past) (x : services.Service) (j : ℕ) (y : nodes.Node) → agreement_pasts.IsPastOf n s w → pasts.Sound (majorities.cluster_of n) w → systems.IsUp s j y → nodes.is_leader y ≡ true → services.IsServiceOf n s w x
    → services.IsServiceOf n (systems.with_node s j (nodes.ticked y)) w (record x { rounds = polls.put x.rounds y.ballot.term (suc (x.rounds y.ballot.term)) })
serve_tick n s w x j y p sound at is i = record {
  latest = i.latest;
  members = changing (services.IsServing (record x { rounds = polls.put x.rounds t (suc (x.rounds t)) }) s.cluster.takens (length s.cluster.committed)) s.cluster.members j (up y) (up (nodes.ticked y)) at
      (record {
        server = λ two.
            let o = (i.members j (up y) at).server two in
            record { round = ap suc o.round ∙ sym (put_same x.rounds t (suc (x.rounds t))); first = o.first; own = o.own; acked = o.acked; waiting = o.waiting; arrived = o.arrived; below = o.below };
        idle = λ ne. absurd (ne (leads y is));
        mine = (i.members j (up y) at).mine;
      })
      (λ k m ne h.
      let a = i.members k m h in
      record {
        server = λ two.
            let o = a.server two in
            let l = p.members k m h in
            let away : m.node.ballot.term ≢ t = λ e. ne (one_leader (majorities.cluster_of n) w.poll k j sound.fair (l.role ∙ two) (mine.role ∙ leads y is) (l.term ∙ e ∙ sym mine.term)) in
            record { round = o.round ∙ sym (put_other x.rounds t (suc (x.rounds t)) m.node.ballot.term away); first = o.first; own = o.own; acked = o.acked; waiting = o.waiting; arrived = o.arrived; below = o.below };
        idle = a.idle;
        mine = a.mine;
      });
  within = λ u k. let a = i.within u k in let b = grows u in omega (arith, a, b);
  begun = putting (λ u r. r ≢ 0 → w.poll.led u ≡ true) x.rounds t (suc (x.rounds t)) (λ ne. ap w.poll.led (sym mine.term) ∙ (sound.fair.rules j (mine.role ∙ leads y is)).0) (λ u ne. i.begun u);
  good = each_more (services.IsGood n w x) (services.IsGood n w (record x { rounds = polls.put x.rounds t (suc (x.rounds t)) })) x.reads (λ r g. record { higher = g.higher; apart = g.apart; enough = g.enough; led = g.led; leader = g.leader; self = g.self; later = g.later }) i.good;
  takens = i.takens;
  packets = λ q a. holds_more x (record x { rounds = polls.put x.rounds t (suc (x.rounds t)) }) grows (λ u k. omega arith) q.«from» q.payload (i.packets q a);
  numbered = i.numbered;
  once = i.once;
  givens = i.givens;
}
  where
    t : ℕ
    t = y.ballot.term

    mine : Rattle.law_agreement.specs.Pasts.IsLike n j (w.poll.member j) (w.log j) (w.commit j) (up y)
    mine = p.members j (up y) at

    grows : (u : ℕ) → x.rounds u ≤ polls.put x.rounds y.ballot.term (suc (x.rounds y.ballot.term)) u
    grows = putting (λ u r. x.rounds u ≤ r) x.rounds y.ballot.term (suc (x.rounds y.ballot.term)) (omega arith) (λ u ne. omega arith)

-- what is committed stays as it is
pub serve_tally : (n : ℕ) (s : systems.System) (w : pasts.Past) (x : services.Service) (y : nodes.Node) → clusters.entries_so_far s.cluster.committed y ≡ s.cluster.committed → services.IsServiceOf n s w x → services.IsServiceOf n (systems.tallied s y) w x
serve_tally n s w x y same i = record {
  latest = i.latest;
  members = λ k m h. subst (λ g. services.IsServing x s.cluster.takens (length g) k m) (sym same) (i.members k m h);
  within = i.within;
  begun = i.begun;
  good = i.good;
  takens = i.takens;
  packets = i.packets;
  numbered = i.numbered;
  once = i.once;
  givens = i.givens;
}
