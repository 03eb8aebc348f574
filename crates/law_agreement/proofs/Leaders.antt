-- What a leader does leaves the past of the system its past.
use Rattle.std.proofs.Common.{◌≡◌, ℕ, zero, suc, ◌+◌, ◌-◌, ◌≤◌, List, [], ◌∷◌, ◌++◌, length, map, refl, ap, sym, ◌∙◌, subst, arith, inl, inr, append_assoc, length-append}
use Rattle.std.specs.Prelude.{◌⊎◌, Bool, true, false, nat_eq, nat_lt, nat_le, Some, if◌then◌else◌}
use Rattle.std.proofs.lemmas.List.{append-nil}
use Rattle.ax_types.specs.Places as lists
use Rattle.ax_types.specs.declared.entries.Body.{Body}
use Rattle.ax_types.specs.declared.entries.Entry.{Entry}
use Rattle.ax_types.specs.declared.ids.End.TheVariants as end
use Rattle.ax_types.specs.declared.packets.Payload.TheVariants as payload
use Rattle.spec_raft.specs.Majority as majorities
use Rattle.spec_raft.specs.Log as logs
use Rattle.spec_raft.specs.Ballot as votes
use Rattle.spec_raft.specs.Progress as acks
use Rattle.spec_raft.proofs.Counting.{count-wider, length-cluster_of}
use Rattle.spec_node.specs.Node as nodes
use Rattle.spec_node.specs.NodeStep as steps
use Rattle.spec_cluster.specs.Cluster as clusters
use Rattle.spec_transitions.specs.Systems as systems
use Rattle.spec_transitions.specs.Transitions as transitions
use Rattle.spec_past.specs.Matching as matchings
use Rattle.spec_past.specs.Polls as polls
use Rattle.spec_past.specs.Past as pasts
use Rattle.spec_past.specs.PastMoves as past_moves
use Rattle.spec_past.specs.Later as laters
use Rattle.law_past.proofs.Polls.{put_same, put_other, put2_same, first_to_lead}
use Rattle.law_past.proofs.Growth.{length_longer, time_of_longer}
use Rattle.law_past.proofs.Later.{move_later, later_self, run_later}
use Rattle.law_agreement.specs.Pasts as agreement_pasts
use Rattle.law_agreement.proofs.Tests.{equal, below, at_most, both, off}
use Rattle.law_agreement.proofs.Members.{some_same, none_some}
use Rattle.law_agreement.proofs.Changes.{Changes, nothing_changes, leading_later, member_changes}
use Rattle.law_agreement.proofs.Ballots.{Stays, up}

pub leads : (x : nodes.Node) → nodes.is_leader x ≡ true → agreement_pasts.role_number x.role ≡ 2
leads x h = go x.role h
  where
    go : (r : nodes.Role) → nodes.is_leading r ≡ true → agreement_pasts.role_number r ≡ 2
    go nodes.Follower h = absurd (off h)
    go nodes.Candidate h = absurd (off h)
    go nodes.Leader h = refl

pub running : (x : nodes.Node) → nodes.is_candidate x ≡ true → agreement_pasts.role_number x.role ≡ 1
running x h = go x.role h
  where
    go : (r : nodes.Role) → nodes.is_running r ≡ true → agreement_pasts.role_number r ≡ 1
    go nodes.Follower h = absurd (off h)
    go nodes.Candidate h = refl
    go nodes.Leader h = absurd (off h)

-- a majority by the test is one by the count
pub most_of : (f g : ℕ → Bool) (n : ℕ) → ((u : ℕ) → g u ≡ true → f u ≡ true) → majorities.is_most (majorities.count g (majorities.cluster_of n)) n ≡ true → matchings.IsMost f (majorities.cluster_of n)
most_of f g n wider h =
    let a = below n (majorities.count g (majorities.cluster_of n) + majorities.count g (majorities.cluster_of n)) h in
    let b = count-wider g f (majorities.cluster_of n) wider in
    let c = length-cluster_of n in
    omega (arith, a, b, c)

-- the last of a list that got one more
pub last_place : {X : Type 0} (xs : List X) (x y : X) (i : ℕ) → lists.at_place (xs ++ x ∷ []) i ≡ Some y → (lists.at_place xs i ≡ Some y) ⊎ ((i ≡ suc (length xs)) × (x ≡ y))
last_place xs x y zero h = absurd (none_some y h)
last_place [] x y (suc zero) h = inr (refl, some_same x y h)
last_place [] x y (suc (suc i)) h = absurd (none_some y h)
last_place (z ∷ xs) x y (suc zero) h = inl h
last_place (z ∷ xs) x y (suc (suc i)) h = elim (last_place xs x y (suc i) h) [ inl a ↦ inl a | inr a ↦ inr (omega (arith, a.0), a.1) ]

pub led_leds : (n : ℕ) (s : systems.System) (w v : pasts.Past) (j : ℕ) (e : Entry) (is_made : Bool) → agreement_pasts.IsPastOf n s w → laters.Later w v → (w.poll.led e.term ≡ true → ⊥) → v.poll.led e.term ≡ true → v.poll.leader e.term ≡ j
    → ((i : ℕ) (x : clusters.Led) → lists.at_place (transitions.with_led s.cluster.leds j e is_made) i ≡ Some x → (v.poll.led x.term ≡ true) × (v.poll.leader x.term ≡ x.node))
    × ((i k : ℕ) (x y : clusters.Led) → lists.at_place (transitions.with_led s.cluster.leds j e is_made) i ≡ Some x → lists.at_place (transitions.with_led s.cluster.leds j e is_made) k ≡ Some y → x.term ≡ y.term → i ≡ k)
led_leds n s w v j e false i l first led leader = (λ k x h. let a = i.leds k x h in let b = l.led x.term a.0 in (b.0, b.1 ∙ a.1), i.once)
led_leds n s w v j e true i l first led leader = (all, once)
  where
    new : clusters.Led
    new = record { term = e.term; node = j }

    all : (k : ℕ) (x : clusters.Led) → lists.at_place (s.cluster.leds ++ record { term = e.term; node = j } ∷ []) k ≡ Some x → (v.poll.led x.term ≡ true) × (v.poll.leader x.term ≡ x.node)
    all k x h = elim (last_place s.cluster.leds (record { term = e.term; node = j }) x k h) [
      | inl a ↦ let b = i.leds k x a in let c = l.led x.term b.0 in (c.0, c.1 ∙ b.1)
      | inr a ↦ subst (λ (y : clusters.Led). (v.poll.led y.term ≡ true) × (v.poll.leader y.term ≡ y.node)) a.1 (led, leader)
    ]

    once : (k m : ℕ) (x y : clusters.Led) → lists.at_place (s.cluster.leds ++ record { term = e.term; node = j } ∷ []) k ≡ Some x → lists.at_place (s.cluster.leds ++ record { term = e.term; node = j } ∷ []) m ≡ Some y → x.term ≡ y.term → k ≡ m
    once k m x y h g same = elim (last_place s.cluster.leds (record { term = e.term; node = j }) x k h) [
      | inl a ↦ elim (last_place s.cluster.leds (record { term = e.term; node = j }) y m g) [
        | inl b ↦ i.once k m x y a b same
        | inr b ↦ absurd (first (ap w.poll.led (ap (λ (z : clusters.Led). z.term) b.1 ∙ sym same) ∙ (i.leds k x a).0))
      ]
      | inr a ↦ elim (last_place s.cluster.leds (record { term = e.term; node = j }) y m g) [
        | inl b ↦ absurd (first (ap w.poll.led (ap (λ (z : clusters.Led). z.term) a.1 ∙ same) ∙ (i.leds m y b).0))
        | inr b ↦ a.0 ∙ sym b.0
      ]
    ]

fresh_nodes : (first : ℕ) (ks : List ℕ) → map (λ (p : acks.Peer). p.node) (map (λ k. record { node = k; next = first; matched = 0; acked = 0 }) ks) ≡ ks
fresh_nodes first [] = refl
fresh_nodes first (k ∷ ks) = ap (λ l. k ∷ l) (fresh_nodes first ks)

fresh_matched : (f : ℕ → ℕ) (first : ℕ) (ks : List ℕ) → agreement_pasts.Each (λ (p : acks.Peer). p.matched ≤ f p.node) (map (λ k. record { node = k; next = first; matched = 0; acked = 0 }) ks)
fresh_matched f first [] = tt
fresh_matched f first (k ∷ ks) = (omega arith, fresh_matched f first ks)

fresh_next : (bound first : ℕ) (ks : List ℕ) → first ≤ bound → agreement_pasts.Each (λ (p : acks.Peer). p.next ≤ bound) (map (λ k. record { node = k; next = first; matched = 0; acked = 0 }) ks)
fresh_next bound first [] le = tt
fresh_next bound first (k ∷ ks) le = (le, fresh_next bound first ks le)

pub lead_stays : (n : ℕ) (s : systems.System) (w : pasts.Past) (j : ℕ) (x : nodes.Node) (e : Entry) (is_made : Bool) → agreement_pasts.IsPastOf n s w → pasts.Sound (majorities.cluster_of n) w → systems.IsUp s j x → nodes.is_candidate x ≡ true → votes.is_elected x.ballot ≡ true → e.term ≡ x.ballot.term → logs.last_time x.log ≤ e.time
    → Stays n (systems.with_node (record s { cluster = record s.cluster { leds = transitions.with_led s.cluster.leds j e is_made } }) j (transitions.leading x e)) w (past_moves.Lead j e ∷ [])
lead_stays n s w j x e is_made i sound at runs elected own late =
    let one : pasts.role w j ≡ 1 = l.role ∙ running x runs in
    let own_term : e.term ≡ pasts.term w j = own ∙ sym l.term in
    let time : logs.last_time (w.log j) ≤ e.time = subst (λ g. logs.last_time g ≤ e.time) (sym l.log) late in
    let later = move_later (majorities.cluster_of n) w (past_moves.Lead j e) (one, own_term, most, time) sound in
    let v = past_moves.moves w (past_moves.Lead j e) in
    let after = member_changes n s w v j m (w.log j ++ e ∷ []) (w.commit j) (up x) (up (transitions.leading x e)) at i later refl
    (record {
      member = put_same w.poll.member j m;
      log = put_same w.log j (w.log j ++ e ∷ []);
      commit = refl;
      members = λ k ne. put_other w.poll.member j m k ne;
      logs = λ k ne. put_other w.log j (w.log j ++ e ∷ []) k ne;
      commits = λ k ne. refl;
    })
    (record { me = l.me; size = l.size; term = l.term; vote = l.vote; role = refl; votes = λ z. absurd (omega (arith, z)); log = ap (λ g. g ++ e ∷ []) l.log; commit = l.commit })
    (λ two. record {
      peers = fresh_nodes (suc (length x.log)) (majorities.others x.ballot.nodes x.ballot.me) ∙ ap (λ k. majorities.others k x.ballot.me) l.size ∙ ap (majorities.others n) l.me;
      matched = fresh_matched (v.acked x.ballot.term) (suc (length x.log)) (majorities.others x.ballot.nodes x.ballot.me);
      next = fresh_next (suc (length (x.log ++ e ∷ []))) (suc (length x.log)) (majorities.others x.ballot.nodes x.ballot.me) (let y = length-append x.log (e ∷ []) in omega (arith, y));
      self = let y = ap (λ t. v.acked t j) (sym l.term) ∙ put2_same w.acked (pasts.term w j) j (length (w.log j ++ e ∷ [])) in let z = ap (λ g. length (g ++ e ∷ [])) l.log in omega (arith, y, z);
    }) in
    let first : w.poll.led e.term ≡ true → ⊥ = λ z. first_to_lead (majorities.cluster_of n) w.poll j one most sound.fair (ap w.poll.led (sym own_term) ∙ z) in
    let told = led_leds n s w v j e is_made i later first (ap v.poll.led own_term ∙ put_same w.poll.led (pasts.term w j) true) (ap v.poll.leader own_term ∙ put_same w.poll.leader (pasts.term w j) j) in
    record {
      fits = ((one, own_term, most, time), tt);
      past = record { long = after.long; members = after.members; bare = after.bare; leaders = after.leaders; packets = after.packets; committed = after.committed; counted = after.counted; terms = after.terms; leds = told.0; once = told.1 };
    }
  where
    l : agreement_pasts.IsLike n j (w.poll.member j) (w.log j) (w.commit j) (up x)
    l = i.members j (up x) at

    m : polls.Voter
    m = record { term = pasts.term w j; vote = (w.poll.member j).vote; role = 2; votes = polls.nobody }

    most : matchings.IsMost (w.poll.member j).votes (majorities.cluster_of n)
    most = most_of (w.poll.member j).votes (majorities.is_in x.ballot.votes) n (λ u h. l.votes (running x runs) u ∙ h) (subst (λ k. majorities.is_most (majorities.count (majorities.is_in x.ballot.votes) (majorities.cluster_of k)) k ≡ true) l.size elected)

-- the effect of entries taken one after another
record Taken (w v : pasts.Past) (j : ℕ) (g : List Entry) : Type 0 where
  changes : Changes w v j (w.poll.member j) g (w.commit j)
  same : v.committed ≡ w.committed
  self : length g ≤ v.acked (pasts.term w j) j

takes_change : (w : pasts.Past) (j : ℕ) (es : List Entry) → length (w.log j) ≤ w.acked (pasts.term w j) j → Taken w (past_moves.after_moves w (agreement_pasts.take_moves j es)) j (w.log j ++ es)
takes_change w j [] le = record {
  changes = record { member = refl; log = sym (append-nil (w.log j)); commit = refl; members = λ k ne. refl; logs = λ k ne. refl; commits = λ k ne. refl };
  same = refl;
  self = let a = ap (λ g. length g) (append-nil (w.log j)) in omega (arith, a, le);
}
takes_change w j (e ∷ es) le =
    let u = past_moves.moves w (past_moves.Take j e) in
    let here : u.log j ≡ w.log j ++ e ∷ [] = put_same w.log j (w.log j ++ e ∷ []) in
    let len : length (u.log j) ≡ length (w.log j ++ e ∷ []) = ap (λ g. length g) here in
    let mine : u.acked (pasts.term w j) j ≡ length (w.log j ++ e ∷ []) = put2_same w.acked (pasts.term w j) j (length (w.log j ++ e ∷ [])) in
    let t = takes_change u j es (omega (arith, len, mine)) in
    let joined : u.log j ++ es ≡ w.log j ++ e ∷ es = ap (λ g. g ++ es) here ∙ append_assoc (w.log j) (e ∷ []) es in
    record {
      changes = record {
        member = t.changes.member;
        log = t.changes.log ∙ joined;
        commit = t.changes.commit;
        members = t.changes.members;
        logs = λ k ne. t.changes.logs k ne ∙ put_other w.log j (w.log j ++ e ∷ []) k ne;
        commits = t.changes.commits;
      };
      same = t.same;
      self = let a = ap (λ g. length g) joined in let b = t.self in omega (arith, a, b);
    }

takes_fit : (nodes : List ℕ) (w : pasts.Past) (j time : ℕ) (es : List Entry) → pasts.role w j ≡ 2 → agreement_pasts.Each (λ e. (e.term ≡ pasts.term w j) × (e.time ≡ time)) es → logs.last_time (w.log j) ≤ time → past_moves.AllFit nodes w (agreement_pasts.take_moves j es)
takes_fit nodes w j time [] two h le = tt
takes_fit nodes w j time (e ∷ es) two h le =
    let u = past_moves.moves w (past_moves.Take j e) in
    let here : u.log j ≡ w.log j ++ e ∷ [] = put_same w.log j (w.log j ++ e ∷ []) in
    let last : logs.last_time (u.log j) ≡ e.time = ap logs.last_time here ∙ ap (λ p. logs.entry_time (lists.at_place (w.log j ++ e ∷ []) p)) (length_longer (w.log j) e) ∙ time_of_longer (w.log j) e in
    ((two, h.0.0, omega (arith, h.0.1, le)), takes_fit nodes u j time es two h.1 (omega (arith, last, h.0.1)))

entries_fit : (t u time : ℕ) (bodies : List Body) → u ≡ t → agreement_pasts.Each (λ (e : Entry). (e.term ≡ t) × (e.time ≡ time)) (nodes.entries_of u time bodies)
entries_fit t u time [] e = tt
entries_fit t u time (b ∷ bodies) e = ((e, refl), entries_fit t u time bodies e)

each_weaker : (a b : ℕ) (ps : List acks.Peer) → a ≤ b → agreement_pasts.Each (λ p. p.next ≤ a) ps → agreement_pasts.Each (λ p. p.next ≤ b) ps
each_weaker a b [] le h = tt
each_weaker a b (p ∷ ps) le h = (omega (arith, h.0, le), each_weaker a b ps le h.1)

pub take_stays : (n : ℕ) (s : systems.System) (w : pasts.Past) (j : ℕ) (x : nodes.Node) (time : ℕ) (bodies : List Body) → agreement_pasts.IsPastOf n s w → pasts.Sound (majorities.cluster_of n) w → systems.IsUp s j x → nodes.is_leader x ≡ true → logs.last_time x.log ≤ time
    → Stays n (systems.with_node s j (transitions.with_log x (x.log ++ nodes.entries_of x.ballot.term time bodies))) w (agreement_pasts.take_moves j (nodes.entries_of x.ballot.term time bodies))
take_stays n s w j x time bodies i sound at is le =
    let l = i.members j (up x) at in
    let es = nodes.entries_of x.ballot.term time bodies in
    let two : pasts.role w j ≡ 2 = l.role ∙ leads x is in
    let old = i.leaders j (up x) at (leads x is) in
    let v = past_moves.after_moves w (agreement_pasts.take_moves j es) in
    let fits : past_moves.AllFit (majorities.cluster_of n) w (agreement_pasts.take_moves j es) = takes_fit (majorities.cluster_of n) w j time es two (entries_fit (pasts.term w j) x.ballot.term time bodies (sym l.term)) (subst (λ g. logs.last_time g ≤ time) (sym l.log) le) in
    let later = run_later (majorities.cluster_of n) w (agreement_pasts.take_moves j es) fits sound in
    let self : length (w.log j) ≤ w.acked (pasts.term w j) j = subst (λ t. length (w.log j) ≤ w.acked t j) (sym l.term) (subst (λ g. length g ≤ w.acked x.ballot.term j) (sym l.log) old.self) in
    let t = takes_change w j es self in
    let known = leading_later n j w v x later old in
    record {
      fits = fits;
      past = member_changes n s w v j (w.poll.member j) (w.log j ++ es) (w.commit j) (up x) (up (transitions.with_log x (x.log ++ es))) at i later t.same t.changes
          (record { me = l.me; size = l.size; term = l.term; vote = l.vote; role = l.role; votes = l.votes; log = ap (λ g. g ++ es) l.log; commit = l.commit })
          (λ z. record {
            peers = known.peers;
            matched = known.matched;
            next = each_weaker (suc (length x.log)) (suc (length (x.log ++ es))) x.leading.peers (let a = length-append x.log es in omega (arith, a)) known.next;
            self = let a = t.self in let b = ap (λ g. length (g ++ es)) l.log in let c = ap (λ u. v.acked u j) l.term in omega (arith, a, b, c);
          });
    }

-- a leader changes what the past knows nothing of
kept_leading : (n : ℕ) (s : systems.System) (w : pasts.Past) (j : ℕ) (x y : nodes.Node) → agreement_pasts.IsPastOf n s w → systems.IsUp s j x → y.ballot ≡ x.ballot → y.log ≡ x.log → y.role ≡ x.role → y.commit ≡ x.commit → (agreement_pasts.role_number y.role ≡ 2 → agreement_pasts.IsLeading n j w y) → agreement_pasts.IsPastOf n (systems.with_node s j y) w
kept_leading n s w j x y i at eb eg er ec h =
    let l = i.members j (up x) at in
    member_changes n s w w j (w.poll.member j) (w.log j) (w.commit j) (up x) (up y) at i (later_self w) refl (nothing_changes w j)
    (record {
      me = ap (λ b. b.me) eb ∙ l.me;
      size = ap (λ b. b.nodes) eb ∙ l.size;
      term = l.term ∙ sym (ap (λ b. b.term) eb);
      vote = l.vote ∙ sym (ap (λ b. Rattle.law_agreement.specs.Pasts.vote_number b.vote) eb);
      role = l.role ∙ sym (ap agreement_pasts.role_number er);
      votes = λ one u. l.votes (sym (ap agreement_pasts.role_number er) ∙ one) u ∙ sym (ap (λ b. majorities.is_in b.votes u) eb);
      log = l.log ∙ sym eg;
      commit = l.commit ∙ sym ec;
    }) h

pub tick_stays : (n : ℕ) (s : systems.System) (w : pasts.Past) (j : ℕ) (x : nodes.Node) → agreement_pasts.IsPastOf n s w → systems.IsUp s j x → agreement_pasts.IsPastOf n (systems.with_node s j (nodes.ticked x)) w
tick_stays n s w j x i at = kept_leading n s w j x (nodes.ticked x) i at refl refl refl refl (λ two. let o = i.leaders j (up x) at two in record { peers = o.peers; matched = o.matched; next = o.next; self = o.self })

pub arrive_stays : (n : ℕ) (s : systems.System) (w : pasts.Past) (j : ℕ) (x : nodes.Node) → agreement_pasts.IsPastOf n s w → systems.IsUp s j x → agreement_pasts.IsPastOf n (systems.with_node (transitions.with_taken s j x) j (nodes.read_taken x)) w
arrive_stays n s w j x i at =
    kept_leading n (transitions.with_taken s j x) w j x (nodes.read_taken x)
    (record { long = i.long; members = i.members; bare = i.bare; leaders = i.leaders; packets = i.packets; committed = i.committed; counted = i.counted; terms = i.terms; leds = i.leds; once = i.once })
    at refl refl refl refl (λ two. let o = i.leaders j (up x) at two in record { peers = o.peers; matched = o.matched; next = o.next; self = o.self })

pub answer_stays : (n : ℕ) (s : systems.System) (w : pasts.Past) (j : ℕ) (x : nodes.Node) → agreement_pasts.IsPastOf n s w → systems.IsUp s j x → agreement_pasts.IsPastOf n (systems.with_node (transitions.with_given s j x) j (steps.without_given x)) w
answer_stays n s w j x i at =
    kept_leading n (transitions.with_given s j x) w j x (steps.without_given x)
    (record { long = i.long; members = i.members; bare = i.bare; leaders = i.leaders; packets = i.packets; committed = i.committed; counted = i.counted; terms = i.terms; leds = i.leds; once = i.once })
    at refl refl refl refl (λ two. let o = i.leaders j (up x) at two in record { peers = o.peers; matched = o.matched; next = o.next; self = o.self })

-- one of the others changes
change_cases : (P : acks.Peer → Type 0) (f : acks.Peer → acks.Peer) (k : ℕ) (p : acks.Peer) (ps : List acks.Peer) → (p.node ≡ k → P p → P (f p)) → (agreement_pasts.Each P ps → agreement_pasts.Each P (acks.change_peer f k ps)) → (b : Bool) → nat_eq p.node k ≡ b → agreement_pasts.Each P (p ∷ ps) → agreement_pasts.Each P (if b then f p ∷ ps else p ∷ acks.change_peer f k ps)
change_cases P f k p ps one rest true e h = (one (equal p.node k e) h.0, h.1)
change_cases P f k p ps one rest false e h = (h.0, rest h.1)

pub each_change : (P : acks.Peer → Type 0) (f : acks.Peer → acks.Peer) (k : ℕ) (ps : List acks.Peer) → ((p : acks.Peer) → p.node ≡ k → P p → P (f p)) → agreement_pasts.Each P ps → agreement_pasts.Each P (acks.change_peer f k ps)
each_change P f k [] one h = tt
each_change P f k (p ∷ ps) one h = change_cases P f k p ps (one p) (each_change P f k ps one) (nat_eq p.node k) refl h

name_cases : (f : acks.Peer → acks.Peer) (k : ℕ) (p : acks.Peer) (ps : List acks.Peer) → (f p).node ≡ p.node → map (λ q. q.node) (acks.change_peer f k ps) ≡ map (λ q. q.node) ps → (b : Bool) → map (λ q. q.node) (if b then f p ∷ ps else p ∷ acks.change_peer f k ps) ≡ map (λ q. q.node) (p ∷ ps)
name_cases f k p ps same rest true = ap (λ m. m ∷ map (λ q. q.node) ps) same
name_cases f k p ps same rest false = ap (λ l. p.node ∷ l) rest

same_names : (f : acks.Peer → acks.Peer) (k : ℕ) (ps : List acks.Peer) → ((p : acks.Peer) → (f p).node ≡ p.node) → map (λ q. q.node) (acks.change_peer f k ps) ≡ map (λ q. q.node) ps
same_names f k [] same = refl
same_names f k (p ∷ ps) same = name_cases f k p ps (same p) (same_names f k ps same) (nat_eq p.node k)

pub by_rise : (P : acks.Peer → Type 0) (place round last : ℕ) (p : acks.Peer) → (acks.rises_at place last p ≡ true → P (record (acks.acking round p) { matched = place; next = place + 1 })) → P (acks.acking round p) → P (acks.accepting place round last p)
by_rise P place round last p rose stood = go (acks.rises_at place last p) refl
  where
    go : (b : Bool) → acks.rises_at place last p ≡ b → P (if b then record (acks.acking round p) { matched = place; next = place + 1 } else acks.acking round p)
    go true e = rose e
    go false e = stood

pub by_fall : (P : acks.Peer → Type 0) (place round : ℕ) (p : acks.Peer) → (acks.falls_at place p ≡ true → P (record (acks.acking round p) { next = place + 1 })) → P (acks.acking round p) → P (acks.refusing place round p)
by_fall P place round p fell stood = go (acks.falls_at place p) refl
  where
    go : (b : Bool) → acks.falls_at place p ≡ b → P (if b then record (acks.acking round p) { next = place + 1 } else acks.acking round p)
    go true e = fell e
    go false e = stood

pub heed_stays : (n : ℕ) (s : systems.System) (w : pasts.Past) (j : ℕ) (x : nodes.Node) (peers : List acks.Peer) → agreement_pasts.IsPastOf n s w → systems.IsUp s j x → nodes.is_leader x ≡ true → transitions.Heeds s j x peers → agreement_pasts.IsPastOf n (systems.with_node s j (nodes.with_peers x peers)) w
heed_stays n s w j x peers i at is (transitions.Accepts k place round sent same) =
    let o = i.leaders j (up x) at (leads x is) in
    let says : place ≤ w.acked x.ballot.term k = i.packets (record { «from» = end.Node k; to = end.Node j; payload = payload.AppendReply x.ballot.term true place round }) sent in
    let f = acks.accepting place round (length x.log) in
    let known : agreement_pasts.IsLeading n j w (nodes.with_peers x (acks.accepted x.leading.peers k place round (length x.log))) = record {
      peers = same_names f k x.leading.peers (λ p. by_rise (λ q. q.node ≡ p.node) place round (length x.log) p (λ e. refl) refl) ∙ o.peers;
      matched = each_change (λ p. p.matched ≤ w.acked x.ballot.term p.node) f k x.leading.peers (λ p e h. by_rise (λ q. q.matched ≤ w.acked x.ballot.term q.node) place round (length x.log) p (λ z. subst (λ m. place ≤ w.acked x.ballot.term m) (sym e) says) h) o.matched;
      next = each_change (λ p. p.next ≤ suc (length x.log)) f k x.leading.peers (λ p e h. by_rise (λ q. q.next ≤ suc (length x.log)) place round (length x.log) p (λ z. let b = at_most place (length x.log) (both (nat_lt p.matched place) (nat_le place (length x.log)) z).1 in omega (arith, b)) h) o.next;
      self = o.self;
    } in
    subst (λ ps. agreement_pasts.IsPastOf n (systems.with_node s j (nodes.with_peers x ps)) w) (sym same) (kept_leading n s w j x (nodes.with_peers x (acks.accepted x.leading.peers k place round (length x.log))) i at refl refl refl refl (λ two. known))
heed_stays n s w j x peers i at is (transitions.Refuses k place round sent same) =
    let o = i.leaders j (up x) at (leads x is) in
    let f = acks.refusing place round in
    let known : agreement_pasts.IsLeading n j w (nodes.with_peers x (acks.refused x.leading.peers k place round)) = record {
      peers = same_names f k x.leading.peers (λ p. by_fall (λ q. q.node ≡ p.node) place round p (λ e. refl) refl) ∙ o.peers;
      matched = each_change (λ p. p.matched ≤ w.acked x.ballot.term p.node) f k x.leading.peers (λ p e h. by_fall (λ q. q.matched ≤ w.acked x.ballot.term q.node) place round p (λ z. h) h) o.matched;
      next = each_change (λ p. p.next ≤ suc (length x.log)) f k x.leading.peers (λ p e h. by_fall (λ q. q.next ≤ suc (length x.log)) place round p (λ z. let b = below place (p.next - 1) (both (nat_lt place (p.next - 1)) (nat_le p.matched place) z).0 in omega (arith, b, h)) h) o.next;
      self = o.self;
    } in
    subst (λ ps. agreement_pasts.IsPastOf n (systems.with_node s j (nodes.with_peers x ps)) w) (sym same) (kept_leading n s w j x (nodes.with_peers x (acks.refused x.leading.peers k place round)) i at refl refl refl refl (λ two. known))
