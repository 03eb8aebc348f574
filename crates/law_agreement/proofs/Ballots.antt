-- Terms seen, candidacies, votes, and restarts leave the past of the system its past.
use Rattle.std.proofs.Common.{◌≡◌, ℕ, suc, ◌<◌, List, [], ◌∷◌, ◌++◌, length, refl, ap, sym, ◌∙◌, subst, arith, inl, inr}
use Rattle.std.specs.Prelude.{◌≢◌, Bool, true, false, ◌&&◌, ◌||◌, nat_eq, nat_lt, nat_le, Option, Some, None, if◌then◌else◌}
use Rattle.ax_types.specs.Places as lists
use Rattle.ax_types.specs.declared.entries.Entry.{Entry}
use Rattle.ax_types.specs.declared.packets.Payload.TheVariants as payload
use Rattle.spec_raft.specs.Majority as majorities
use Rattle.spec_raft.specs.Log as logs
use Rattle.spec_raft.specs.Ballot as votes
use Rattle.spec_node.specs.Node as nodes
use Rattle.spec_cluster.specs.Cluster as clusters
use Rattle.spec_transitions.specs.Systems as systems
use Rattle.spec_transitions.specs.Transitions as transitions
use Rattle.spec_past.specs.Matching as matchings
use Rattle.spec_past.specs.Polls as polls
use Rattle.spec_past.specs.Past as pasts
use Rattle.spec_past.specs.PastMoves as past_moves
use Rattle.spec_past.specs.Later as laters
use Rattle.law_past.proofs.Polls.{same_or, put_same, put_other}
use Rattle.law_past.proofs.Later.{move_later, later_self, run_later}
use Rattle.law_agreement.specs.Pasts as agreement_pasts
use Rattle.law_agreement.proofs.Tests.{equal, at_most, below, both, either, is_below, is_equal, is_unequal}
use Rattle.law_agreement.proofs.Members.{place_within}
use Rattle.law_agreement.proofs.Changes.{nothing_changes, member_put, leading_later, member_changes}

-- the moves fit, and the past after them is that of the system after
pub record Stays (n : ℕ) (s : systems.System) (w : pasts.Past) (ms : List past_moves.PastMove) : Type 0 where
  pub fits : past_moves.AllFit (majorities.cluster_of n) w ms
  pub past : agreement_pasts.IsPastOf n s (past_moves.after_moves w ms)

-- a node that is up, as it was
abbrev pub up : nodes.Node → clusters.Member
up x = record { is_up = true; node = x }

idle : {A : Type 0} → agreement_pasts.role_number nodes.Follower ≡ 2 → A
idle e = absurd (omega (arith, e))

raised : nodes.Node → ℕ → nodes.Node
raised x t = record x { ballot = record x.ballot { term = t; vote = None; votes = [] }; role = nodes.Follower; leader = None; leading = nodes.not_leading }

seen_is : (x : nodes.Node) (t : ℕ) → x.ballot.term < t → nodes.seen x t ≡ raised x t
unfolding raised
seen_is x t h = ap (λ b. if b then record x { ballot = if b then record x.ballot { term = t; vote = None; votes = [] } else x.ballot; role = nodes.Follower; leader = None; leading = nodes.not_leading } else x) (is_below x.ballot.term t h)

pub raise_stays : (n : ℕ) (s : systems.System) (w : pasts.Past) (j : ℕ) (x : nodes.Node) (t : ℕ) → agreement_pasts.IsPastOf n s w → pasts.Sound (majorities.cluster_of n) w → systems.IsUp s j x → x.ballot.term < t → Stays n (systems.with_node s j (nodes.seen x t)) w (past_moves.Raise j t ∷ [])
unfolding raised
raise_stays n s w j x t i sound at h =
    let l = i.members j (up x) at in
    let fit : pasts.term w j < t = omega (arith, l.term, h) in
    let m : polls.Voter = record { term = t; vote = 0; role = 0; votes = polls.nobody } in
    record {
      fits = (fit, tt);
      past = subst (λ y. agreement_pasts.IsPastOf n (systems.with_node s j y) (past_moves.moves w (past_moves.Raise j t))) (sym (seen_is x t h))
          (member_changes n s w (past_moves.moves w (past_moves.Raise j t)) j m (w.log j) (w.commit j) (up x) (up (raised x t)) at i (move_later (majorities.cluster_of n) w (past_moves.Raise j t) fit sound) refl
          (member_put w (past_moves.moves w (past_moves.Raise j t)) j m refl refl refl)
          (record { me = l.me; size = l.size; term = refl; vote = refl; role = refl; votes = λ one u. refl; log = l.log; commit = l.commit })
          idle);
    }

one_vote : (me j u : ℕ) → me ≡ j → polls.put polls.nobody j true u ≡ majorities.is_in (me ∷ []) u
one_vote me j u e = elim (same_or u j) [
  | inl same ↦ ap (polls.put polls.nobody j true) same ∙ put_same polls.nobody j true ∙ sym (ap (λ b. b || false) (is_equal me u (e ∙ sym same)))
  | inr ne ↦ put_other polls.nobody j true u ne ∙ sym (ap (λ b. b || false) (is_unequal me u (λ z. ne (sym z ∙ e))))
]

pub campaign_stays : (n : ℕ) (s : systems.System) (w : pasts.Past) (j : ℕ) (x : nodes.Node) → agreement_pasts.IsPastOf n s w → pasts.Sound (majorities.cluster_of n) w → systems.IsUp s j x → Stays n (systems.with_node s j (nodes.candidate x)) w (past_moves.Campaign j ∷ [])
campaign_stays n s w j x i sound at =
    let l = i.members j (up x) at in
    let some : j ≢ 0 = λ z. let p = place_within s.cluster.members j (up x) at in absurd (omega (arith, p.0, z)) in
    let m : polls.Voter = record { term = suc (pasts.term w j); vote = j; role = 1; votes = polls.put polls.nobody j true } in
    record {
      fits = (some, tt);
      past = member_changes n s w (past_moves.moves w (past_moves.Campaign j)) j m (w.log j) (w.commit j) (up x) (up (nodes.candidate x)) at i (move_later (majorities.cluster_of n) w (past_moves.Campaign j) some sound) refl
          (member_put w (past_moves.moves w (past_moves.Campaign j)) j m refl refl refl)
          (record { me = l.me; size = l.size; term = ap suc l.term; vote = sym l.me; role = refl; votes = λ one u. one_vote x.ballot.me j u l.me; log = l.log; commit = l.commit })
          (λ e. absurd (omega (arith, e)));
    }

-- what the test of a log says
pub up_to_date : (g h : List Entry) (lt last : ℕ) → lt ≡ logs.last_term h → last ≡ length h → logs.newer_or_equal g lt last ≡ true → matchings.IsUpToDate h g
up_to_date g h lt last et el e = elim (either (nat_lt (logs.last_term g) lt) (nat_eq lt (logs.last_term g) && nat_le (length g) last) e) [
  | inl a ↦ let b = below (logs.last_term g) lt a in inl (omega (arith, b, et))
  | inr a ↦
      let b = both (nat_eq lt (logs.last_term g)) (nat_le (length g) last) a in
      let c = equal lt (logs.last_term g) b.0 in
      let d = at_most (length g) last b.1 in
      inr (sym c ∙ et, omega (arith, d, el))
]

vote_leading : (n k : ℕ) (w : pasts.Past) (x : nodes.Node) (c : ℕ) → agreement_pasts.IsLeading n k w x → agreement_pasts.IsLeading n k w (transitions.with_vote x c)
vote_leading n k w x c h = record { peers = h.peers; matched = h.matched; next = h.next; self = h.self }

pub grant_stays : (n : ℕ) (s : systems.System) (w : pasts.Past) (j : ℕ) (x : nodes.Node) (c last lt : ℕ) → agreement_pasts.IsPastOf n s w → pasts.Sound (majorities.cluster_of n) w → systems.IsUp s j x → systems.WasSent s c j (payload.Vote x.ballot.term last lt)
    → votes.is_granted x.ballot x.log x.ballot.term c last lt ≡ true → Stays n (systems.with_node s j (transitions.with_vote x c)) w (agreement_pasts.grant_moves j c x.ballot.vote)
grant_stays n s w j x c last lt i sound at sent granted = go x.ballot.vote refl
  where
    l : agreement_pasts.IsLike n j (w.poll.member j) (w.log j) (w.commit j) (up x)
    l = i.members j (up x) at

    asked : agreement_pasts.IsAsked w c j x.ballot.term last lt
    asked = i.packets (record { «from» = Rattle.ax_types.specs.declared.ids.End.TheVariants.Node c; to = Rattle.ax_types.specs.declared.ids.End.TheVariants.Node j; payload = payload.Vote x.ballot.term last lt }) sent

    tests : (votes.is_free x.ballot.vote c ≡ true) × (logs.newer_or_equal x.log lt last ≡ true)
    tests =
        let a = both (nat_eq x.ballot.term x.ballot.term && votes.is_free x.ballot.vote c) (logs.newer_or_equal x.log lt last) granted in
        ((both (nat_eq x.ballot.term x.ballot.term) (votes.is_free x.ballot.vote c) a.0).1, a.1)

    go : (v : Option ℕ) → x.ballot.vote ≡ v → Stays n (systems.with_node s j (transitions.with_vote x c)) w (agreement_pasts.grant_moves j c v)
    go None e =
        let m : polls.Voter = record { term = pasts.term w j; vote = c; role = pasts.role w j; votes = (w.poll.member j).votes } in
        let newer : matchings.IsUpToDate (w.candidate_log (pasts.term w j) c) (w.log j) =
        subst (λ t. matchings.IsUpToDate (w.candidate_log t c) (w.log j)) (sym l.term) (subst (λ g. matchings.IsUpToDate (w.candidate_log x.ballot.term c) g) (sym l.log) (up_to_date x.log (w.candidate_log x.ballot.term c) lt last asked.last_term asked.last tests.1)) in
        let free : (w.poll.member j).vote ≡ 0 = l.vote ∙ ap agreement_pasts.vote_number e in
        let away : c ≢ j = λ z. asked.apart (sym z) in
        let runs : w.poll.cast (pasts.term w j) c ≡ c = ap (λ t. w.poll.cast t c) l.term ∙ asked.runs in
        let later : laters.Later w (past_moves.moves w (past_moves.Grant j c)) = move_later (majorities.cluster_of n) w (past_moves.Grant j c) (asked.some, away, free, runs, newer) sound in
        record {
          fits = ((asked.some, away, free, runs, newer), tt);
          past = member_changes n s w (past_moves.moves w (past_moves.Grant j c)) j m (w.log j) (w.commit j) (up x) (up (transitions.with_vote x c)) at i later refl
              (member_put w (past_moves.moves w (past_moves.Grant j c)) j m refl refl refl)
              (record { me = l.me; size = l.size; term = l.term; vote = refl; role = l.role; votes = l.votes; log = l.log; commit = l.commit })
              (λ two. vote_leading n j (past_moves.moves w (past_moves.Grant j c)) x c (leading_later n j w (past_moves.moves w (past_moves.Grant j c)) x later (i.leaders j (up x) at two)));
        }
    go (Some k) e =
        let same : k ≡ c = equal k c (ap (λ v. votes.is_free v c) (sym e) ∙ tests.0) in
        record {
          fits = tt;
          past = member_changes n s w w j (w.poll.member j) (w.log j) (w.commit j) (up x) (up (transitions.with_vote x c)) at i (later_self w) refl
              (nothing_changes w j)
              (record { me = l.me; size = l.size; term = l.term; vote = l.vote ∙ ap agreement_pasts.vote_number e ∙ same; role = l.role; votes = l.votes; log = l.log; commit = l.commit })
              (λ two. vote_leading n j w x c (i.leaders j (up x) at two));
        }

-- a vote more is among the votes
with_one : (xs : List ℕ) (v u : ℕ) → majorities.is_in (xs ++ v ∷ []) u ≡ (majorities.is_in xs u || nat_eq v u)
with_one [] v u = or_off (nat_eq v u)
  where
    or_off : (b : Bool) → (b || false) ≡ b
    or_off true = refl
    or_off false = refl
with_one (x ∷ xs) v u = ap (λ b. nat_eq x u || b) (with_one xs v u) ∙ or_assoc (nat_eq x u) (majorities.is_in xs u) (nat_eq v u)
  where
    or_assoc : (a b c : Bool) → (a || (b || c)) ≡ ((a || b) || c)
    or_assoc true b c = refl
    or_assoc false b c = refl

or_on : (a : Bool) → (a || true) ≡ true
or_on true = refl
or_on false = refl

or_off : (a : Bool) → (a || false) ≡ a
or_off true = refl
or_off false = refl

-- the votes after one was counted
more_votes : (f : ℕ → Bool) (b : votes.Ballot) (v u : ℕ) → f u ≡ majorities.is_in b.votes u → (is_known : Bool) → majorities.is_in b.votes v ≡ is_known → polls.put f v true u ≡ majorities.is_in (if is_known then b else record b { votes = b.votes ++ v ∷ [] }).votes u
more_votes f b v u e true known = elim (same_or u v) [
  | inl same ↦ ap (polls.put f v true) same ∙ put_same f v true ∙ sym known ∙ ap (majorities.is_in b.votes) (sym same)
  | inr ne ↦ put_other f v true u ne ∙ e
]
more_votes f b v u e false known = elim (same_or u v) [
  | inl same ↦ ap (polls.put f v true) same ∙ put_same f v true ∙ sym (with_one b.votes v u ∙ ap (λ c. majorities.is_in b.votes u || c) (is_equal v u (sym same)) ∙ or_on (majorities.is_in b.votes u))
  | inr ne ↦ put_other f v true u ne ∙ e ∙ sym (with_one b.votes v u ∙ ap (λ c. majorities.is_in b.votes u || c) (is_unequal v u (λ z. ne (sym z))) ∙ or_off (majorities.is_in b.votes u))
]

abbrev counting : nodes.Node → ℕ → Bool → nodes.Node
counting x v is_known = record x { ballot = if is_known then x.ballot else record x.ballot { votes = x.ballot.votes ++ v ∷ [] } }

count_like : (n j : ℕ) (y : polls.Voter) (g : List Entry) (c : ℕ) (x : nodes.Node) (v : ℕ) (is_known : Bool) → majorities.is_in x.ballot.votes v ≡ is_known → agreement_pasts.IsLike n j y g c (up x)
    → agreement_pasts.IsLike n j (record { term = y.term; vote = y.vote; role = y.role; votes = polls.put y.votes v true }) g c (up (counting x v is_known))
count_like n j y g c x v true e l = record { me = l.me; size = l.size; term = l.term; vote = l.vote; role = l.role; votes = λ one u. more_votes y.votes x.ballot v u (l.votes one u) true e; log = l.log; commit = l.commit }
count_like n j y g c x v false e l = record { me = l.me; size = l.size; term = l.term; vote = l.vote; role = l.role; votes = λ one u. more_votes y.votes x.ballot v u (l.votes one u) false e; log = l.log; commit = l.commit }

count_leading : (n k : ℕ) (w : pasts.Past) (x : nodes.Node) (v : ℕ) (is_known : Bool) → agreement_pasts.IsLeading n k w x → agreement_pasts.IsLeading n k w (counting x v is_known)
count_leading n k w x v true h = h
count_leading n k w x v false h = record { peers = h.peers; matched = h.matched; next = h.next; self = h.self }

pub count_stays : (n : ℕ) (s : systems.System) (w : pasts.Past) (j : ℕ) (x : nodes.Node) (v : ℕ) → agreement_pasts.IsPastOf n s w → pasts.Sound (majorities.cluster_of n) w → systems.IsUp s j x → systems.WasSent s v j (payload.VoteReply x.ballot.term true)
    → Stays n (systems.with_node s j (record x { ballot = votes.counted x.ballot v })) w (past_moves.Count j v ∷ [])
count_stays n s w j x v i sound at sent =
    let l = i.members j (up x) at in
    let says : (j ≢ 0) × (w.poll.cast x.ballot.term v ≡ j) = i.packets (record { «from» = Rattle.ax_types.specs.declared.ids.End.TheVariants.Node v; to = Rattle.ax_types.specs.declared.ids.End.TheVariants.Node j; payload = payload.VoteReply x.ballot.term true }) sent in
    let fit : w.poll.cast (pasts.term w j) v ≡ j = ap (λ t. w.poll.cast t v) l.term ∙ says.1 in
    let m : polls.Voter = record { term = pasts.term w j; vote = (w.poll.member j).vote; role = pasts.role w j; votes = polls.put (w.poll.member j).votes v true } in
    let later = move_later (majorities.cluster_of n) w (past_moves.Count j v) fit sound in
    record {
      fits = (fit, tt);
      past = member_changes n s w (past_moves.moves w (past_moves.Count j v)) j m (w.log j) (w.commit j) (up x) (up (record x { ballot = votes.counted x.ballot v })) at i later refl
          (member_put w (past_moves.moves w (past_moves.Count j v)) j m refl refl refl)
          (count_like n j (w.poll.member j) (w.log j) (w.commit j) x v (majorities.is_in x.ballot.votes v) refl l)
          (λ two. count_leading n j (past_moves.moves w (past_moves.Count j v)) x v (majorities.is_in x.ballot.votes v) (leading_later n j w (past_moves.moves w (past_moves.Count j v)) x later (i.leaders j (up x) at (sym (kept (majorities.is_in x.ballot.votes v)) ∙ two))));
    }
  where
    kept : (b : Bool) → agreement_pasts.role_number (counting x v b).role ≡ agreement_pasts.role_number x.role
    kept true = refl
    kept false = refl

pub follow_stays : (n : ℕ) (s : systems.System) (w : pasts.Past) (j : ℕ) (x : nodes.Node) (leader : ℕ) → agreement_pasts.IsPastOf n s w → pasts.Sound (majorities.cluster_of n) w → systems.IsUp s j x → Stays n (systems.with_node s j (nodes.followed x leader)) w (past_moves.Fall j ∷ [])
follow_stays n s w j x leader i sound at =
    let l = i.members j (up x) at in
    let m : polls.Voter = record { term = pasts.term w j; vote = (w.poll.member j).vote; role = 0; votes = polls.nobody } in
    record {
      fits = (tt, tt);
      past = member_changes n s w (past_moves.moves w (past_moves.Fall j)) j m (w.log j) (w.commit j) (up x) (up (nodes.followed x leader)) at i (move_later (majorities.cluster_of n) w (past_moves.Fall j) tt sound) refl
          (member_put w (past_moves.moves w (past_moves.Fall j)) j m refl refl refl)
          (record { me = l.me; size = l.size; term = l.term; vote = l.vote; role = refl; votes = λ one u. absurd (omega (arith, one)); log = l.log; commit = l.commit })
          idle;
    }

-- a node that loses what it does not keep
pub fall_stays : (n : ℕ) (s : systems.System) (w : pasts.Past) (j : ℕ) (was is : Bool) (x : nodes.Node) → agreement_pasts.IsPastOf n s w → pasts.Sound (majorities.cluster_of n) w → lists.at_place s.cluster.members j ≡ Some (record { is_up = was; node = x })
    → Stays n (systems.member_changed s j (record { is_up = is; node = nodes.restarted x.ballot.me x.ballot.nodes (nodes.kept_of x) })) w (past_moves.Fall j ∷ past_moves.Forget j ∷ [])
fall_stays n s w j was is x i sound at =
    let l = i.members j (record { is_up = was; node = x }) at in
    let m : polls.Voter = record { term = pasts.term w j; vote = (w.poll.member j).vote; role = 0; votes = polls.nobody } in
    let u = past_moves.moves (past_moves.moves w (past_moves.Fall j)) (past_moves.Forget j) in
    record {
      fits = (tt, (tt, tt));
      past = member_changes n s w u j m (w.log j) 0 (record { is_up = was; node = x }) (record { is_up = is; node = nodes.restarted x.ballot.me x.ballot.nodes (nodes.kept_of x) }) at i
          (run_later (majorities.cluster_of n) w (past_moves.Fall j ∷ past_moves.Forget j ∷ []) (tt, (tt, tt)) sound) refl
          (record {
            member = put_same w.poll.member j m;
            log = refl;
            commit = put_same w.commit j 0;
            members = λ k ne. put_other w.poll.member j m k ne;
            logs = λ k ne. refl;
            commits = λ k ne. put_other w.commit j 0 k ne;
          })
          (record { me = l.me; size = l.size; term = l.term; vote = l.vote; role = refl; votes = λ one u. refl; log = l.log; commit = refl })
          idle;
    }
