-- A change of one member leaves the past of the system its past.
use Rattle.std.proofs.Common.{◌≡◌, ℕ, ◌≤◌, List, [], ◌∷◌, length, refl, ap, sym, ◌∙◌, subst, arith, inl, inr}
use Rattle.std.specs.Prelude.{◌≢◌, true, false, Some}
use Rattle.ax_types.specs.Places as ax_types_lists
use Rattle.ax_types.specs.declared.entries.Entry.{Entry}
use Rattle.ax_types.specs.declared.ids.End.{End}
use Rattle.ax_types.specs.declared.ids.End.TheVariants as end
use Rattle.ax_types.specs.declared.packets.Payload.{Payload}
use Rattle.ax_types.specs.declared.packets.Payload.TheVariants as payload
use Rattle.spec_raft.specs.Majority as majorities
use Rattle.spec_raft.specs.Positions as lists
use Rattle.spec_raft.specs.Log as logs
use Rattle.spec_raft.proofs.Placing.{length-change_place, at_place-others}
use Rattle.spec_node.specs.Node as nodes
use Rattle.spec_cluster.specs.Cluster as clusters
use Rattle.spec_transitions.specs.Systems as systems
use Rattle.spec_past.specs.Matching as matchings
use Rattle.spec_past.specs.Polls as polls
use Rattle.spec_past.specs.Past as pasts
use Rattle.spec_past.specs.Later as laters
use Rattle.law_past.proofs.Logs.{agree_term, agree_on, agree_less}
use Rattle.law_past.proofs.Polls.{put_same, put_other, same_or}
use Rattle.law_past.proofs.Later.{quorum_later}
use Rattle.law_agreement.specs.Pasts as agreement_pasts
use Rattle.law_agreement.proofs.Members.{changing, changed_here, none_some}
use Rattle.law_agreement.proofs.Slices.{slice_grows}

-- what becomes of node j
pub record Changes (w v : pasts.Past) (j : ℕ) (x : polls.Voter) (g : List Entry) (c : ℕ) : Type 0 where
  pub member : v.poll.member j ≡ x
  pub log : v.log j ≡ g
  pub commit : v.commit j ≡ c
  pub members : (k : ℕ) → k ≢ j → v.poll.member k ≡ w.poll.member k
  pub logs : (k : ℕ) → k ≢ j → v.log k ≡ w.log k
  pub commits : (k : ℕ) → k ≢ j → v.commit k ≡ w.commit k

pub nothing_changes : (w : pasts.Past) (j : ℕ) → Changes w w j (w.poll.member j) (w.log j) (w.commit j)
nothing_changes w j = record { member = refl; log = refl; commit = refl; members = λ k ne. refl; logs = λ k ne. refl; commits = λ k ne. refl }

pub member_put : (w v : pasts.Past) (j : ℕ) (x : polls.Voter) → v.poll.member ≡ polls.put w.poll.member j x → v.log ≡ w.log → v.commit ≡ w.commit → Changes w v j x (w.log j) (w.commit j)
member_put w v j x em el ec = record {
  member = ap (λ f. f j) em ∙ put_same w.poll.member j x;
  log = ap (λ f. f j) el;
  commit = ap (λ f. f j) ec;
  members = λ k ne. ap (λ f. f k) em ∙ put_other w.poll.member j x k ne;
  logs = λ k ne. ap (λ f. f k) el;
  commits = λ k ne. ap (λ f. f k) ec;
}

pub log_put : (w v : pasts.Past) (j : ℕ) (g : List Entry) → v.poll ≡ w.poll → v.log ≡ polls.put w.log j g → v.commit ≡ w.commit → Changes w v j (w.poll.member j) g (w.commit j)
log_put w v j g ep el ec = record {
  member = ap (λ p. p.member j) ep;
  log = ap (λ f. f j) el ∙ put_same w.log j g;
  commit = ap (λ f. f j) ec;
  members = λ k ne. ap (λ p. p.member k) ep;
  logs = λ k ne. ap (λ f. f k) el ∙ put_other w.log j g k ne;
  commits = λ k ne. ap (λ f. f k) ec;
}

pub commit_put : (w v : pasts.Past) (j c : ℕ) → v.poll ≡ w.poll → v.log ≡ w.log → v.commit ≡ polls.put w.commit j c → Changes w v j (w.poll.member j) (w.log j) c
commit_put w v j c ep el ec = record {
  member = ap (λ p. p.member j) ep;
  log = ap (λ f. f j) el;
  commit = ap (λ f. f j) ec ∙ put_same w.commit j c;
  members = λ k ne. ap (λ p. p.member k) ep;
  logs = λ k ne. ap (λ f. f k) el;
  commits = λ k ne. ap (λ f. f k) ec ∙ put_other w.commit j c k ne;
}

-- one change and then another
pub then_changes : (u w v : pasts.Past) (j : ℕ) (x y : polls.Voter) (g h : List Entry) (c d : ℕ) → Changes u w j x g c → Changes w v j y h d → Changes u v j y h d
then_changes u w v j x y g h c d a b = record {
  member = b.member;
  log = b.log;
  commit = b.commit;
  members = λ k ne. b.members k ne ∙ a.members k ne;
  logs = λ k ne. b.logs k ne ∙ a.logs k ne;
  commits = λ k ne. b.commits k ne ∙ a.commits k ne;
}

like_by : (n k : ℕ) (v x : polls.Voter) (l g : List Entry) (d c : ℕ) (m : clusters.Member) → v ≡ x → l ≡ g → d ≡ c → agreement_pasts.IsLike n k x g c m → agreement_pasts.IsLike n k v l d m
like_by n k v x l g d c m em el ec h = record {
  me = h.me;
  size = h.size;
  term = ap (λ y. y.term) em ∙ h.term;
  vote = ap (λ y. y.vote) em ∙ h.vote;
  role = ap (λ y. y.role) em ∙ h.role;
  votes = λ one u. ap (λ y. y.votes u) em ∙ h.votes one u;
  log = el ∙ h.log;
  commit = ec ∙ h.commit;
}

each_more : {X : Type 0} (P Q : X → Type 0) (xs : List X) → ((x : X) → P x → Q x) → agreement_pasts.Each P xs → agreement_pasts.Each Q xs
each_more P Q [] f e = e
each_more P Q (x ∷ xs) f e = (f x e.0, each_more P Q xs f e.1)

pub leading_later : (n k : ℕ) (w v : pasts.Past) (x : nodes.Node) → laters.Later w v → agreement_pasts.IsLeading n k w x → agreement_pasts.IsLeading n k v x
leading_later n k w v x l h = record {
  peers = h.peers;
  matched = each_more (λ p. p.matched ≤ w.acked x.ballot.term p.node) (λ p. p.matched ≤ v.acked x.ballot.term p.node) x.leading.peers (λ p le. let a = l.acked x.ballot.term p.node in omega (arith, a, le)) h.matched;
  next = h.next;
  self = let a = l.acked x.ballot.term k in let b = h.self in omega (arith, a, b);
}

pub says_later : (w v : pasts.Past) (j k : ℕ) (p : Payload) → laters.Later w v → agreement_pasts.Says w j k p → agreement_pasts.Says v j k p
says_later w v j k (payload.Vote t last last_term) l h =
    let e = sym (l.candidate t j h.some h.runs) in
    record {
      apart = h.apart;
      some = h.some;
      runs = l.cast t j (λ z. h.some (sym h.runs ∙ z)) ∙ h.runs;
      last = h.last ∙ ap (λ g. length g) e;
      last_term = h.last_term ∙ ap (λ g. logs.last_term g) e;
    }
says_later w v j k (payload.VoteReply t true) l h = (h.0, l.cast t j (λ z. h.0 (sym h.1 ∙ z)) ∙ h.1)
says_later w v j k (payload.VoteReply t false) l h = tt
says_later w v j k (payload.Append t prev prev_term commit round es) l h =
    let a = l.led t h.led in
    record {
      led = a.0;
      leader = a.1 ∙ h.leader;
      slice = slice_grows (w.leader_log t) (v.leader_log t) prev es (l.grows t) h.slice;
      before = h.before ∙ agree_term (w.leader_log t) (v.leader_log t) (length (w.leader_log t)) prev h.slice.within (l.grows t);
      told = let b = l.told t in let c = h.told in omega (arith, b, c);
    }
says_later w v j k (payload.AppendReply t true place round) l h = let a = l.acked t j in omega (arith, a, h)
says_later w v j k (payload.AppendReply t false place round) l h = tt
says_later w v j k p l h = tt

pub holds_later : (w v : pasts.Past) (a b : End) (p : Payload) → laters.Later w v → agreement_pasts.Holds w a b p → agreement_pasts.Holds v a b p
holds_later w v (end.Node j) (end.Node k) p l h = says_later w v j k p l h
holds_later w v (end.Node j) (end.Client c) p l h = tt
holds_later w v (end.Client c) b p l h = tt

pub committed_later : (n : ℕ) (w v : pasts.Past) (t p : ℕ) → laters.Later w v → v.committed ≡ w.committed → agreement_pasts.IsCommittedBy n w t p → agreement_pasts.IsCommittedBy n v t p
committed_later n w v t p l same h = record {
  place = h.place;
  within = h.within;
  quorum = quorum_later (majorities.cluster_of n) w v t h.place l h.quorum;
  agrees = subst (λ c. matchings.Agree c (v.leader_log t) p) (sym same) (agree_on w.committed (w.leader_log t) (v.leader_log t) p h.agrees (agree_less (w.leader_log t) (v.leader_log t) (length (w.leader_log t)) p h.agrees.right (l.grows t)));
}

-- member j becomes m
pub member_changes : (n : ℕ) (s : systems.System) (w v : pasts.Past) (j : ℕ) (x : polls.Voter) (g : List Entry) (c : ℕ) (old m : clusters.Member)
    → ax_types_lists.at_place s.cluster.members j ≡ Some old → agreement_pasts.IsPastOf n s w → laters.Later w v → v.committed ≡ w.committed → Changes w v j x g c → agreement_pasts.IsLike n j x g c m → (agreement_pasts.role_number m.node.role ≡ 2 → agreement_pasts.IsLeading n j v m.node)
    → agreement_pasts.IsPastOf n (systems.member_changed s j m) v
member_changes n s w v j x g c old m at i l same ch like leads = record {
  long = length-change_place (λ o. m) s.cluster.members j ∙ i.long;
  members = changing (λ k y. agreement_pasts.IsLike n k (v.poll.member k) (v.log k) (v.commit k) y) s.cluster.members j old m at
      (like_by n j (v.poll.member j) x (v.log j) g (v.commit j) c m ch.member ch.log ch.commit like)
      (λ k y ne h. like_by n k (v.poll.member k) (w.poll.member k) (v.log k) (w.log k) (v.commit k) (w.commit k) y (ch.members k ne) (ch.logs k ne) (ch.commits k ne) (i.members k y h));
  bare = λ k none. elim (same_or k j) [
    | inl e ↦ absurd (none_some m (sym none ∙ ap (ax_types_lists.at_place (lists.change_place (λ o. m) s.cluster.members j)) e ∙ changed_here s.cluster.members j old m at))
    | inr ne ↦ ch.logs k ne ∙ i.bare k (sym (at_place-others (λ o. m) s.cluster.members j k (λ z. ne (sym z))) ∙ none)
  ];
  leaders = changing (λ k y. agreement_pasts.role_number y.node.role ≡ 2 → agreement_pasts.IsLeading n k v y.node) s.cluster.members j old m at leads
      (λ k y ne h two. leading_later n k w v y.node l (i.leaders k y h two));
  packets = λ p a. holds_later w v p.«from» p.to p.payload l (i.packets p a);
  committed = same ∙ i.committed;
  counted = i.counted;
  terms = λ p t h. committed_later n w v t p l same (i.terms p t h);
  leds = λ k y h. let a = i.leds k y h in let b = l.led y.term a.0 in (b.0, b.1 ∙ a.1);
  once = i.once;
}
