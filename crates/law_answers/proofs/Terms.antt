-- A leader that takes an input keeps its term, or leads no more and has no read.
use Rattle.std.proofs.Common.{◌≡◌, ◌⊎◌, ℕ, suc, Bool, true, false, cond, not, ◌&&◌, nat_lt, nat_eq, List, [], ◌∷◌, Option, Some, None, length, refl, sym, ap, subst, inl, inr}
use Rattle.ax_types.specs.declared.entries.Entry.{Entry}
use Rattle.ax_types.specs.declared.packets.Payload.{Payload}
use Rattle.ax_types.specs.declared.packets.Payload.TheVariants as payload
use Rattle.ax_types.specs.declared.raft.RaftInput.{RaftInput}
use Rattle.ax_types.specs.declared.raft.RaftInput.TheVariants as raft_input
use Rattle.spec_raft.specs.Log as logs
use Rattle.spec_raft.specs.Ballot as ballots
use Rattle.spec_raft.specs.Progress as progress
use Rattle.spec_node.specs.Node as nodes
use Rattle.spec_node.specs.NodeStep as node_steps
use Rattle.spec_server.specs.ServerStep as server_steps
use Rattle.law_told.proofs.Lists.{by_test}

pub record SameTerm (n m : nodes.Node) : Type 0 where
  pub leads : nodes.is_leader m ≡ true
  pub term : m.ballot.term ≡ n.ballot.term
  pub me : m.ballot.me ≡ n.ballot.me

pub record IsDown (m : nodes.Node) : Type 0 where
  pub idle : nodes.is_leader m ≡ false
  pub reads : m.leading.reads ≡ []

abbrev pub Stays : nodes.Node → nodes.Node → Type 0
Stays n m = SameTerm n m ⊎ IsDown m

abbrev After : nodes.Node → nodes.Did → Type 0
After n d = Stays n d.node

same : (n : nodes.Node) → nodes.is_leader n ≡ true → SameTerm n n
same n l = record { leads = l; term = refl; me = refl }

-- one that follows, and has no read
abbrev Follows : nodes.Did → Type 0
Follows d = IsDown d.node

grants : (n m : nodes.Node) (t j last last_term : ℕ) → SameTerm n m → SameTerm n (record m { ballot = ballots.granted m.ballot m.log t j last last_term })
grants n m t j last last_term k =
    by_test (λ (b : ballots.Ballot). SameTerm n (record m { ballot = b })) (ballots.is_granted m.ballot m.log t j last last_term) (record m.ballot { vote = Some j }) m.ballot
    (λ e. record { leads = k.leads; term = k.term; me = k.me }) (λ e. record { leads = k.leads; term = k.term; me = k.me })

no_candidate : (r : nodes.Role) → nodes.is_leading r ≡ true → nodes.is_running r ≡ false
no_candidate nodes.Leader e = refl
no_candidate nodes.Candidate e = absurd (cc)
no_candidate nodes.Follower e = refl

and_not : (a b c : Bool) → b ≡ false → (a && b && c) ≡ false
and_not true true c e = absurd (cc)
and_not true false c e = refl
and_not false b c e = refl

-- what a follower does
follow_appends : (m : nodes.Node) (j prev prev_term commit round : ℕ) (es : List Entry) → IsDown m → Follows (nodes.append_followed m j prev prev_term commit round es)
follow_appends m j prev prev_term commit round es k =
    by_test Follows (not (logs.match_at m.log prev prev_term)) _ _ (λ e. k)
    (λ e. by_test Follows (nodes.is_committed m (logs.first_conflict m.log prev es)) (nodes.nothing_done m) (nodes.sent_taken m j prev commit round es) (λ f. k) (λ f. record { idle = k.idle; reads = k.reads }))

follow_takes : (m : nodes.Node) (j t prev prev_term commit round : ℕ) (es : List Entry) → IsDown m → Follows (nodes.append_heeded m j t prev prev_term commit round es)
follow_takes m j t prev prev_term commit round es k =
    by_test Follows (nat_lt t m.ballot.term) _ _ (λ e. k)
    (λ e. by_test Follows (nodes.is_leader m) (nodes.nothing_done m) (nodes.append_followed (nodes.followed m j) j prev prev_term commit round es) (λ f. k) (λ f. follow_appends (nodes.followed m j) j prev prev_term commit round es (record { idle = refl; reads = k.reads })))

follow_hears : (m : nodes.Node) (j t : ℕ) (ok : Bool) (place round : ℕ) → IsDown m → Follows (nodes.append_answered m j t ok place round)
follow_hears m j t ok place round k =
    subst (λ b. Follows (cond (b && nat_eq t m.ballot.term) (cond ok (nodes.append_accepted m j place round) (nodes.append_refused m j place round)) (nodes.nothing_done m))) (sym k.idle) k

-- what a leader does
lead_takes : (n : nodes.Node) (j t prev prev_term commit round : ℕ) (es : List Entry) → nodes.is_leader n ≡ true → After n (nodes.append_heeded n j t prev prev_term commit round es)
lead_takes n j t prev prev_term commit round es l =
    by_test (After n) (nat_lt t n.ballot.term) _ _ (λ e. inl (same n l))
    (λ e. by_test (After n) (nodes.is_leader n) (nodes.nothing_done n) (nodes.append_followed (nodes.followed n j) j prev prev_term commit round es) (λ f. inl (same n l)) (λ f. absurd (cc)))

lead_accepts : (n : nodes.Node) (j place round : ℕ) → nodes.is_leader n ≡ true → After n (nodes.append_accepted n j place round)
lead_accepts n j place round l =
    let x : nodes.Node = nodes.with_peers n (progress.accepted n.leading.peers j place round (length n.log)) in
    by_test (After n) (progress.is_accepted n.leading.peers j place (length n.log)) (nodes.sending (nodes.advanced x) (nodes.more_to (nodes.advanced x) j)) (nodes.nothing_done x)
    (λ e. inl (record { leads = l; term = refl; me = refl })) (λ e. inl (record { leads = l; term = refl; me = refl }))

lead_refuses : (n : nodes.Node) (j place round : ℕ) → nodes.is_leader n ≡ true → After n (nodes.append_refused n j place round)
lead_refuses n j place round l =
    let x : nodes.Node = nodes.with_peers n (progress.refused n.leading.peers j place round) in
    by_test (After n) (progress.is_refused n.leading.peers j place) (nodes.sending x (nodes.sent_to x j ∷ [])) (nodes.nothing_done x)
    (λ e. inl (record { leads = l; term = refl; me = refl })) (λ e. inl (record { leads = l; term = refl; me = refl }))

lead_hears : (n : nodes.Node) (j t : ℕ) (ok : Bool) (place round : ℕ) → nodes.is_leader n ≡ true → After n (nodes.append_answered n j t ok place round)
lead_hears n j t ok place round l =
    by_test (After n) (nodes.is_leader n && nat_eq t n.ballot.term) (cond ok (nodes.append_accepted n j place round) (nodes.append_refused n j place round)) (nodes.nothing_done n)
    (λ e. by_test (After n) ok (nodes.append_accepted n j place round) (nodes.append_refused n j place round) (λ f. lead_accepts n j place round l) (λ f. lead_refuses n j place round l)) (λ e. inl (same n l))

lead_votes : (n : nodes.Node) (j clock t : ℕ) (g : Bool) → nodes.is_leader n ≡ true → After n (nodes.vote_heeded n j clock t g)
lead_votes n j clock t g l =
    subst (λ b. After n (cond b (nodes.vote_counted n j clock) (nodes.nothing_done n))) (sym (and_not (nat_eq t n.ballot.term) (nodes.is_candidate n) g (no_candidate n.role l))) (inl (same n l))

-- a term that is seen
abbrev fallen : nodes.Node → ℕ → nodes.Node
fallen n t = record n { ballot = ballots.seen_ballot n.ballot t; role = nodes.Follower; leader = None; leading = nodes.not_leading }

seeing : (n : nodes.Node) (t : ℕ) (f : nodes.Node → nodes.Did) → (IsDown (fallen n t) → Follows (f (fallen n t))) → After n (f n) → After n (f (nodes.seen n t))
seeing n t f fell stood = by_test (λ (m : nodes.Node). After n (f m)) (ballots.is_above n.ballot t) (record n { ballot = ballots.seen_ballot n.ballot t; role = nodes.Follower; leader = None; leading = nodes.not_leading }) n (λ e. inr (fell (record { idle = refl; reads = refl }))) (λ e. stood)

heeds : (n : nodes.Node) (j clock : ℕ) (p : Payload) → nodes.is_leader n ≡ true → After n (node_steps.packet_heeded n j clock p)
heeds n j clock (payload.Vote t l lt) k = seeing n t (λ m. nodes.vote_asked m j t l lt) (λ d. record { idle = d.idle; reads = d.reads }) (inl (grants n n t j l lt (same n k)))
heeds n j clock (payload.VoteReply t g) k = seeing n t (λ m. nodes.vote_heeded m j clock t g) (λ d. subst (λ b. Follows (cond b (nodes.vote_counted (fallen n t) j clock) (nodes.nothing_done (fallen n t)))) (sym (and_not (nat_eq t (fallen n t).ballot.term) (nodes.is_candidate (fallen n t)) g refl)) d) (lead_votes n j clock t g k)
heeds n j clock (payload.Append t prev prev_term commit round es) k = seeing n t (λ m. nodes.append_heeded m j t prev prev_term commit round es) (λ d. follow_takes (fallen n t) j t prev prev_term commit round es d) (lead_takes n j t prev prev_term commit round es k)
heeds n j clock (payload.AppendReply t ok p r) k = seeing n t (λ m. nodes.append_answered m j t ok p r) (λ d. follow_hears (fallen n t) j t ok p r d) (lead_hears n j t ok p r k)
heeds n j clock p k = inl (same n k)

-- all but an election
abbrev pub IsNoElection : RaftInput → Type 0
IsNoElection (raft_input.Elect clock) = ⊥
IsNoElection i = Unit {0}

did_stays : (n : nodes.Node) (i : RaftInput) → IsNoElection i → nodes.is_leader n ≡ true → After n (node_steps.did n i)
did_stays n (raft_input.Elect clock) e l = absurd e
did_stays n raft_input.Beat e l = inl (record { leads = l; term = refl; me = refl })
did_stays n (raft_input.Append clock bodies) e l = inl (record { leads = l; term = refl; me = refl })
did_stays n raft_input.Read e l =
    by_test (After n) (progress.has_read_room n.leading.reads) (record (nodes.nothing_done (nodes.read_taken n)) { reached = Some (suc n.leading.arrivals) }) (nodes.nothing_done n) (λ f. inl (record { leads = l; term = refl; me = refl })) (λ f. inl (same n l))
did_stays n (raft_input.Message j clock p) e l = heeds n j clock p l

-- a node that leads before an input
pub data LeadsOn (n m : nodes.Node) (reads : List (ℕ × ℕ)) : Type 0 where
  Same : nodes.is_leader m ≡ true → m.ballot.term ≡ n.ballot.term → m.ballot.me ≡ n.ballot.me → LeadsOn n m reads
  Fell : nodes.is_leader m ≡ false → reads ≡ [] → LeadsOn n m reads

leads_by : (n : nodes.Node) (d : nodes.Did) → After n d → LeadsOn n (node_steps.without_given d.node) (node_steps.out_of n d).reads
leads_by n d (inl k) = Same k.leads k.term k.me
leads_by n d (inr k) = Fell k.idle (ap (λ rs. progress.ready_reads rs (progress.confirmed_round d.node.leading.peers) d.node.commit) k.reads)

abbrev pub NoElectionIn : Option RaftInput → Type 0
NoElectionIn None = Unit {0}
NoElectionIn (Some i) = IsNoElection i

pub leads_on : (n : nodes.Node) (i : Option RaftInput) → NoElectionIn i → nodes.is_leader n ≡ true → LeadsOn n (server_steps.raft_after n i) (server_steps.raft_out n i).reads
leads_on n None e l = Same l refl refl
leads_on n (Some i) e l = leads_by n (node_steps.did n i) (did_stays n i e l)
