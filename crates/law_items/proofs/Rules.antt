-- Who leads after a rule led before in that term, or is told to lead; and only a read is reached.
use Rattle.std.proofs.Common.{◌≡◌, ℕ, suc, List, [], ◌∷◌, ◌++◌, refl, sym, ◌∙◌, inl, inr}
use Rattle.std.specs.Prelude.{◌⊎◌, Bool, true, false, ◌&&◌, not, nat_eq, nat_lt, min, ◌-◌, Option, Some, None, length, if◌then◌else◌}
use Rattle.ax_types.specs.declared.entries.Entry.{Entry}
use Rattle.ax_types.specs.declared.packets.Payload.{Payload}
use Rattle.ax_types.specs.declared.packets.Payload.TheVariants as payload
use Rattle.ax_types.specs.declared.raft.RaftInput.{RaftInput}
use Rattle.ax_types.specs.declared.raft.RaftInput.TheVariants as input
use Rattle.spec_raft.specs.Majority as majorities
use Rattle.spec_raft.specs.Log as logs
use Rattle.spec_raft.specs.Ballot as ballots
use Rattle.spec_raft.specs.Progress as progress
use Rattle.spec_node.specs.Node as nodes
use Rattle.spec_node.specs.NodeStep as steps
use Rattle.law_refinement.proofs.Tests.{by_test}
use Rattle.law_growth.proofs.Cases.{true_false}

-- a node that leads no more than another
abbrev pub LeadsAs : nodes.Node → nodes.Node → Type 0
LeadsAs n a = nodes.is_leader a ≡ true → (nodes.is_leader n ≡ true) × (a.ballot.term ≡ n.ballot.term)

pub record Rule (n : nodes.Node) (d : nodes.Did) : Type 0 where
  pub leads : nodes.is_leader d.node ≡ true → (d.led ≡ true) ⊎ ((nodes.is_leader n ≡ true) × (d.node.ballot.term ≡ n.ballot.term))
  pub reached : d.reached ≡ None

after : (n m : nodes.Node) (d : nodes.Did) → LeadsAs n m → Rule m d → Rule n d
after n m d g r = record { leads = λ h. elim (r.leads h) [ inl l ↦ inl l | inr b ↦ inr ((g b.0).0, b.1 ∙ (g b.0).1) ]; reached = r.reached }

-- a term that is seen
seen_as : (n : nodes.Node) (term : ℕ) → LeadsAs n (nodes.seen n term)
seen_as n term =
    by_test (LeadsAs n) (ballots.is_above n.ballot term) (record n { ballot = ballots.seen_ballot n.ballot term; role = nodes.Follower; leader = None; leading = nodes.not_leading }) n
    (λ e h. true_false (sym h)) (λ e h. (h, refl))

led_rule : (n c : nodes.Node) (clock : ℕ) → Rule n (nodes.led c clock)
led_rule n c clock = record { leads = λ h. inl refl; reached = refl }

elects : (n : nodes.Node) (clock : ℕ) → Rule n (nodes.candidacy n clock)
elects n clock =
    let c : nodes.Node = nodes.candidate n in
    by_test (Rule n) (ballots.is_elected c.ballot) (nodes.led c clock) (nodes.sending c (nodes.vote_requests c)) (λ e. led_rule n c clock) (λ e. record { leads = λ h. true_false (sym h); reached = refl })

asked : (n : nodes.Node) (from term last last_term : ℕ) → Rule n (nodes.vote_asked n from term last last_term)
asked n from term last last_term =
    let b : ballots.Ballot = ballots.granted n.ballot n.log term from last last_term in
    let same : b.term ≡ n.ballot.term = by_test (λ x. x.term ≡ n.ballot.term) (ballots.is_granted n.ballot n.log term from last last_term) (record n.ballot { vote = Some from }) n.ballot (λ e. refl) (λ e. refl) in
    record { leads = λ h. inr (h, same); reached = refl }

counted : (n : nodes.Node) (from clock : ℕ) → Rule n (nodes.vote_counted n from clock)
counted n from clock =
    let m : nodes.Node = record n { ballot = ballots.counted n.ballot from } in
    let same : m.ballot.term ≡ n.ballot.term = by_test (λ x. x.term ≡ n.ballot.term) (majorities.is_in n.ballot.votes from) n.ballot (record n.ballot { votes = n.ballot.votes ++ from ∷ [] }) (λ e. refl) (λ e. refl) in
    by_test (Rule n) (ballots.is_winning n.ballot from) (nodes.led m clock) (nodes.nothing_done m) (λ e. led_rule n m clock) (λ e. record { leads = λ h. inr (h, same); reached = refl })

nothing : (n : nodes.Node) → Rule n (nodes.nothing_done n)
nothing n = record { leads = λ h. inr (h, refl); reached = refl }

vote_heeded : (n : nodes.Node) (from clock term : ℕ) (is_given : Bool) → Rule n (nodes.vote_heeded n from clock term is_given)
vote_heeded n from clock term is_given = by_test (Rule n) (nat_eq term n.ballot.term && nodes.is_candidate n && is_given) (nodes.vote_counted n from clock) (nodes.nothing_done n) (λ e. counted n from clock) (λ e. nothing n)

-- of a node that follows
follows : (n f : nodes.Node) (prev prev_term commit round from : ℕ) (es : List Entry) → nodes.is_leader f ≡ false → Rule n (nodes.append_followed f from prev prev_term commit round es)
follows n f prev prev_term commit round from es idle =
    by_test (Rule n) (not (logs.match_at f.log prev prev_term)) (nodes.sending f (nodes.reply_to f from false (min (prev - 1) (length f.log)) round ∷ []))
    (if nodes.is_committed f (logs.first_conflict f.log prev es) then nodes.nothing_done f else nodes.sent_taken f from prev commit round es)
    (λ e. record { leads = λ h. true_false (sym h ∙ idle); reached = refl })
    (λ e. by_test (Rule n) (nodes.is_committed f (logs.first_conflict f.log prev es)) (nodes.nothing_done f) (nodes.sent_taken f from prev commit round es)
    (λ g. record { leads = λ h. true_false (sym h ∙ idle); reached = refl }) (λ g. record { leads = λ h. true_false (sym h ∙ idle); reached = refl }))

append_heeded : (n : nodes.Node) (from term prev prev_term commit round : ℕ) (es : List Entry) → Rule n (nodes.append_heeded n from term prev prev_term commit round es)
append_heeded n from term prev prev_term commit round es =
    let f : nodes.Node = nodes.followed n from in
    by_test (Rule n) (nat_lt term n.ballot.term) (nodes.sending n (nodes.reply_to n from false 0 0 ∷ []))
    (if nodes.is_leader n then nodes.nothing_done n else nodes.append_followed f from prev prev_term commit round es)
    (λ e. record { leads = λ h. inr (h, refl); reached = refl })
    (λ e. by_test (Rule n) (nodes.is_leader n) (nodes.nothing_done n) (nodes.append_followed f from prev prev_term commit round es) (λ l. nothing n) (λ l. follows n f prev prev_term commit round from es refl))

answered : (n : nodes.Node) (from term : ℕ) (ok : Bool) (place round : ℕ) → Rule n (nodes.append_answered n from term ok place round)
answered n from term ok place round =
    let m : nodes.Node = nodes.with_peers n (progress.accepted n.leading.peers from place round (length n.log)) in
    let r : nodes.Node = nodes.with_peers n (progress.refused n.leading.peers from place round) in
    by_test (Rule n) (nodes.is_leader n && nat_eq term n.ballot.term) (if ok then nodes.append_accepted n from place round else nodes.append_refused n from place round) (nodes.nothing_done n)
    (λ e. by_test (Rule n) ok (nodes.append_accepted n from place round) (nodes.append_refused n from place round)
    (λ f. by_test (Rule n) (progress.is_accepted n.leading.peers from place (length n.log)) (nodes.sending (nodes.advanced m) (nodes.more_to (nodes.advanced m) from)) (nodes.nothing_done m)
    (λ g. record { leads = λ h. inr (h, refl); reached = refl }) (λ g. record { leads = λ h. inr (h, refl); reached = refl }))
    (λ f. by_test (Rule n) (progress.is_refused n.leading.peers from place) (nodes.sending r (nodes.sent_to r from ∷ [])) (nodes.nothing_done r)
    (λ g. record { leads = λ h. inr (h, refl); reached = refl }) (λ g. record { leads = λ h. inr (h, refl); reached = refl })))
    (λ e. nothing n)

heeded : (n : nodes.Node) (from clock : ℕ) (p : Payload) → Rule n (steps.packet_heeded n from clock p)
heeded n from clock (payload.Vote term last last_term) = let m = nodes.seen n term in after n m (nodes.vote_asked m from term last last_term) (seen_as n term) (asked m from term last last_term)
heeded n from clock (payload.VoteReply term is_given) = let m = nodes.seen n term in after n m (nodes.vote_heeded m from clock term is_given) (seen_as n term) (vote_heeded m from clock term is_given)
heeded n from clock (payload.Append term prev prev_term commit round es) = let m = nodes.seen n term in after n m (nodes.append_heeded m from term prev prev_term commit round es) (seen_as n term) (append_heeded m from term prev prev_term commit round es)
heeded n from clock (payload.AppendReply term ok place round) = let m = nodes.seen n term in after n m (nodes.append_answered m from term ok place round) (seen_as n term) (answered m from term ok place round)
heeded n from clock (payload.Register xa xb) = nothing n
heeded n from clock (payload.Keep xa xb xc xd) = nothing n
heeded n from clock (payload.Command xa xb xc xd xe) = nothing n
heeded n from clock (payload.Close xa xb) = nothing n
heeded n from clock (payload.Query xa xb xc xd xe xf xg xh) = nothing n
heeded n from clock (payload.Connect xa xb xc) = nothing n
heeded n from clock (payload.Reset xa xb xc) = nothing n
heeded n from clock (payload.Opened xa xb) = nothing n
heeded n from clock (payload.Reply xa xb xc xd xe) = nothing n
heeded n from clock (payload.Gap xa xb) = nothing n
heeded n from clock (payload.Answer xa xb xc xd xe xf xg xh) = nothing n
heeded n from clock (payload.Batch xa xb xc xd) = nothing n
heeded n from clock (payload.Ended xa xb xc) = nothing n

pub leads_after : (n : nodes.Node) (i : RaftInput) → nodes.is_leader (steps.did n i).node ≡ true → ((steps.did n i).led ≡ true) ⊎ ((nodes.is_leader n ≡ true) × ((steps.did n i).node.ballot.term ≡ n.ballot.term))
leads_after n (input.Elect clock) h = (elects n clock).leads h
leads_after n input.Beat h = inr (h, refl)
leads_after n (input.Append clock bodies) h = inr (h, refl)
leads_after n input.Read h = (read_leads n) h
  where
    read_leads : (n : nodes.Node) → nodes.is_leader (nodes.read_arrived n).node ≡ true → ((nodes.read_arrived n).led ≡ true) ⊎ ((nodes.is_leader n ≡ true) × ((nodes.read_arrived n).node.ballot.term ≡ n.ballot.term))
    read_leads n = by_test (λ d. nodes.is_leader d.node ≡ true → (d.led ≡ true) ⊎ ((nodes.is_leader n ≡ true) × (d.node.ballot.term ≡ n.ballot.term))) (progress.has_read_room n.leading.reads)
        (record (nodes.nothing_done (nodes.read_taken n)) { reached = Some (suc n.leading.arrivals) }) (nodes.nothing_done n) (λ e h. inr (h, refl)) (λ e h. inr (h, refl))
leads_after n (input.Message from clock p) h = (heeded n from clock p).leads h

-- only a read is reached, and in the term of its leader
abbrev pub IfRead : RaftInput → Type 0 → Type 0
IfRead (input.Elect clock) none = none
IfRead input.Beat none = none
IfRead (input.Append clock bodies) none = none
IfRead input.Read none = Unit {0}
IfRead (input.Message from clock p) none = none

pub reached_none : (n : nodes.Node) (i : RaftInput) → IfRead i ((steps.did n i).reached ≡ None)
reached_none n (input.Elect clock) = (elects n clock).reached
reached_none n input.Beat = refl
reached_none n (input.Append clock bodies) = refl
reached_none n input.Read = tt
reached_none n (input.Message from clock p) = (heeded n from clock p).reached

pub read_term : (n : nodes.Node) → (nodes.read_arrived n).node.ballot ≡ n.ballot
read_term n = by_test (λ d. d.node.ballot ≡ n.ballot) (progress.has_read_room n.leading.reads) (record (nodes.nothing_done (nodes.read_taken n)) { reached = Some (suc n.leading.arrivals) }) (nodes.nothing_done n) (λ e. refl) (λ e. refl)

pub read_commit : (n : nodes.Node) → (nodes.read_arrived n).node.commit ≡ n.commit
read_commit n = by_test (λ d. d.node.commit ≡ n.commit) (progress.has_read_room n.leading.reads) (record (nodes.nothing_done (nodes.read_taken n)) { reached = Some (suc n.leading.arrivals) }) (nodes.nothing_done n) (λ e. refl) (λ e. refl)
