-- What the rules of a node add and send was in its log, in its packet, or is new by its input.
use Rattle.std.proofs.Common.{◌≡◌, ℕ, zero, suc, ◌-◌, ◌≤◌, List, [], ◌∷◌, ◌++◌, length, take, drop, map, refl, ap, sym, ◌∙◌, subst}
use Rattle.std.specs.Prelude.{Bool, true, false, ◌&&◌, not, nat_eq, nat_lt, nat_le, min, max, Option, Some, None, slice_get, if◌then◌else◌}
use Rattle.std.specs.List.{AllByRecursion}
use Rattle.ax_types.specs.declared.entries.Body.{Body}
use Rattle.ax_types.specs.declared.entries.Body.TheVariants as body
use Rattle.ax_types.specs.declared.entries.Entry.{Entry}
use Rattle.ax_types.specs.declared.entries.Loaded.{Loaded}
use Rattle.ax_types.specs.declared.packets.Packet.{Packet}
use Rattle.ax_types.specs.declared.packets.Payload.{Payload}
use Rattle.ax_types.specs.declared.packets.Payload.TheVariants as payload
use Rattle.ax_types.specs.declared.raft.RaftInput.{RaftInput}
use Rattle.ax_types.specs.declared.raft.RaftInput.TheVariants as asked
use Rattle.ax_types.specs.declared.raft.Saves.{Saves}
use Rattle.spec_raft.specs.Log as logs
use Rattle.spec_raft.specs.Ballot as votes
use Rattle.spec_raft.specs.Progress as progress
use Rattle.spec_node.specs.Node as nodes
use Rattle.spec_node.specs.NodeStep as steps
use Rattle.spec_node.specs.Saving as saving
use Rattle.law_origin.proofs.Following.{did_log}
use Rattle.law_origin.specs.Origin.{entries_in}
use Rattle.law_origin.proofs.Each.{by_test, each_append, each_take, each_drop, each_map}

-- the entries that a rule adds and those of the packets that it sends
pub record Brings (P : Entry → Type 0) (d : nodes.Did) : Type 0 where
  pub add : AllByRecursion P d.add
  pub packets : AllByRecursion (λ p. AllByRecursion P (entries_in p.payload)) d.packets

-- what an input may bring to a node
abbrev pub MayBring : (Entry → Type 0) → nodes.Node → RaftInput → Type 0
MayBring P n (asked.Append clock bodies) = (time : ℕ) → AllByRecursion P (nodes.entries_of n.ballot.term time bodies)
MayBring P n (asked.Message from clock p) = AllByRecursion P (entries_in p)
MayBring P n i = Unit {0}

quiet : (P : Entry → Type 0) (n : nodes.Node) → Brings P (nodes.nothing_done n)
quiet P n = record { add = tt; packets = tt }

-- a leader's packet holds a part of its log
sends : (P : Entry → Type 0) (n : nodes.Node) (k : ℕ) → AllByRecursion P n.log → AllByRecursion P (entries_in (nodes.sent_to n k).payload)
sends P n k a = each_take P logs.most_entries (drop (suc (progress.next_place_of n.leading.peers k - 1) - 1) n.log) (each_drop P (suc (progress.next_place_of n.leading.peers k - 1) - 1) n.log a)

led_brings : (P : Entry → Type 0) (n : nodes.Node) (clock : ℕ) → ((e : Entry) → e.body ≡ body.Blank → P e) → Brings P (nodes.led n clock)
led_brings P n clock blank = record { add = (blank (record { term = n.ballot.term; time = nodes.time_for n clock; body = body.Blank }) refl, tt); packets = tt }

candidacy_brings : (P : Entry → Type 0) (n : nodes.Node) (clock : ℕ) → ((e : Entry) → e.body ≡ body.Blank → P e) → Brings P (nodes.candidacy n clock)
candidacy_brings P n clock blank =
    let c = nodes.candidate n in
    by_test (Brings P) (votes.is_elected c.ballot) (nodes.led c clock) (nodes.sending c (nodes.vote_requests c)) (λ e. led_brings P c clock blank)
    (λ e. record { add = tt; packets = each_map (λ (p : Packet). AllByRecursion P (entries_in p.payload)) (λ k. nodes.to_node c k (payload.Vote c.ballot.term (length c.log) (logs.last_term c.log))) (nodes.each_other c) (λ k. tt) })

read_brings : (P : Entry → Type 0) (n : nodes.Node) (b : Bool) → Brings P (if b then record (nodes.nothing_done (nodes.read_taken n)) { reached = Some (suc n.leading.arrivals) } else nodes.nothing_done n)
read_brings P n true = record { add = tt; packets = tt }
read_brings P n false = record { add = tt; packets = tt }

counted_brings : (P : Entry → Type 0) (n : nodes.Node) (from clock : ℕ) → ((e : Entry) → e.body ≡ body.Blank → P e) → Brings P (nodes.vote_counted n from clock)
counted_brings P n from clock blank =
    let m : nodes.Node = record n { ballot = votes.counted n.ballot from } in
    by_test (Brings P) (votes.is_winning n.ballot from) (nodes.led m clock) (nodes.nothing_done m) (λ e. led_brings P m clock blank) (λ e. quiet P m)

vote_brings : (P : Entry → Type 0) (n : nodes.Node) (from clock t : ℕ) (is_given : Bool) → ((e : Entry) → e.body ≡ body.Blank → P e) → Brings P (nodes.vote_heeded n from clock t is_given)
vote_brings P n from clock t is_given blank = by_test (Brings P) (nat_eq t n.ballot.term && nodes.is_candidate n && is_given) (nodes.vote_counted n from clock) (nodes.nothing_done n) (λ e. counted_brings P n from clock blank) (λ e. quiet P n)

replies : (P : Entry → Type 0) (n m : nodes.Node) (from : ℕ) (ok : Bool) (place round : ℕ) → Brings P (nodes.sending n (nodes.reply_to m from ok place round ∷ []))
replies P n m from ok place round = record { add = tt; packets = (tt, tt) }

taken_brings : (P : Entry → Type 0) (n : nodes.Node) (from prev commit round : ℕ) (es : List Entry) → AllByRecursion P es → Brings P (nodes.sent_taken n from prev commit round es)
taken_brings P n from prev commit round es a = record { add = each_drop P (length (logs.stays n.log prev es) - prev) es a; packets = (tt, tt) }

followed_brings : (P : Entry → Type 0) (n : nodes.Node) (from prev prev_term commit round : ℕ) (es : List Entry) → AllByRecursion P es → Brings P (nodes.append_followed n from prev prev_term commit round es)
followed_brings P n from prev prev_term commit round es a =
    let later : nodes.Did = if nodes.is_committed n (logs.first_conflict n.log prev es) then nodes.nothing_done n else nodes.sent_taken n from prev commit round es in
    by_test (Brings P) (not (logs.match_at n.log prev prev_term)) (nodes.sending n (nodes.reply_to n from false (min (prev - 1) (length n.log)) round ∷ [])) later
    (λ e. replies P n n from false (min (prev - 1) (length n.log)) round)
    (λ e. by_test (Brings P) (nodes.is_committed n (logs.first_conflict n.log prev es)) (nodes.nothing_done n) (nodes.sent_taken n from prev commit round es) (λ f. quiet P n) (λ f. taken_brings P n from prev commit round es a))

append_brings : (P : Entry → Type 0) (n : nodes.Node) (from t prev prev_term commit round : ℕ) (es : List Entry) → AllByRecursion P es → Brings P (nodes.append_heeded n from t prev prev_term commit round es)
append_brings P n from t prev prev_term commit round es a =
    let next : nodes.Did = nodes.append_followed (nodes.followed n from) from prev prev_term commit round es in
    by_test (Brings P) (nat_lt t n.ballot.term) (nodes.sending n (nodes.reply_to n from false 0 0 ∷ [])) (if nodes.is_leader n then nodes.nothing_done n else next)
    (λ e. replies P n n from false 0 0)
    (λ e. by_test (Brings P) (nodes.is_leader n) (nodes.nothing_done n) next (λ f. quiet P n) (λ f. followed_brings P (nodes.followed n from) from prev prev_term commit round es a))

more_brings : (P : Entry → Type 0) (n : nodes.Node) (k : ℕ) → AllByRecursion P n.log → AllByRecursion (λ p. AllByRecursion P (entries_in p.payload)) (nodes.more_to n k)
more_brings P n k a = by_test (AllByRecursion (λ (p : Packet). AllByRecursion P (entries_in p.payload))) (nat_le (progress.next_place_of n.leading.peers k) (length n.log)) (nodes.sent_to n k ∷ []) [] (λ e. (sends P n k a, tt)) (λ e. tt)

accepted_brings : (P : Entry → Type 0) (n : nodes.Node) (from place round : ℕ) → AllByRecursion P n.log → Brings P (nodes.append_accepted n from place round)
accepted_brings P n from place round a =
    let m = nodes.with_peers n (progress.accepted n.leading.peers from place round (length n.log)) in
    by_test (Brings P) (progress.is_accepted n.leading.peers from place (length n.log)) (nodes.sending (nodes.advanced m) (nodes.more_to (nodes.advanced m) from)) (nodes.nothing_done m)
    (λ e. record { add = tt; packets = more_brings P (nodes.advanced m) from a }) (λ e. quiet P m)

refused_brings : (P : Entry → Type 0) (n : nodes.Node) (from place round : ℕ) → AllByRecursion P n.log → Brings P (nodes.append_refused n from place round)
refused_brings P n from place round a =
    let m = nodes.with_peers n (progress.refused n.leading.peers from place round) in
    by_test (Brings P) (progress.is_refused n.leading.peers from place) (nodes.sending m (nodes.sent_to m from ∷ [])) (nodes.nothing_done m) (λ e. record { add = tt; packets = (sends P m from a, tt) }) (λ e. quiet P m)

answered_brings : (P : Entry → Type 0) (n : nodes.Node) (from t : ℕ) (ok : Bool) (place round : ℕ) → AllByRecursion P n.log → Brings P (nodes.append_answered n from t ok place round)
answered_brings P n from t ok place round a =
    by_test (Brings P) (nodes.is_leader n && nat_eq t n.ballot.term) (if ok then nodes.append_accepted n from place round else nodes.append_refused n from place round) (nodes.nothing_done n)
    (λ e. by_test (Brings P) ok (nodes.append_accepted n from place round) (nodes.append_refused n from place round) (λ f. accepted_brings P n from place round a) (λ f. refused_brings P n from place round a))
    (λ e. quiet P n)

seen_keeps : (P : Entry → Type 0) (n : nodes.Node) (t : ℕ) → AllByRecursion P n.log → AllByRecursion P (nodes.seen n t).log
seen_keeps P n t a = by_test (λ (m : nodes.Node). AllByRecursion P m.log) (votes.is_above n.ballot t) (record n { ballot = votes.seen_ballot n.ballot t; role = nodes.Follower; leader = None; leading = nodes.not_leading }) n (λ e. a) (λ e. a)

heeded_brings : (P : Entry → Type 0) (n : nodes.Node) (from clock : ℕ) (p : Payload) → ((e : Entry) → e.body ≡ body.Blank → P e) → AllByRecursion P n.log → AllByRecursion P (entries_in p) → Brings P (steps.packet_heeded n from clock p)
heeded_brings P n from clock (payload.Vote t last last_term) blank a b = record { add = tt; packets = (tt, tt) }
heeded_brings P n from clock (payload.VoteReply t is_given) blank a b = vote_brings P (nodes.seen n t) from clock t is_given blank
heeded_brings P n from clock (payload.Append t prev prev_term commit round es) blank a b = append_brings P (nodes.seen n t) from t prev prev_term commit round es b
heeded_brings P n from clock (payload.AppendReply t ok place round) blank a b = answered_brings P (nodes.seen n t) from t ok place round (seen_keeps P n t a)
heeded_brings P n from clock p blank a b = quiet P n

pub did_brings : (P : Entry → Type 0) (n : nodes.Node) (i : RaftInput) → ((e : Entry) → e.body ≡ body.Blank → P e) → AllByRecursion P n.log → MayBring P n i → Brings P (steps.did n i)
did_brings P n (asked.Elect clock) blank a b = candidacy_brings P n clock blank
did_brings P n asked.Beat blank a b = record { add = tt; packets = each_map (λ (p : Packet). AllByRecursion P (entries_in p.payload)) (nodes.sent_to (nodes.ticked n)) (nodes.each_other (nodes.ticked n)) (λ k. sends P (nodes.ticked n) k a) }
did_brings P n (asked.Append clock bodies) blank a b = record { add = b (nodes.time_for n clock); packets = tt }
did_brings P n asked.Read blank a b = read_brings P n (progress.has_read_room n.leading.reads)
did_brings P n (asked.Message from clock p) blank a b = heeded_brings P n from clock p blank a b

cut_keeps : (P : Entry → Type 0) (log : List Entry) (cut : Option ℕ) → AllByRecursion P log → AllByRecursion P (logs.cut_before log cut)
cut_keeps P log None a = a
cut_keeps P log (Some p) a = each_take P (p - 1) log a

-- the log after a step
pub stepped_log : (P : Entry → Type 0) (n : nodes.Node) (i : RaftInput) → AllByRecursion P n.log → Brings P (steps.did n i) → AllByRecursion P (steps.stepped n i).log
stepped_log P n i a b = let d = steps.did n i in
    subst (AllByRecursion P) (sym (did_log n i).log_is) (each_append P (logs.cut_before n.log d.cut) d.add (cut_keeps P n.log d.cut a) b.add)

-- what the store calls of a step keep
abbrev pub Adds : (Entry → Type 0) → saving.Save → Type 0
Adds P (saving.Add es) = AllByRecursion P es
Adds P c = Unit {0}

vote_adds : (P : Entry → Type 0) (v : Option (ℕ × Option ℕ)) → AllByRecursion (Adds P) (saving.vote_call v)
vote_adds P None = tt
vote_adds P (Some v) = (tt, tt)

cut_adds : (P : Entry → Type 0) (c : Option ℕ) → AllByRecursion (Adds P) (saving.cut_call c)
cut_adds P None = tt
cut_adds P (Some c) = (tt, tt)

add_adds : (P : Entry → Type 0) (es : List Entry) → AllByRecursion P es → AllByRecursion (Adds P) (saving.add_call es)
add_adds P [] a = tt
add_adds P (e ∷ es) a = (a, tt)

calls_add : (P : Entry → Type 0) (s : Saves) → AllByRecursion P s.add → AllByRecursion (Adds P) (saving.calls_of s)
calls_add P s a = each_append (Adds P) (saving.vote_call s.vote) (saving.cut_call s.cut ++ saving.add_call s.add) (vote_adds P s.vote) (each_append (Adds P) (saving.cut_call s.cut) (saving.add_call s.add) (cut_adds P s.cut) (add_adds P s.add a))

saved_log : (P : Entry → Type 0) (kept : Loaded) (calls : List saving.Save) → AllByRecursion P kept.log → AllByRecursion (Adds P) calls → AllByRecursion P (saving.all_saved kept calls).log
saved_log P kept [] a b = a
saved_log P kept (saving.Vote t v ∷ calls) a b = saved_log P (saving.saved kept (saving.Vote t v)) calls a b.1
saved_log P kept (saving.Cut last ∷ calls) a b = saved_log P (saving.saved kept (saving.Cut last)) calls (each_take P last kept.log a) b.1
saved_log P kept (saving.Add es ∷ calls) a b = saved_log P (saving.saved kept (saving.Add es)) calls (each_append P kept.log es a b.0) b.1

staked : (P : Entry → Type 0) (c : saving.Save) → Adds P c → AllByRecursion P (saving.at_stake (Some c))
staked P (saving.Vote t v) a = tt
staked P (saving.Cut last) a = tt
staked P (saving.Add es) a = a

stake : (P : Entry → Type 0) (calls : List saving.Save) (n : ℕ) → AllByRecursion (Adds P) calls → AllByRecursion P (saving.at_stake (slice_get calls n))
stake P [] n a = tt
stake P (c ∷ calls) zero a = staked P c a.0
stake P (c ∷ calls) (suc n) a = stake P calls n a.1

-- the log that a step leaves whose store failed
pub halted_log : (P : Entry → Type 0) (n : nodes.Node) (i : RaftInput) (saved added : ℕ) → AllByRecursion P n.log → Brings P (steps.did n i) → AllByRecursion P (saving.kept_after (nodes.kept_of n) (saving.calls_of (steps.out n i).saves) saved added).log
halted_log P n i saved added a b =
    let calls = saving.calls_of (steps.out n i).saves in
    let c : AllByRecursion (Adds P) (saving.calls_of (steps.out n i).saves) = calls_add P (steps.out n i).saves b.add in
    each_append P (saving.kept_at_failure (nodes.kept_of n) calls saved).log (take added (saving.at_stake (slice_get calls saved)))
    (saved_log P (nodes.kept_of n) (take saved calls) a (each_take (Adds P) saved calls c))
    (each_take P added (saving.at_stake (slice_get calls saved)) (stake P calls saved c))
