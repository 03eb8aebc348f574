-- The parts of an item's line are read back from their words.
use Rattle.std.proofs.Common.{◌≡◌, ℕ, Bool, true, false, ◌&&◌, not, nat_eq, nat_lt, cond, Option, Some, None, List, [], ◌∷◌, ◌++◌, drop, slice_index_or, codes, refl, ap, ◌∙◌, arith}
use Rattle.std.proofs.lemmas.Bool.Decides.{nat_tests}
use Rattle.std.specs.Fmt.{decimal}
use Rattle.ax_types.specs.Ends as ax_types_ends
use Rattle.ax_types.specs.declared.ids.End.{End}
use Rattle.ax_types.specs.declared.ids.End.TheVariants as link_end
use Rattle.ax_types.specs.declared.ops.Level.{Level}
use Rattle.ax_types.specs.declared.ops.Level.TheVariants as level
use Rattle.ax_types.specs.declared.ops.Op.TheVariants as op
use Rattle.ax_types.specs.declared.ops.Query.TheVariants as query
use Rattle.ax_types.specs.declared.ops.WindowCall.{WindowCall}
use Rattle.ax_types.specs.declared.ops.WindowCall.TheVariants as call
use Rattle.ax_types.specs.declared.packets.PayloadKind.{PayloadKind}
use Rattle.ax_types.specs.declared.packets.PayloadKind.TheVariants as kind
use Rattle.ax_types.specs.declared.steps.WatchKind.{WatchKind}
use Rattle.ax_types.specs.declared.steps.WatchKind.TheVariants as watch
use Rattle.ax_types.specs.declared.items.SkipReason.{SkipReason}
use Rattle.ax_types.specs.declared.items.SkipReason.TheVariants as skip
use Rattle.spec_report.specs.CallLines as call_lines
use Rattle.spec_report.specs.Items as items
use Rattle.spec_wire.specs.Ranges as ranges
use Rattle.spec_report.specs.ReportValues as report_values
use Rattle.law_report.proofs.Words.{above, lacks, above-lacks, all-weaker, all-append, pieces, pieces-join, pieces-lacks, IsLine, word, join, at, is_word, eq-self}
use Rattle.law_report.proofs.Numbers.{number_back, number-back, number_line, decimal-above}
use Rattle.law_report.proofs.Operations.{op_words, op_back, op-line, op-back}
use Rattle.law_report.proofs.Queries.{query_words, query_back, query-line, query-back}

abbrev pub level_back : List ℕ → Level
level_back w =
    cond (is_word w (codes "seq")) level.Seq (
    level.Lin)

pub level-line : (o : Level) → IsLine (call_lines.level_text o) (call_lines.level_text o ∷ [])
level-line level.Seq = word (codes "seq") refl
level-line level.Lin = word (codes "lin") refl

pub level-back : (o : Level) → level_back (call_lines.level_text o) ≡ o
level-back level.Seq = refl
level-back level.Lin = refl

abbrev pub watch_back : List ℕ → WatchKind
watch_back w =
    cond (is_word w (codes "all")) watch.All (
    cond (is_word w (codes "changes")) watch.Changes (
    watch.Grants))

pub watch-line : (o : WatchKind) → IsLine (items.watch_text o) (items.watch_text o ∷ [])
watch-line watch.All = word (codes "all") refl
watch-line watch.Changes = word (codes "changes") refl
watch-line watch.Grants = word (codes "grants") refl

pub watch-back : (o : WatchKind) → watch_back (items.watch_text o) ≡ o
watch-back watch.All = refl
watch-back watch.Changes = refl
watch-back watch.Grants = refl

abbrev pub payload_kind_back : List ℕ → PayloadKind
payload_kind_back w =
    cond (is_word w (codes "Vote")) kind.Vote (
    cond (is_word w (codes "VoteReply")) kind.VoteReply (
    cond (is_word w (codes "Append")) kind.Append (
    cond (is_word w (codes "AppendReply")) kind.AppendReply (
    cond (is_word w (codes "Register")) kind.Register (
    cond (is_word w (codes "Keep")) kind.Keep (
    cond (is_word w (codes "Command")) kind.Command (
    cond (is_word w (codes "Close")) kind.Close (
    cond (is_word w (codes "Query")) kind.Query (
    cond (is_word w (codes "Connect")) kind.Connect (
    cond (is_word w (codes "Reset")) kind.Reset (
    cond (is_word w (codes "Opened")) kind.Opened (
    cond (is_word w (codes "Reply")) kind.Reply (
    cond (is_word w (codes "Gap")) kind.Gap (
    cond (is_word w (codes "Answer")) kind.Answer (
    cond (is_word w (codes "Batch")) kind.Batch (
    kind.Ended))))))))))))))))

pub payload_kind-line : (o : PayloadKind) → IsLine (items.payload_kind_text o) (items.payload_kind_text o ∷ [])
payload_kind-line kind.Vote = word (codes "Vote") refl
payload_kind-line kind.VoteReply = word (codes "VoteReply") refl
payload_kind-line kind.Append = word (codes "Append") refl
payload_kind-line kind.AppendReply = word (codes "AppendReply") refl
payload_kind-line kind.Register = word (codes "Register") refl
payload_kind-line kind.Keep = word (codes "Keep") refl
payload_kind-line kind.Command = word (codes "Command") refl
payload_kind-line kind.Close = word (codes "Close") refl
payload_kind-line kind.Query = word (codes "Query") refl
payload_kind-line kind.Connect = word (codes "Connect") refl
payload_kind-line kind.Reset = word (codes "Reset") refl
payload_kind-line kind.Opened = word (codes "Opened") refl
payload_kind-line kind.Reply = word (codes "Reply") refl
payload_kind-line kind.Gap = word (codes "Gap") refl
payload_kind-line kind.Answer = word (codes "Answer") refl
payload_kind-line kind.Batch = word (codes "Batch") refl
payload_kind-line kind.Ended = word (codes "Ended") refl

pub payload_kind-back : (o : PayloadKind) → payload_kind_back (items.payload_kind_text o) ≡ o
payload_kind-back kind.Vote = refl
payload_kind-back kind.VoteReply = refl
payload_kind-back kind.Append = refl
payload_kind-back kind.AppendReply = refl
payload_kind-back kind.Register = refl
payload_kind-back kind.Keep = refl
payload_kind-back kind.Command = refl
payload_kind-back kind.Close = refl
payload_kind-back kind.Query = refl
payload_kind-back kind.Connect = refl
payload_kind-back kind.Reset = refl
payload_kind-back kind.Opened = refl
payload_kind-back kind.Reply = refl
payload_kind-back kind.Gap = refl
payload_kind-back kind.Answer = refl
payload_kind-back kind.Batch = refl
payload_kind-back kind.Ended = refl

abbrev pub skip_words : SkipReason → List (List ℕ)
skip_words skip.NodeDown = codes "node-down" ∷ []
skip_words skip.IsLeader = codes "is-leader" ∷ []
skip_words skip.NotLeader = codes "not-leader" ∷ []
skip_words skip.NodeUp = codes "node-up" ∷ []
skip_words skip.NeverSent = codes "never-sent" ∷ []
skip_words skip.Gone = codes "gone" ∷ []
skip_words skip.Cut = codes "cut" ∷ []
skip_words skip.SessionOpen = codes "session-open" ∷ []
skip_words skip.NoSession = codes "no-session" ∷ []
skip_words skip.WindowFull = codes "window-full" ∷ []
skip_words (skip.Busy unanswered) = codes "busy" ∷ decimal unanswered ∷ []
skip_words skip.Watched = codes "watched" ∷ []

abbrev pub skip_back : List (List ℕ) → SkipReason
skip_back ws =
    cond (is_word (at 0 ws) (codes "node-down")) skip.NodeDown (
    cond (is_word (at 0 ws) (codes "is-leader")) skip.IsLeader (
    cond (is_word (at 0 ws) (codes "not-leader")) skip.NotLeader (
    cond (is_word (at 0 ws) (codes "node-up")) skip.NodeUp (
    cond (is_word (at 0 ws) (codes "never-sent")) skip.NeverSent (
    cond (is_word (at 0 ws) (codes "gone")) skip.Gone (
    cond (is_word (at 0 ws) (codes "cut")) skip.Cut (
    cond (is_word (at 0 ws) (codes "session-open")) skip.SessionOpen (
    cond (is_word (at 0 ws) (codes "no-session")) skip.NoSession (
    cond (is_word (at 0 ws) (codes "window-full")) skip.WindowFull (
    cond (is_word (at 0 ws) (codes "busy")) (skip.Busy (number_back (at 1 ws))) (
    skip.Watched)))))))))))

pub skip-line : (o : SkipReason) → report_values.FitsSkip o → IsLine (items.skip_text o) (skip_words o)
skip-line skip.NodeDown h = word (codes "node-down") refl
skip-line skip.IsLeader h = word (codes "is-leader") refl
skip-line skip.NotLeader h = word (codes "not-leader") refl
skip-line skip.NodeUp h = word (codes "node-up") refl
skip-line skip.NeverSent h = word (codes "never-sent") refl
skip-line skip.Gone h = word (codes "gone") refl
skip-line skip.Cut h = word (codes "cut") refl
skip-line skip.SessionOpen h = word (codes "session-open") refl
skip-line skip.NoSession h = word (codes "no-session") refl
skip-line skip.WindowFull h = word (codes "window-full") refl
skip-line (skip.Busy unanswered) h = join (word (codes "busy") refl) (number_line unanswered)
skip-line skip.Watched h = word (codes "watched") refl

pub skip-back : (o : SkipReason) → report_values.FitsSkip o → skip_back (skip_words o) ≡ o
skip-back skip.NodeDown h = refl
skip-back skip.IsLeader h = refl
skip-back skip.NotLeader h = refl
skip-back skip.NodeUp h = refl
skip-back skip.NeverSent h = refl
skip-back skip.Gone h = refl
skip-back skip.Cut h = refl
skip-back skip.SessionOpen h = refl
skip-back skip.NoSession h = refl
skip-back skip.WindowFull h = refl
skip-back (skip.Busy unanswered) h = λ i. skip.Busy (number-back unanswered h i)
skip-back skip.Watched h = refl

-- ---- calls

abbrev pub call_words : WindowCall → List (List ℕ)
call_words (call.Command name o) = codes "call" ∷ op_words name o
call_words (call.Query l name q) = codes "query" ∷ call_lines.level_text l ∷ query_words name q

abbrev pub call_back : List (List ℕ) → WindowCall
call_back ws =
    cond (is_word (at 0 ws) (codes "call")) (call.Command (at 2 ws) (op_back (drop 1 ws)))
    (call.Query (level_back (at 1 ws)) (at 3 ws) (query_back (drop 2 ws)))

pub call-line : (o : WindowCall) → report_values.FitsCall o → IsLine (call_lines.call_text o) (call_words o)
call-line (call.Command name o) h = join (word (codes "call") refl) (op-line name o h.0 h.1)
call-line (call.Query l name q) h = join (word (codes "query") refl) (join (level-line l) (query-line name q h.0 h.1))

pub call-back : (o : WindowCall) → report_values.FitsCall o → call_back (call_words o) ≡ o
call-back (call.Command name (op.Map o)) h = λ i. call.Command name (op-back name (op.Map o) h.1 i)
call-back (call.Command name (op.Value o)) h = λ i. call.Command name (op-back name (op.Value o) h.1 i)
call-back (call.Command name (op.Long o)) h = λ i. call.Command name (op-back name (op.Long o) h.1 i)
call-back (call.Command name (op.Lock o)) h = λ i. call.Command name (op-back name (op.Lock o) h.1 i)
call-back (call.Command name (op.Group o)) h = λ i. call.Command name (op-back name (op.Group o) h.1 i)
call-back (call.Command name (op.Set o)) h = λ i. call.Command name (op-back name (op.Set o) h.1 i)
call-back (call.Command name (op.Queue o)) h = λ i. call.Command name (op-back name (op.Queue o) h.1 i)
call-back (call.Command name (op.Multimap o)) h = λ i. call.Command name (op-back name (op.Multimap o) h.1 i)
call-back (call.Command name (op.Topic o)) h = λ i. call.Command name (op-back name (op.Topic o) h.1 i)
call-back (call.Query l name (query.Map q)) h = λ i. call.Query (level-back l i) name (query-back name (query.Map q) h.1 i)
call-back (call.Query l name (query.Value q)) h = λ i. call.Query (level-back l i) name (query-back name (query.Value q) h.1 i)
call-back (call.Query l name (query.Long q)) h = λ i. call.Query (level-back l i) name (query-back name (query.Long q) h.1 i)
call-back (call.Query l name (query.Lock q)) h = λ i. call.Query (level-back l i) name (query-back name (query.Lock q) h.1 i)
call-back (call.Query l name (query.Group q)) h = λ i. call.Query (level-back l i) name (query-back name (query.Group q) h.1 i)
call-back (call.Query l name (query.Set q)) h = λ i. call.Query (level-back l i) name (query-back name (query.Set q) h.1 i)
call-back (call.Query l name (query.Queue q)) h = λ i. call.Query (level-back l i) name (query-back name (query.Queue q) h.1 i)
call-back (call.Query l name (query.Multimap q)) h = λ i. call.Query (level-back l i) name (query-back name (query.Multimap q) h.1 i)
call-back (call.Query l name (query.Topic q)) h = λ i. call.Query (level-back l i) name (query-back name (query.Topic q) h.1 i)

-- ---- ends of links, and arrivals

digits_above : (n : ℕ) → above 32 (decimal n) ≡ true
digits_above n = all-weaker (nat_lt 46) (nat_lt 32) (λ x e. grind (arith, nat_tests)) (decimal n) (decimal-above n)

abbrev pub link_end_back : List ℕ → End
link_end_back w =
    cond (nat_eq (slice_index_or w 0 0) 110) (link_end.Node (number_back (drop 1 w))) (link_end.Client (number_back (drop 1 w)))

pub link_end-line : (e : End) → IsLine (ax_types_ends.link_end_text e) (ax_types_ends.link_end_text e ∷ [])
link_end-line (link_end.Node k) = word (110 ∷ decimal k) (digits_above k)
link_end-line (link_end.Client c) = word (99 ∷ decimal c) (digits_above c)

pub link_end-back : (e : End) → report_values.FitsEnd e → link_end_back (ax_types_ends.link_end_text e) ≡ e
link_end-back (link_end.Node k) h = λ i. link_end.Node (number-back k h i)
link_end-back (link_end.Client c) h = λ i. link_end.Client (number-back c h i)

pub arrival-line : (t a : ℕ) → IsLine (items.arrival_text t a) (items.arrival_text t a ∷ [])
arrival-line t a = word (items.arrival_text t a) (all-append (nat_lt 32) (decimal t) (46 ∷ decimal a) (digits_above t) (digits_above a))

no_dot : (n : ℕ) → lacks 46 (decimal n) ≡ true
no_dot n = above-lacks 46 46 refl (decimal n) (decimal-above n)

arrival-pieces : (t a : ℕ) → pieces 46 (items.arrival_text t a) ≡ decimal t ∷ decimal a ∷ []
arrival-pieces t a =
    pieces-join 46 (decimal t) (decimal a)
    ∙ (λ i. pieces-lacks 46 (decimal t) (no_dot t) i ++ pieces-lacks 46 (decimal a) (no_dot a) i)

abbrev pub term_back : List ℕ → ℕ
term_back w = number_back (at 0 (pieces 46 w))

abbrev pub arrival_back : List ℕ → ℕ
arrival_back w = number_back (at 1 (pieces 46 w))

pub term-back : (t a : ℕ) → ranges.IsNumber t → term_back (items.arrival_text t a) ≡ t
term-back t a h = ap (λ ws. number_back (at 0 ws)) (arrival-pieces t a) ∙ number-back t h

pub arrival-back : (t a : ℕ) → ranges.IsNumber a → arrival_back (items.arrival_text t a) ≡ a
arrival-back t a h = ap (λ ws. number_back (at 1 ws)) (arrival-pieces t a) ∙ number-back a h

lacks-join : (c : ℕ) (xs ys : List ℕ) → lacks c (xs ++ (c ∷ ys)) ≡ false
lacks-join c [] ys = rw (eq-self c) refl
lacks-join c (x ∷ xs) ys = rw (lacks-join c xs ys) (no_more (not (nat_eq x c)))
  where
    no_more : (b : Bool) → (b && false) ≡ false
    no_more true = refl
    no_more false = refl

abbrev pub reach_back : List ℕ → Option (ℕ × ℕ)
reach_back w = cond (lacks 46 w) None (Some (term_back w, arrival_back w))

pub reach-line : (r : Option (ℕ × ℕ)) → IsLine (items.reach_text r) (items.reach_text r ∷ [])
reach-line None = word (codes "-") refl
reach-line (Some r) = arrival-line r.0 r.1

pub reach-back : (r : Option (ℕ × ℕ)) → report_values.FitsReach r → reach_back (items.reach_text r) ≡ r
reach-back None h = refl
reach-back (Some r) h =
    ap (λ b. cond b None (Some (term_back (items.reach_text (Some r)), arrival_back (items.reach_text (Some r))))) (lacks-join 46 (decimal r.0) (decimal r.1))
    ∙ (λ i. Some (term-back r.0 r.1 h.0 i, arrival-back r.0 r.1 h.1 i))
