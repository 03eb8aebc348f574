-- The parts of a line are read from their words.
use Rattle.std.proofs.Common.{◌≡◌, ℕ, suc, ◌+◌, ◌≤◌, ◌<◌, ◌^◌, Bool, true, false, not, cond, nat_eq, nat_lt, List, [], ◌∷◌, ◌++◌, map, take, drop, length, length-append, refl, ap, ◌∙◌, lit<, codes, arith}
use Rattle.std.proofs.lemmas.Bool.Decides.{nat_tests}
use Rattle.std.specs.Prelude.{◌-◌, ◌==◌, Option, Some, None, option_and_then, option_map}
use Rattle.std.specs.List.{AllByRecursion, position, position_or_len}
use Rattle.std.specs.Fmt.{decimal}
use Rattle.ax_types.specs.Ends as ends
use Rattle.ax_types.specs.declared.ids.End.{End}
use Rattle.ax_types.specs.declared.ids.End.TheVariants.{Node, Client}
use Rattle.ax_types.specs.declared.ops.MapOp.TheVariants as map_op
use Rattle.ax_types.specs.declared.ops.Op.{Op}
use Rattle.ax_types.specs.declared.ops.Op.TheVariants as op
use Rattle.ax_types.specs.declared.ops.Level.{Level}
use Rattle.ax_types.specs.declared.ops.Level.TheVariants.{Seq, Lin}
use Rattle.ax_types.specs.declared.ops.WindowCall.{WindowCall}
use Rattle.ax_types.specs.declared.ops.WindowCall.TheVariants as call
use Rattle.ax_types.specs.declared.packets.PayloadKind.{PayloadKind}
use Rattle.ax_types.specs.declared.packets.PayloadKind.TheVariants as kind
use Rattle.ax_types.specs.declared.steps.WatchKind.{WatchKind}
use Rattle.ax_types.specs.declared.steps.WatchKind.TheVariants.{All, Changes, Grants}
use Rattle.ax_types.specs.declared.items.SkipReason.{SkipReason}
use Rattle.ax_types.specs.declared.items.SkipReason.TheVariants as skip
use Rattle.ax_types.specs.declared.replies.How.{How}
use Rattle.ax_types.specs.declared.replies.How.TheVariants.{Closed, Expired}
use Rattle.ax_types.specs.declared.replies.Reply.{Reply}
use Rattle.ax_types.specs.declared.replies.Reply.TheVariants as reply
use Rattle.ax_types.specs.declared.replies.Event.{Event}
use Rattle.ax_types.specs.declared.replies.Event.TheVariants as event
use Rattle.spec_wire.specs.Ranges as ranges
use Rattle.spec_report.specs.CallLines as call_lines
use Rattle.spec_report.specs.Items as items
use Rattle.spec_report.specs.Replies as replies
use Rattle.spec_report.specs.ReportValues as report_values
use Rattle.spec_text.specs.Words as text_words
use Rattle.spec_text.specs.OperationWords as operation_words
use Rattle.spec_script.specs.StepLines as step_lines
use Rattle.spec_report_read.specs.ReplyWords as reply_words
use Rattle.spec_report_read.specs.ItemWords as item_words
use Rattle.law_report.proofs.Words.{above, and_first, and_second}
use Rattle.law_report.proofs.Numbers.{decimal-above}
use Rattle.law_report.proofs.Replies as back_replies
use Rattle.law_report.proofs.Operations as back_operations
use Rattle.law_report.proofs.Parts as back_parts
use Rattle.law_script.specs.StepForms as step_forms
use Rattle.law_script.proofs.Numbers.{number_within-read, signed-read}
use Rattle.law_script.proofs.Parts.{both-read, name-read, pair-read, text-read}
use Rattle.law_script.proofs.Operations.{command_call-read}
use Rattle.law_script.proofs.Queries.{leveled_call-read}
use Rattle.law_report_read.specs.ReportReadBack as report_read_back

-- ---- numbers

pub number64-read : (n : ℕ) → ranges.IsNumber n → reply_words.number64_from (decimal n) ≡ Some n
number64-read n h = number_within-read 0 (2 ^ 64 - 1) n (lit< tt) (omega arith, omega (arith, h))

pub numbers-read : (a b : ℕ) → ranges.IsNumber a → ranges.IsNumber b → reply_words.pair_of_numbers (decimal a) (decimal b) ≡ Some (a, b)
numbers-read a b h k = pair-read (number64-read a h) (number64-read b k)

pub three_numbers-read : (a b c : ℕ) → ranges.IsNumber a → ranges.IsNumber b → ranges.IsNumber c → item_words.three_numbers64 (decimal a) (decimal b) (decimal c) ≡ Some (a, b, c)
three_numbers-read a b c h k l = both-read (λ (p : ℕ × ℕ) (z : ℕ). (p.0, p.1, z)) (numbers-read a b h k) (number64-read c l)

pub all_numbers-read : (ns : List ℕ) → AllByRecursion ranges.IsNumber ns → reply_words.numbers64_from (map decimal ns) ≡ Some ns
all_numbers-read [] h = refl
all_numbers-read (n ∷ ns) h = both-read (λ (m : ℕ) (ms : List ℕ). m ∷ ms) (number64-read n h.0) (all_numbers-read ns h.1)

pub node-read : (k : ℕ) → step_forms.IsWithin 1 9 k → text_words.node_of 9 (decimal k) ≡ Some k
node-read k h = number_within-read 1 9 k (lit< tt) h

pub client-read : (c : ℕ) → step_forms.IsWithin 1 16 c → text_words.client_of 16 (decimal c) ≡ Some c
client-read c h = number_within-read 1 16 c (lit< tt) h

-- ---- arrivals

no_dot : (x : ℕ) → nat_lt 46 x ≡ true → not (x == 46) ≡ true
no_dot x h = grind (arith, nat_tests)

one_more : (n : ℕ) → 1 + n ≡ suc n
one_more n = omega arith

one_behind : (n : ℕ) → suc n + 1 ≡ suc (n + 1)
one_behind n = omega arith

before_dot : (xs ys : List ℕ) → above 46 xs ≡ true → position_or_len (λ b. b == 46) (xs ++ (46 ∷ ys)) ≡ length xs
before_dot [] ys h = refl
before_dot (x ∷ xs) ys h = rw (no_dot x (and_first (nat_lt 46 x) (above 46 xs) h))
    (ap (λ n. 1 + n) (before_dot xs ys (and_second (nat_lt 46 x) (above 46 xs) h)) ∙ one_more (length xs))

take_front : (xs ys : List ℕ) → take (length xs) (xs ++ ys) ≡ xs
take_front [] ys = refl
take_front (x ∷ xs) ys = ap (λ t. x ∷ t) (take_front xs ys)

drop_front : (xs : List ℕ) (y : ℕ) (ys : List ℕ) → drop (length xs + 1) (xs ++ (y ∷ ys)) ≡ ys
drop_front [] y ys = refl
drop_front (x ∷ xs) y ys = ap (λ n. drop n (x ∷ (xs ++ (y ∷ ys)))) (one_behind (length xs)) ∙ drop_front xs y ys

is_within : (xs ys : List ℕ) → nat_lt (length xs) (length (xs ++ (46 ∷ ys))) ≡ true
is_within xs ys = let e = length-append xs (46 ∷ ys) in grind (arith, nat_tests)

dot_at : (xs ys : List ℕ) → above 46 xs ≡ true → position (λ b. b == 46) (xs ++ (46 ∷ ys)) ≡ Some (length xs)
dot_at xs ys h = rw (before_dot xs ys h) (rw (is_within xs ys) refl)

pub arrival-read : (t a : ℕ) → ranges.IsNumber t → ranges.IsNumber a → item_words.arrival_from (items.arrival_text t a) ≡ Some (t, a)
arrival-read t a h k =
    ap (item_words.dotted_at (items.arrival_text t a)) (dot_at (decimal t) (decimal a) (decimal-above t))
    ∙ (λ i. reply_words.pair_of_numbers (take_front (decimal t) (46 ∷ decimal a) i) (drop_front (decimal t) 46 (decimal a) i))
    ∙ numbers-read t a h k

pub reach-read : (level : Level) (r : Option (ℕ × ℕ)) → report_values.FitsReach r → report_read_back.HasItsReach level r → item_words.reach_from level (items.reach_text r) ≡ Some r
reach-read Seq None h k = refl
reach-read Seq (Some reach) h k = absurd k
reach-read Lin None h k = absurd k
reach-read Lin (Some reach) h k = ap (option_map (λ (p : ℕ × ℕ). Some p)) (arrival-read reach.0 reach.1 h.0 h.1)

pub level_and_reach-read : (level : Level) (r : Option (ℕ × ℕ)) → report_values.FitsReach r → report_read_back.HasItsReach level r
    → item_words.level_and_reach (call_lines.level_text level) (items.reach_text r) ≡ Some (level, r)
level_and_reach-read Seq r h k = ap (option_map (λ (p : Option (ℕ × ℕ)). (Seq, p))) (reach-read Seq r h k)
level_and_reach-read Lin r h k = ap (option_map (λ (p : Option (ℕ × ℕ)). (Lin, p))) (reach-read Lin r h k)

-- ---- calls

life-fits : (o : Op) → ranges.FitsOp o → step_forms.HasLife o
life-fits (op.Map (map_op.PutFor key text life)) h = h.2
life-fits _ h = tt

pub command-read : (name : text_words.Word) (o : Op) → ranges.IsName name → ranges.FitsOp o → operation_words.command_call_of (back_operations.op_words name o) ≡ Some (call.Command name o)
command-read name o h k = command_call-read name o h k (life-fits o k)

pub call-read : (c : WindowCall) → report_values.FitsCall c → operation_words.call_of (back_parts.call_words c) ≡ Some c
call-read (call.Command name o) h = command-read name o h.0 h.1
call-read (call.Query level name q) h = leveled_call-read level name q h.0 h.1

-- ---- replies and events

pub reply-read : (r : Reply) → ranges.FitsReply r → reply_words.reply_from (back_replies.reply_words r) ≡ Some r
reply-read reply.Done h = refl
reply-read reply.Nothing h = refl
reply-read (reply.Found text) h = ap (option_map reply.Found) (text-read text h)
reply-read reply.Yes h = refl
reply-read reply.No h = refl
reply-read (reply.Number number) h = ap (option_map reply.Number) (signed-read number h)
reply-read (reply.Fence place) h = ap (option_map reply.Fence) (number64-read place h)
reply-read (reply.Holder session fence) h = ap (option_map (λ (p : ℕ × ℕ). reply.Holder p.0 p.1)) (numbers-read session fence h.0 h.1)
reply-read (reply.Leader session term) h = ap (option_map (λ (p : ℕ × ℕ). reply.Leader p.0 p.1)) (numbers-read session term h.0 h.1)
reply-read (reply.Members sessions) h = ap (option_map reply.Members) (all_numbers-read sessions h)
reply-read reply.Busy h = refl
reply-read reply.Already h = refl
reply-read reply.NotHolder h = refl
reply-read reply.NotMember h = refl
reply-read reply.Overflow h = refl
reply-read reply.Full h = refl
reply-read reply.WrongKind h = refl

-- the name of an event's resource, and its operands
named : (w n : text_words.Word) (ws : List text_words.Word) (e : Event) → ranges.IsName n → reply_words.named_event_from w n ws ≡ Some e
    → reply_words.event_from (w ∷ n ∷ ws) ≡ Some e
named w n ws e h k = ap (option_and_then (λ (name : text_words.Word). reply_words.named_event_from w name ws)) (name-read n h) ∙ k

pub event-read : (e : Event) → ranges.FitsEvent e → reply_words.event_from (back_replies.event_words e) ≡ Some e
event-read (event.Changed name key text) h =
    named (codes "changed") name (key ∷ text ∷ []) (event.Changed name key text) h.0
    (ap (option_map (λ (p : text_words.Word × text_words.Word). event.Changed name p.0 p.1)) (pair-read (name-read key h.1) (text-read text h.2)))
event-read (event.Removed name key) h =
    named (codes "removed") name (key ∷ []) (event.Removed name key) h.0 (ap (option_map (event.Removed name)) (name-read key h.1))
event-read (event.Set name text) h =
    named (codes "set") name (text ∷ []) (event.Set name text) h.0 (ap (option_map (event.Set name)) (text-read text h.1))
event-read (event.Cleared name) h = named (codes "cleared") name [] (event.Cleared name) h refl
event-read (event.Granted name fence) h =
    named (codes "granted") name (decimal fence ∷ []) (event.Granted name fence) h.0 (ap (option_map (event.Granted name)) (number64-read fence h.1))
event-read (event.Joined name session) h =
    named (codes "joined") name (decimal session ∷ []) (event.Joined name session) h.0 (ap (option_map (event.Joined name)) (number64-read session h.1))
event-read (event.Left name session) h =
    named (codes "left") name (decimal session ∷ []) (event.Left name session) h.0 (ap (option_map (event.Left name)) (number64-read session h.1))
event-read (event.Elected name session term) h =
    named (codes "elected") name (decimal session ∷ decimal term ∷ []) (event.Elected name session term) h.0
    (ap (option_map (λ (p : ℕ × ℕ). event.Elected name p.0 p.1)) (numbers-read session term h.1 h.2))
event-read (event.Message name text) h =
    named (codes "message") name (text ∷ []) (event.Message name text) h.0 (ap (option_map (event.Message name)) (text-read text h.1))

first_event : (e : Event) (rest : List text_words.Word) → reply_words.first_event_from (back_replies.event_words e ++ rest) ≡ reply_words.event_from (back_replies.event_words e)
first_event (event.Changed name key text) rest = refl
first_event (event.Removed name key) rest = refl
first_event (event.Set name text) rest = refl
first_event (event.Cleared name) rest = refl
first_event (event.Granted name fence) rest = refl
first_event (event.Joined name session) rest = refl
first_event (event.Left name session) rest = refl
first_event (event.Elected name session term) rest = refl
first_event (event.Message name text) rest = refl

event_behind : (e : Event) (rest : List text_words.Word) → reply_words.behind_event (back_replies.event_words e ++ rest) ≡ rest
event_behind (event.Changed name key text) rest = refl
event_behind (event.Removed name key) rest = refl
event_behind (event.Set name text) rest = refl
event_behind (event.Cleared name) rest = refl
event_behind (event.Granted name fence) rest = refl
event_behind (event.Joined name session) rest = refl
event_behind (event.Left name session) rest = refl
event_behind (event.Elected name session term) rest = refl
event_behind (event.Message name text) rest = refl

pub events-read : (es : List Event) → AllByRecursion ranges.FitsEvent es → reply_words.events_from (length es) (back_replies.events_words es) ≡ Some es
events-read [] h = refl
events-read (e ∷ es) h =
    both-read (λ (x : Event) (xs : List Event). x ∷ xs) (first_event e (back_replies.events_words es) ∙ event-read e h.0)
    (ap (reply_words.events_from (length es)) (event_behind e (back_replies.events_words es)) ∙ events-read es h.1)

pub counted_events-read : (es : List Event) → step_forms.IsWithin 1 (2 ^ 64 - 1) (length es) → AllByRecursion ranges.FitsEvent es
    → reply_words.counted_events_from (decimal (length es)) (back_replies.events_words es) ≡ Some es
counted_events-read es l h =
    ap (option_and_then (λ (n : ℕ). reply_words.events_from n (back_replies.events_words es))) (number_within-read 1 (2 ^ 64 - 1) (length es) (lit< tt) l) ∙ events-read es h

-- ---- other words

pub watch-read : (k : WatchKind) → step_lines.watch_kind_of (items.watch_text k) ≡ Some k
watch-read All = refl
watch-read Changes = refl
watch-read Grants = refl

pub how-read : (h : How) → item_words.how_from (replies.how_text h) ≡ Some h
how-read Closed = refl
how-read Expired = refl

pub end-read : (e : End) → step_forms.IsLinkEnd 9 16 e → step_lines.end_of 9 16 (ends.link_end_text e) ≡ Some e
end-read (Node k) h = ap (option_map Node) (node-read k h)
end-read (Client c) h = ap (option_map Client) (client-read c h)

pub kind-read : (k : PayloadKind) → item_words.payload_kind_from (items.payload_kind_text k) ≡ Some k
kind-read kind.Vote = refl
kind-read kind.VoteReply = refl
kind-read kind.Append = refl
kind-read kind.AppendReply = refl
kind-read kind.Register = refl
kind-read kind.Keep = refl
kind-read kind.Command = refl
kind-read kind.Close = refl
kind-read kind.Query = refl
kind-read kind.Connect = refl
kind-read kind.Reset = refl
kind-read kind.Opened = refl
kind-read kind.Reply = refl
kind-read kind.Gap = refl
kind-read kind.Answer = refl
kind-read kind.Batch = refl
kind-read kind.Ended = refl

pub reason-read : (r : SkipReason) → report_values.FitsSkip r → item_words.skip_reason_from (back_parts.skip_words r) ≡ Some r
reason-read skip.NodeDown h = refl
reason-read skip.IsLeader h = refl
reason-read skip.NotLeader h = refl
reason-read skip.NodeUp h = refl
reason-read skip.NeverSent h = refl
reason-read skip.Gone h = refl
reason-read skip.Cut h = refl
reason-read skip.SessionOpen h = refl
reason-read skip.NoSession h = refl
reason-read skip.WindowFull h = refl
reason-read (skip.Busy unanswered) h = ap (option_map skip.Busy) (number64-read unanswered h)
reason-read skip.Watched h = refl
