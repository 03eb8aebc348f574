-- The lines of a report are read from their words.
use Rattle.std.proofs.Common.{◌≡◌, ℕ, ◌<◌, ◌^◌, Bool, true, nat_eq, List, [], ◌∷◌, length, refl, ap, ◌∙◌, codes, lit<, arith}
use Rattle.std.proofs.lemmas.Bool.Decides.{nat_tests}
use Rattle.std.specs.Prelude.{Option, Some, None, option_and_then, option_map, if◌then◌else◌}
use Rattle.std.specs.Fmt.{decimal}
use Rattle.ax_types.specs.Ends as ends
use Rattle.ax_types.specs.declared.ids.End.{End}
use Rattle.ax_types.specs.declared.ops.Level.{Level}
use Rattle.ax_types.specs.declared.ops.WindowCall.{WindowCall}
use Rattle.ax_types.specs.declared.ops.WindowCall.TheVariants as call
use Rattle.ax_types.specs.declared.packets.PayloadKind.{PayloadKind}
use Rattle.ax_types.specs.declared.steps.WatchKind.{WatchKind}
use Rattle.ax_types.specs.declared.replies.How.{How}
use Rattle.ax_types.specs.declared.replies.Reply.{Reply}
use Rattle.ax_types.specs.declared.replies.Event.{Event}
use Rattle.ax_types.specs.declared.items.Item.{Item}
use Rattle.ax_types.specs.declared.items.Item.TheVariants as item
use Rattle.ax_types.specs.declared.entries.Act.{Act}
use Rattle.ax_types.specs.declared.entries.Act.TheVariants as act
use Rattle.ax_types.specs.declared.scripts.RunEnd.{RunEnd}
use Rattle.ax_types.specs.declared.scripts.RunEnd.TheVariants as run_end
use Rattle.spec_wire.specs.Ranges as ranges
use Rattle.spec_report.specs.CallLines as call_lines
use Rattle.spec_report.specs.Items as items
use Rattle.spec_report.specs.Replies as replies
use Rattle.spec_report.specs.Report as reports
use Rattle.spec_report.specs.ReportValues as report_values
use Rattle.spec_text.specs.Words as text_words
use Rattle.spec_text.specs.OperationWords as operation_words
use Rattle.spec_report_read.specs.ReplyWords as reply_words
use Rattle.spec_report_read.specs.ItemWords as item_words
use Rattle.law_report.proofs.Words.{IsLine, word, join}
use Rattle.law_report.proofs.Numbers.{number_line}
use Rattle.law_report.proofs.Items as back_items
use Rattle.law_report.proofs.Report as back_report
use Rattle.law_report.proofs.Operations as back_operations
use Rattle.law_report.proofs.Replies as back_replies
use Rattle.law_script.proofs.Parts.{both-read, pair-read}
use Rattle.law_script.proofs.Splits.{words-line}
use Rattle.law_report_read.specs.ReportReadBack as report_read_back
use Rattle.law_report_read.proofs.Parts.{number64-read, numbers-read, three_numbers-read, node-read, client-read, arrival-read, level_and_reach-read, command-read, call-read, reply-read, event-read, counted_events-read, watch-read, how-read, end-read, kind-read, reason-read}

-- ---- items

pub item-read : (i : Item) → report_values.FitsItem i → report_read_back.IsGrammarItem i → item_words.item_from (back_items.item_words i) ≡ Some i
item-read (item.Leader node term) h g = both-read (λ (k t : ℕ). item.Leader k t) (node-read node g) (number64-read term h.1)
item-read (item.Commit place) h g = ap (option_map item.Commit) (number64-read place h)
item-read (item.Reach node term arrival session number) h g =
    both-read (λ (r : ℕ × ℕ × ℕ) (p : ℕ × ℕ). item.Reach r.0 r.1 r.2 p.0 p.1)
    (both-read (λ (k : ℕ) (r : ℕ × ℕ). (k, r.0, r.1)) (node-read node g) (arrival-read term arrival h.1 h.2)) (numbers-read session number h.3 h.4)
item-read (item.Halted node) h g = ap (option_map item.Halted) (node-read node g)
item-read (item.Opened session client) h g = both-read (λ (s c : ℕ). item.Opened s c) (number64-read session h.0) (client-read client g)
item-read (item.Called session number call) h g =
    both-read (λ (p : ℕ × ℕ) (c : WindowCall). item.Called p.0 p.1 c) (numbers-read session number h.0 h.1) (call-read call h.2)
item-read (item.Event session place prev events) h g =
    both-read (λ (q : ℕ × ℕ × ℕ) (es : List Event). item.Event q.0 q.1 q.2 es) (three_numbers-read session place prev h.0 h.1 h.2) (counted_events-read events g h.3)
item-read (item.Watched client kind session place event) h g =
    both-read (λ (w : ℕ × WatchKind) (e : ℕ × ℕ × Event). item.Watched w.0 w.1 e.0 e.1 e.2)
    (pair-read (client-read client g) (watch-read kind))
    (both-read (λ (q : ℕ × ℕ) (e : Event). (q.0, q.1, e)) (numbers-read session place h.1 h.2) (event-read event h.3))
item-read (item.Reply session number place reply) h g =
    both-read (λ (q : ℕ × ℕ × ℕ) (r : Reply). item.Reply q.0 q.1 q.2 r) (three_numbers-read session number place h.0 h.1 h.2) (reply-read reply h.3)
item-read (item.Read session number level place reach reply) h g =
    both-read (λ (q : ℕ × ℕ × ℕ) (a : Level × Option (ℕ × ℕ) × Reply). item.Read q.0 q.1 a.0 q.2 a.1 a.2)
    (three_numbers-read session number place h.0 h.1 h.2)
    (both-read (λ (t : Level × Option (ℕ × ℕ)) (r : Reply). (t.0, t.1, r)) (level_and_reach-read level reach h.3 g) (reply-read reply h.4))
item-read (item.Ended session place how) h g =
    both-read (λ (q : ℕ × ℕ) (w : How). item.Ended q.0 q.1 w) (numbers-read session place h.0 h.1) (how-read how)
item-read (item.Doubt session number) h g = ap (option_map (λ (p : ℕ × ℕ). item.Doubt p.0 p.1)) (numbers-read session number h.0 h.1)
item-read (item.Lost session number) h g = ap (option_map (λ (p : ℕ × ℕ). item.Lost p.0 p.1)) (numbers-read session number h.0 h.1)
item-read (item.Unsent session number) h g = ap (option_map (λ (p : ℕ × ℕ). item.Unsent p.0 p.1)) (numbers-read session number h.0 h.1)
item-read (item.Unanswered session number) h g = ap (option_map (λ (p : ℕ × ℕ). item.Unanswered p.0 p.1)) (numbers-read session number h.0 h.1)
item-read (item.Listed count) h g = ap (option_map item.Listed) (number64-read count h)
item-read (item.Pending number from to kind) h g =
    both-read (λ (n : ℕ) (s : End × End × PayloadKind). item.Pending n s.0 s.1 s.2) (number64-read number h.0)
    (both-read (λ (w : End × End) (k : PayloadKind). (w.0, w.1, k)) (pair-read (end-read from g.0) (end-read to g.1)) (kind-read kind))
item-read (item.Skip reason) h g = ap (option_map item.Skip) (reason-read reason h)

pub item-line-read : (i : Item) → report_values.FitsItem i → report_read_back.IsGrammarItem i → item_words.item_from (text_words.words_of (items.item_line i)) ≡ Some i
item-line-read i h g = ap item_words.item_from (words-line (back_items.item-line i h)) ∙ item-read i h g

-- ---- entries

act-read : (a : Act) → report_values.FitsAct a → report_read_back.IsGrammarAct a → item_words.act_from (back_report.act_words a) ≡ Some a
act-read act.Nothing h g = refl
act-read (act.Open client opening) h g = both-read (λ (c o : ℕ). act.Open c o) (client-read client g) (number64-read opening h.1)
act-read (act.Keep session) h g = ap (option_map act.Keep) (number64-read session h)
act-read (act.Do session name op) h g =
    ap (option_and_then (λ (s : ℕ). option_and_then (item_words.done_by s) (operation_words.command_call_of (back_operations.op_words name op)))) (number64-read session h.0)
    ∙ ap (option_and_then (item_words.done_by session)) (command-read name op h.1 h.2)
act-read (act.Close session) h g = ap (option_map act.Close) (number64-read session h)
act-read (act.Expire session) h g = ap (option_map act.Expire) (number64-read session h)

is_itself : (n : ℕ) → nat_eq n n ≡ true
is_itself n = grind (arith, nat_tests)

is_place : (place : ℕ) → ranges.IsNumber place → item_words.is_that_number place (reply_words.number64_from (decimal place)) ≡ true
is_place place h = ap (item_words.is_that_number place) (number64-read place h) ∙ is_itself place

entry-read : (place : ℕ) (e : ℕ × Act) → ranges.IsNumber place → report_values.FitsHistoryEntry e → report_read_back.IsGrammarEntry e
    → item_words.entry_from place (decimal place ∷ decimal e.0 ∷ back_report.act_words e.1) ≡ Some e
entry-read place e p h g =
    ap (λ v. if v then text_words.both (λ (t : ℕ) (a : Act). (t, a)) (reply_words.number64_from (decimal e.0)) (item_words.act_from (back_report.act_words e.1)) else None) (is_place place p)
    ∙ pair-read (number64-read e.0 h.0) (act-read e.1 h.1 g)

pub entry-line-read : (place : ℕ) (e : ℕ × Act) → ranges.IsNumber place → report_values.FitsHistoryEntry e → report_read_back.IsGrammarEntry e
    → item_words.entry_from place (text_words.words_of (reports.act_line place e)) ≡ Some e
entry-line-read place e p h g = ap (item_words.entry_from place) (words-line (back_report.entry-line place e h)) ∙ entry-read place e p h g

-- ---- calls that wait, and the end

waiting-line : (a : ℕ × ℕ) → IsLine (items.waiting_line a) (codes "waiting" ∷ decimal a.0 ∷ decimal a.1 ∷ [])
waiting-line a = join (word (codes "waiting") refl) (join (number_line a.0) (number_line a.1))

pub waiting-line-read : (a : ℕ × ℕ) → report_values.FitsCallNumber a → item_words.waiting_call_from (text_words.words_of (items.waiting_line a)) ≡ Some a
waiting-line-read a h = ap item_words.waiting_call_from (words-line (waiting-line a)) ∙ numbers-read a.0 a.1 h.0 h.1

pub end-word-read : (e : RunEnd) → report_values.FitsRunEnd e → item_words.run_end_from (text_words.words_of (reports.end_word e)) ≡ Some e
end-word-read run_end.Done h = refl
end-word-read (run_end.StepLimit line) h =
    ap item_words.run_end_from (words-line (join (word (codes "step-limit") refl) (number_line line)))
    ∙ ap (option_map run_end.StepLimit) (number64-read line h)
